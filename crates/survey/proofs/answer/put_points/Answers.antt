-- The points and a newline are a line. Assumes nothing.
use Rattle.survey.proofs.Lines.{few_points_short, line_put}
use Rattle.survey.proofs.answer.put_points.Goals as goal

pub returns-clause-put : goal.returns-clause-put
returns-clause-put c = line_put _ _ _ _ _ _ _ c.put_points.ensures.put c.put_byte.ensures.put (few_points_short _ _ _ c.requires.0) c.requires.1
