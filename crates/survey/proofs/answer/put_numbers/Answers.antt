-- The numbers and a newline are a line. Assumes nothing.
use Rattle.frames.proofs.Claims.{numbered_short}
use Rattle.survey.proofs.Lines.{line_put}
use Rattle.survey.proofs.answer.put_numbers.Goals as goal

pub returns-clause-put : goal.returns-clause-put
returns-clause-put c = line_put _ _ _ _ _ _ _ c.put_numbered.ensures.put c.put_byte.ensures.put (numbered_short _) c.requires
