-- A refusal is handed on, and else the round.
use Rattle.smooth.proofs.Verdicts.{refused_outcome, done_outcome}
use Rattle.smooth.proofs.subdivide.subdivide_keep_corners.Goals as goal

pub returns-in_err-judge : goal.returns-in_err-judge
returns-in_err-judge c = refused_outcome _ _ _ _ _ _ _ c.judge.ensures _ c.in_err-judge.was _ c.from_residual.ensures.1

pub returns : goal.returns
returns c = done_outcome _ _ _ _ _ _ _ c.judge.ensures c.in_ok-judge.was _ _ _ c.round.ensures
