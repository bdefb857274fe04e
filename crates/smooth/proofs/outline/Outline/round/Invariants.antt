-- What is written so far is the round of the points before this one.
use Rattle.std.proofs.Common.{length}
use Rattle.smooth.proofs.SoFar.{SoFar}
use Rattle.smooth.proofs.outline.Outline.round.Given as goal

abbrev pub invariant-loop-i : goal.invariant-loop-i
invariant-loop-i l =
    SoFar l.self.points.now l.self.corners.now l.self.settings l.self.closed (length l.self.corners.now)
    l.initial.out l.initial.flags l.i l.k l.finished l.out l.flags
