-- The points so far and what is left of the walk give the count of the whole. What is left of the step limit falls.
use Rattle.std.proofs.Common.{◌-◌}
use Rattle.walker.proofs.course.Counting.{Counting}
use Rattle.walker.proofs.course.count.Given as goal

abbrev pub invariant-loop-at : goal.invariant-loop-at
invariant-loop-at l = Counting l.chart l.pixels l.clockwise l.start l.fn.way l.at l.points

abbrev pub decreases-loop-at : goal.decreases-loop-at
decreases-loop-at l = 1000001 - l.at.steps
