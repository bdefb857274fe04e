-- What is written and what is left of the walk make the whole. What is left of the step limit falls.
use Rattle.std.proofs.Common.{◌-◌}
use Rattle.walker.proofs.course.Writing.{Writing}
use Rattle.walker.proofs.course.write.Given as goal

abbrev pub invariant-loop-chart : goal.invariant-loop-chart
invariant-loop-chart l = Writing l.chart l.pixels l.clockwise l.start l.fn.way l.fn.out l.out l.pen l.i

abbrev pub decreases-loop-chart : goal.decreases-loop-chart
decreases-loop-chart l = 1000001 - l.pen.steps
