-- What is left of the run gives the whole run. It has at most 600 steps.
use Rattle.std.proofs.Common.{◌+◌, ◌-◌}
use Rattle.walker.proofs.run.Running.{Running}
use Rattle.walker.proofs.run.run.Given as goal

abbrev pub invariant-loop-next : goal.invariant-loop-next
invariant-loop-next l = Running l.chart l.pixels l.clockwise l.fn.from l.x l.y l.steps l.next

abbrev pub decreases-loop-next : goal.decreases-loop-next
decreases-loop-next l = 600 + l.fn.from.steps - l.steps
