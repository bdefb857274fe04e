-- What is added up, and what the points ahead add, is what the whole list has.
use Rattle.std.proofs.Common.{◌≡◌}
use Rattle.point.specs.Points.{point_at}
use Rattle.areas.proofs.Chosen.{Chosen}
use Rattle.areas.proofs.sums.add_up.Given as goal

abbrev pub invariant-loop-k : goal.invariant-loop-k
invariant-loop-k l = (l.first ≡ point_at l.points 0) × Chosen l.points l.marks l.k l.prev l.from l.sums
