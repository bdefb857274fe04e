-- What is added up, and what the points ahead add, is the whole.
use Rattle.std.proofs.Common.{◌≤◌, ◌≡◌}
use Rattle.point.specs.Points.{point_at}
use Rattle.areas.proofs.Ways.{Along}
use Rattle.areas.proofs.sums.area.Given as goal

abbrev pub invariant-loop-k : goal.invariant-loop-k
invariant-loop-k l = (l.k ≤ 4096) × (l.first ≡ point_at l.points 0) × Along l.points l.k l.prev l.sum
