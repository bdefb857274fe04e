-- All points before this position are equal to `p`.
use Prim.Native.Nat.{ℕ, ◌<◌, ◌≤◌}
use mathlib.Core.Path.{◌≡◌}
use Rattle.point.specs.Points.{point_at}
use Rattle.corners.proofs.nearest.first_other.Given as goal

abbrev pub invariant-loop-k : goal.invariant-loop-k
invariant-loop-k l = (j : ℕ) → 0 ≤ j → j < l.k → point_at l.points j ≡ l.p
