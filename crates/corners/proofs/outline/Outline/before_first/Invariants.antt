-- From the last one down to this position all points are equal to the first.
use Prim.Native.Nat.{ℕ}
use mathlib.Core.List.{List, reverse}
use mathlib.Core.Path.{◌≡◌}
use lib.IntN.{ℤ}
use lib.Seq.{slice}
use Rattle.point.specs.Points.{points}
use Rattle.point.specs.declared.PointI32.{PointI32}
use Rattle.corners.specs.Corners.{first_other}
use Rattle.corners.proofs.outline.Outline.before_first.Given as goal

-- the first that differs from p, from position k - 1 down to 1
abbrev pub down : List ℤ → PointI32 → ℕ → PointI32
down list p k = first_other p (reverse (slice 1 k (points list)))

abbrev pub invariant-loop-k : goal.invariant-loop-k
invariant-loop-k l = down l.self.points.now l.p l.self.m ≡ down l.self.points.now l.p l.k
