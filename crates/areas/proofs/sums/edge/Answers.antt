-- The cross product of two points within the limits is small.
use Prim.Native.Nat.{◌≤◌}
use mathlib.Core.Path.{◌≡◌, ◌∙◌}
use native.Mathlib.Omega.{arith}
use mir.Syntax.{w32, w64}
use mir.Val.{of_z, to_z}
use lib.IntN.{ℤ, nat_abs, ◌*ℤ◌}
use Rattle.laws.proofs.Integers.{abs_mul_le, abs_sub_le}
use Rattle.point.specs.declared.PointI32.{PointI32}
use Rattle.point.specs.inside.Near.{Near}
use Rattle.util.specs.Area.{cross_of}
use Rattle.util.proofs.ByBits.{x_by_bits, y_by_bits, wide_by_bits}
use Rattle.areas.specs.Areas.{edge}
use Rattle.areas.proofs.sums.edge.Goals as goal

module _ (p q : PointI32) (near : Near p) (near' : Near q) (r : ℤ)
    (e : r ≡ cross_of (to_z w32 (of_z w32 p.x)) (to_z w32 (of_z w32 p.y)) (to_z w32 (of_z w32 q.x)) (to_z w32 (of_z w32 q.y))) where
  crossed : r ≡ edge p q
  crossed = rw (e, x_by_bits p near, y_by_bits p near, x_by_bits q near', y_by_bits q near')

  small : nat_abs r ≤ 536805378
  small =
      rw crossed
      (abs_sub_le (p.x *ℤ q.y) (q.x *ℤ p.y) (abs_mul_le p.x q.y near.across near'.down) (abs_mul_le q.x p.y near'.across near.down))

  given : to_z w64 (of_z w64 r) ≡ edge p q
  given = wide_by_bits r (omega (arith, small)) ∙ crossed

  small_given : nat_abs (to_z w64 (of_z w64 r)) ≤ 536805378
  small_given = rw (wide_by_bits r (omega (arith, small))) small

pub returns : goal.returns
returns c = (search given, search small_given)
