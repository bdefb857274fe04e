use Prim.Native.Nat.{ℕ, ◌+◌, ◌≤◌, ◌<◌}
use mathlib.Core.Bool.{false}
use mathlib.Core.List.{List}
use mathlib.Core.Path.{◌≡◌, ap, ◌∙◌}
use native.Mathlib.Omega.{arith}
use mir.Syntax.{w64}
use mir.Val.{of_z, to_z}
use lib.IntN.{ℤ, nat_abs, ◌+ℤ◌}
use borrow.Author.Rules.{rules}
use Rattle.laws.proofs.Integers.{abs_add_le}
use Rattle.point.specs.Limits.{bad_points}
use Rattle.point.specs.Points.{count, points, point_at}
use Rattle.point.specs.declared.PointI32.{PointI32}
use Rattle.util.proofs.ByBits.{wide_by_bits}
use Rattle.areas.specs.Areas.{edge, twice_area}
use Rattle.areas.proofs.Ways.{Along, near_at, near_prev, begun, passed, ended}
use Rattle.areas.proofs.sums.area.Goals as goal

-- the sum is handed on by its bits
module _ (list : List ℤ) (good : bad_points list ≡ false) (i : ℕ) (prev : PointI32) (sum : ℤ) (few : i ≤ 4096) (way : Along list i prev sum)
    (p : PointI32) (r : ℤ) (is : r ≡ edge prev p) (small : nat_abs r ≤ 536805378) where
  by_bits : to_z w64 (of_z w64 (sum +ℤ to_z w64 (of_z w64 r))) ≡ sum +ℤ r
  by_bits = rw (wide_by_bits r (omega arith)) (wide_by_bits (sum +ℤ r) (omega (arith, abs_add_le sum r way.small small)))

  one_passed : i < count list → p ≡ point_at list i → Along list (i + 1) p (to_z w64 (of_z w64 (sum +ℤ to_z w64 (of_z w64 r))))
  one_passed h at = rw by_bits (passed list good i prev sum way h p at (sum +ℤ r) (ap (λ (z : ℤ). sum +ℤ z) is))

  all_passed : count list ≤ i → p ≡ point_at list 0 → to_z w64 (of_z w64 (sum +ℤ to_z w64 (of_z w64 r))) ≡ twice_area (points list)
  all_passed h at =
      by_bits ∙ ended list good i prev sum way h (sum +ℤ r) (ap (λ (z : ℤ). sum +ℤ z) is ∙ ap (λ (q : PointI32). sum +ℤ edge prev q) at)

pub loop-k-init : goal.loop-k-init
loop-k-init c = (omega arith, c.point_at-first.ensures, begun _ _ c.point_at-first.ensures)

pub edge-sum-requires : goal.edge-sum-requires
edge-sum-requires c = (near_prev _ c.requires.0 _ _ _ c.loop-k.invariant.2, near_at _ c.requires.0 _ _ c.point_at-p.ensures)

pub loop-k-preserved : goal.loop-k-preserved
loop-k-preserved c = (omega arith, c.point_at-first.ensures, search (one_passed, rules))

pub edge-requires : goal.edge-requires
edge-requires c = (near_prev _ c.requires.0 _ _ _ c.loop-k.invariant.2, near_at _ c.requires.0 _ 0 c.point_at-first.ensures)

pub returns : goal.returns
returns c = search (all_passed, rules)
