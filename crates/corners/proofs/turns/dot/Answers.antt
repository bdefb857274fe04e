-- Two products of short sides and their sum fit.
use Prim.Native.Nat.{◌≤◌}
use mathlib.Core.Path.{◌≡◌}
use mir.Syntax.{w32}
use mir.Val.{SFits, of_z, to_z}
use mir.ValLaws.{to_z-of_z}
use lib.IntN.{ℤ, nat_abs, ◌+ℤ◌, ◌*ℤ◌}
use borrow.Author.Rules.{rules}
use Rattle.laws.proofs.Integers.{abs_mul_le, abs_add_le, add_sfits, mul_sfits}
use Rattle.point.specs.declared.PointI32.{PointI32}
use Rattle.util.proofs.ByBits.{by_bits}
use Rattle.corners.specs.Corners.{dot}
use Rattle.corners.specs.inside.Sizes.{Short}
use Rattle.corners.proofs.turns.dot.Goals as goal

-- a number is handed on by its bits
abbrev times : ℤ → ℤ → ℤ
times a b = to_z w32 (of_z w32 (to_z w32 (of_z w32 a) *ℤ to_z w32 (of_z w32 b)))

times_is : (a b : ℤ) → nat_abs a ≤ 32766 → nat_abs b ≤ 32766 → times a b ≡ a *ℤ b
times_is a b ha hb = rw (by_bits a ha, by_bits b hb, to_z-of_z w32 (a *ℤ b) (mul_sfits a b ha hb tt))

module _ (v1 v2 : PointI32) (s1 : Short v1) (s2 : Short v2) where
  bound : nat_abs (dot v1 v2) ≤ 2147221512
  bound = abs_add_le (v1.x *ℤ v2.x) (v1.y *ℤ v2.y) (abs_mul_le v1.x v2.x s1.across s2.across) (abs_mul_le v1.y v2.y s1.down s2.down)

  sum_is : times v1.x v2.x +ℤ times v1.y v2.y ≡ dot v1 v2
  sum_is = rw (times_is v1.x v2.x s1.across s2.across, times_is v1.y v2.y s1.down s2.down)

  fits : SFits w32 (times v1.x v2.x +ℤ times v1.y v2.y)
  fits =
      rw sum_is
      (add_sfits (v1.x *ℤ v2.x) (v1.y *ℤ v2.y) (abs_mul_le v1.x v2.x s1.across s2.across) (abs_mul_le v1.y v2.y s1.down s2.down) tt)

  by_its_bits : to_z w32 (of_z w32 (times v1.x v2.x +ℤ times v1.y v2.y)) ≡ dot v1 v2
  by_its_bits = rw (to_z-of_z w32 (times v1.x v2.x +ℤ times v1.y v2.y) fits) sum_is

  answered : (to_z w32 (of_z w32 (times v1.x v2.x +ℤ times v1.y v2.y)) ≡ dot v1 v2)
      × (nat_abs (to_z w32 (of_z w32 (times v1.x v2.x +ℤ times v1.y v2.y))) ≤ 2147221512)
  answered = (by_its_bits, rw by_its_bits bound)

pub overflow_add-result : goal.overflow_add-result
overflow_add-result c = search (fits, rules)

pub returns : goal.returns
returns c = answered c.args.v1 c.args.v2 c.requires.0 c.requires.1
