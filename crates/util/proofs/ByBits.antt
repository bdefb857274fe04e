-- The area of three points that lie within the limits, as code works it out: four differences, two products and their difference, each
-- handed on by its bits. Assumes nothing.
use Prim.Native.Nat.{◌≤◌}
use mathlib.Core.Bool.{Bool, true}
use mathlib.Core.Path.{◌≡◌, sym, ◌∙◌}
use native.Mathlib.Omega.{arith}
use mir.Syntax.{w32, w64}
use mir.Val.{SFits, of_z, to_z}
use mir.ValLaws.{to_z-of_z}
use lib.IntN.{ℤ, nat_abs, ◌-ℤ◌, ◌*ℤ◌}
use Rattle.laws.proofs.Integers.{sfits_abs, abs_sub_le, abs_mul_le, sub_sfits, mul_sfits}
use Rattle.point.specs.Limits.{point_in_range}
use Rattle.point.specs.declared.PointI32.{PointI32}
use Rattle.util.specs.Area.{cross_of, signed_area}
use Rattle.point.specs.inside.Near.{Near}
use Rattle.point.proofs.Near.{in_range_near}

-- a number within twice the limits is its own by its bits, and so is a coordinate
pub by_bits : (z : ℤ) → nat_abs z ≤ 32766 → to_z w32 (of_z w32 z) ≡ z
by_bits z h = to_z-of_z w32 z (sfits_abs (omega arith))

-- and so is a number of `i64` that is not among the largest
pub wide_by_bits : (z : ℤ) → nat_abs z ≤ 9000000000000000000 → to_z w64 (of_z w64 z) ≡ z
wide_by_bits z h = to_z-of_z w64 z (sfits_abs (omega arith))

module _ (p : PointI32) (n : Near p) where
  pub x_by_bits : to_z w32 (of_z w32 p.x) ≡ p.x
  x_by_bits = by_bits p.x (omega (arith, n.across))

  pub y_by_bits : to_z w32 (of_z w32 p.y) ≡ p.y
  y_by_bits = by_bits p.y (omega (arith, n.down))

-- the difference of two coordinates
abbrev pub apart : ℤ → ℤ → ℤ
apart a b = to_z w32 (of_z w32 a) -ℤ to_z w32 (of_z w32 b)

module _ (a b : ℤ) (ha : nat_abs a ≤ 16383) (hb : nat_abs b ≤ 16383) where
  apart_is : apart a b ≡ a -ℤ b
  apart_is = rw (by_bits a (omega arith), by_bits b (omega arith))

  pub apart_fits : SFits w32 (apart a b)
  apart_fits = rw apart_is (sub_sfits a b ha hb tt)

  pub apart_by_bits : to_z w32 (of_z w32 (apart a b)) ≡ a -ℤ b
  apart_by_bits = rw (to_z-of_z w32 (apart a b) apart_fits) apart_is

  pub apart_within : nat_abs (a -ℤ b) ≤ 32766
  apart_within = abs_sub_le a b ha hb

-- a point that was found in range
module _ (p : PointI32) (r : Bool) (says : r ≡ point_in_range p) (good : r ≡ true) where
  pub near : Near p
  near = in_range_near p (sym says ∙ good)

  pub across : nat_abs p.x ≤ 16383
  across = near.across

  pub down : nat_abs p.y ≤ 16383
  down = near.down

-- the product of two such differences
abbrev times : ℤ → ℤ → ℤ → ℤ → ℤ
times a b c d = to_z w32 (of_z w32 (apart a b)) *ℤ to_z w32 (of_z w32 (apart c d))

module _ (a b c d : ℤ) (ha : nat_abs a ≤ 16383) (hb : nat_abs b ≤ 16383) (hc : nat_abs c ≤ 16383) (hd : nat_abs d ≤ 16383) where
  times_is : times a b c d ≡ (a -ℤ b) *ℤ (c -ℤ d)
  times_is = rw (apart_by_bits a b ha hb, apart_by_bits c d hc hd)

  pub times_fits : SFits w32 (times a b c d)
  times_fits = rw times_is (mul_sfits (a -ℤ b) (c -ℤ d) (apart_within a b ha hb) (apart_within c d hc hd) tt)

  pub times_by_bits : to_z w32 (of_z w32 (times a b c d)) ≡ (a -ℤ b) *ℤ (c -ℤ d)
  times_by_bits = rw (to_z-of_z w32 (times a b c d) times_fits) times_is

  pub times_within : nat_abs ((a -ℤ b) *ℤ (c -ℤ d)) ≤ 1073610756
  times_within = abs_mul_le (a -ℤ b) (c -ℤ d) (apart_within a b ha hb) (apart_within c d hc hd)

-- and the difference of two such products
abbrev turned : (a b c d e f g h : ℤ) → ℤ
turned a b c d e f g h = to_z w32 (of_z w32 (times a b c d)) -ℤ to_z w32 (of_z w32 (times e f g h))

module _ (a b c d e f g h : ℤ) (ha : nat_abs a ≤ 16383) (hb : nat_abs b ≤ 16383) (hc : nat_abs c ≤ 16383) (hd : nat_abs d ≤ 16383)
    (he : nat_abs e ≤ 16383) (hf : nat_abs f ≤ 16383) (hg : nat_abs g ≤ 16383) (hh : nat_abs h ≤ 16383) where
  turned_is : turned a b c d e f g h ≡ (a -ℤ b) *ℤ (c -ℤ d) -ℤ (e -ℤ f) *ℤ (g -ℤ h)
  turned_is = rw (times_by_bits a b c d ha hb hc hd, times_by_bits e f g h he hf hg hh)

  pub turned_fits : SFits w32 (turned a b c d e f g h)
  turned_fits =
      rw turned_is (
      sub_sfits ((a -ℤ b) *ℤ (c -ℤ d)) ((e -ℤ f) *ℤ (g -ℤ h)) (times_within a b c d ha hb hc hd) (times_within e f g h he hf hg hh) tt
      )

  pub turned_by_bits : to_z w32 (of_z w32 (turned a b c d e f g h)) ≡ (a -ℤ b) *ℤ (c -ℤ d) -ℤ (e -ℤ f) *ℤ (g -ℤ h)
  turned_by_bits = rw (to_z-of_z w32 (turned a b c d e f g h) turned_fits) turned_is

-- of three points it is their area
abbrev pub area_bits : PointI32 → PointI32 → PointI32 → ℤ
area_bits p1 p2 p3 = to_z w32 (of_z w32 (turned p2.x p1.x p3.y p1.y p3.x p1.x p2.y p1.y))

pub area_by_bits : (p1 p2 p3 : PointI32) → Near p1 → Near p2 → Near p3 → area_bits p1 p2 p3 ≡ signed_area p1 p2 p3
area_by_bits p1 p2 p3 n1 n2 n3 =
    turned_by_bits p2.x p1.x p3.y p1.y p3.x p1.x p2.y p1.y n2.across n1.across n3.down n1.down n3.across n1.across n2.down n1.down

-- and so is their cross product, which is worked out in `i64`
pub area_by_cross : (r : ℤ) (p1 p2 p3 : PointI32) → r ≡ cross_of (to_z w32 (of_z w32 (apart p2.x p1.x))) (to_z w32 (of_z w32 (apart p2.y p1.y))) (to_z w32 (of_z w32 (apart p3.x p1.x))) (to_z w32 (of_z w32 (apart p3.y p1.y))) →
    Near p1 → Near p2 → Near p3 → to_z w64 (of_z w64 r) ≡ signed_area p1 p2 p3
area_by_cross r p1 p2 p3 e n1 n2 n3 =
    let f : r ≡ signed_area p1 p2 p3 =
    rw (
      e,
      apart_by_bits p2.x p1.x n2.across n1.across,
      apart_by_bits p2.y p1.y n2.down n1.down,
      apart_by_bits p3.x p1.x n3.across n1.across,
      apart_by_bits p3.y p1.y n3.down n1.down,
    ) in
    let wide : SFits w64 (signed_area p1 p2 p3) =
    sub_sfits ((p2.x -ℤ p1.x) *ℤ (p3.y -ℤ p1.y)) ((p3.x -ℤ p1.x) *ℤ (p2.y -ℤ p1.y))
    (times_within p2.x p1.x p3.y p1.y n2.across n1.across n3.down n1.down)
    (times_within p3.x p1.x p2.y p1.y n3.across n1.across n2.down n1.down)
    tt in
    rw (f, to_z-of_z w64 (signed_area p1 p2 p3) wide)
