-- The numbers that a corner is judged by are moderate, and each is handed on by its bits.
use Prim.Native.Nat.{◌≤◌}
use mathlib.Core.Path.{◌≡◌, ◌∙◌}
use native.Mathlib.Omega.{arith}
use mir.Syntax.{w32, w64}
use mir.Val.{SFits, of_z, to_z}
use mir.ValLaws.{to_z-of_z}
use lib.IntN.{ℤ, pos, neg_ℤ, nat_abs, ◌-ℤ◌, ◌*ℤ◌}
use lib.Signed.{le_z}
use Rattle.laws.proofs.Integers.{sfits_abs, abs_neg, abs_mul_le, abs_sub_le, mul_sfits, sub_sfits}
use Rattle.point.specs.declared.PointI32.{PointI32}
use Rattle.util.specs.Area.{cross_of}
use Rattle.util.proofs.ByBits.{by_bits}
use Rattle.corners.specs.declared.Pair.{Pair}
use Rattle.corners.specs.Corners.{dot, cross, sharp}
use Rattle.corners.specs.inside.Sizes.{Short}
use Rattle.corners.proofs.Bits.{wide_by_bits}
use Rattle.corners.proofs.turns.Angle.sharp.Goals as goal

-- the cross product of two short vectors
module _ (v1 v2 : PointI32) (s1 : Short v1) (s2 : Short v2) (r : ℤ)
    (e : r ≡ cross_of (to_z w32 (of_z w32 v1.x)) (to_z w32 (of_z w32 v1.y)) (to_z w32 (of_z w32 v2.x)) (to_z w32 (of_z w32 v2.y))) where
  crossed : r ≡ cross v1 v2
  crossed = rw (e, by_bits v1.x s1.across, by_bits v1.y s1.down, by_bits v2.x s2.across, by_bits v2.y s2.down)

  small : nat_abs r ≤ 2147221512
  small =
      rw crossed
      (abs_sub_le (v1.x *ℤ v2.y) (v2.x *ℤ v1.y) (abs_mul_le v1.x v2.y s1.across s2.down) (abs_mul_le v2.x v1.y s2.across s1.down))

  crossed_by_bits : to_z w64 (of_z w64 r) ≡ cross v1 v2
  crossed_by_bits = rw (wide_by_bits r (omega (arith, small))) crossed

  turned_about : SFits w64 (neg_ℤ (to_z w64 (of_z w64 r)))
  turned_about = rw (wide_by_bits r (omega (arith, small))) (sfits_abs (rw (abs_neg r) (omega (arith, small))))

-- a number of the pair, times one of the vectors'
abbrev scaled : ℤ → ℤ → ℤ
scaled a b = to_z w64 (of_z w64 a) *ℤ to_z w64 (of_z w64 b)

module _ (k v a : ℤ) (h : nat_abs k ≤ 1000) (l : nat_abs v ≤ 2147221512) (ea : a ≡ to_z w32 (of_z w32 k)) where
  scaled_is : scaled a v ≡ k *ℤ v
  scaled_is =
      let f : a ≡ k = ea ∙ by_bits k (omega arith) in
      rw (f, wide_by_bits k (omega arith), wide_by_bits v (omega arith))

  scaled_fits : SFits w64 (scaled a v)
  scaled_fits = rw scaled_is (mul_sfits k v h l tt)

  scaled_within : nat_abs (scaled a v) ≤ 2147221512000
  scaled_within = rw scaled_is (abs_mul_le k v h l)

-- the difference of two such products
abbrev less : ℤ → ℤ → ℤ → ℤ → ℤ
less a v b w = to_z w64 (of_z w64 (scaled a v)) -ℤ to_z w64 (of_z w64 (scaled b w))

module _ (pair : Pair) (v1 v2 : PointI32) (cosine : nat_abs pair.c ≤ 1000) (sine : nat_abs pair.s ≤ 1000) (s1 : Short v1) (s2 : Short v2) (r : ℤ)
    (e : r ≡ cross_of (to_z w32 (of_z w32 v1.x)) (to_z w32 (of_z w32 v1.y)) (to_z w32 (of_z w32 v2.x)) (to_z w32 (of_z w32 v2.y)))
    (size : ℤ) (sized : size ≡ pos (nat_abs (to_z w64 (of_z w64 r)))) (a : ℤ) (ea : a ≡ to_z w32 (of_z w32 pair.c)) where
  size_is : size ≡ pos (nat_abs (cross v1 v2))
  size_is = rw (sized, crossed_by_bits v1 v2 s1 s2 r e)

  size_small : nat_abs size ≤ 2147221512
  size_small = rw (sized, wide_by_bits r (omega (arith, small v1 v2 s1 s2 r e))) (small v1 v2 s1 s2 r e)

  first_fits : SFits w64 (scaled a size)
  first_fits = scaled_fits pair.c size a cosine size_small ea

  module _ (d : ℤ) (ed : d ≡ dot v1 v2) (hd : nat_abs d ≤ 2147221512) (w : ℤ) (ew : w ≡ to_z w32 (of_z w32 d)) (b : ℤ) (eb : b ≡ to_z w32 (of_z w32 pair.s)) where
    w_is : w ≡ d
    w_is = ew ∙ to_z-of_z w32 d (sfits_abs (omega arith))

    w_small : nat_abs w ≤ 2147221512
    w_small = rw w_is hd

    less_is : less a size b w ≡ pair.c *ℤ size -ℤ pair.s *ℤ w
    less_is =
        rw (
          wide_by_bits (scaled a size) (scaled_within pair.c size a cosine size_small ea),
          wide_by_bits (scaled b w) (scaled_within pair.s w b sine w_small eb),
          scaled_is pair.c size a cosine size_small ea,
          scaled_is pair.s w b sine w_small eb,
        )

    both_fit : SFits w64 (less a size b w)
    both_fit =
        rw less_is (sub_sfits (pair.c *ℤ size) (pair.s *ℤ w) (abs_mul_le pair.c size cosine size_small) (abs_mul_le pair.s w sine w_small) tt)

    judged : le_z (pos 0) (to_z w64 (of_z w64 (less a size b w))) ≡ sharp pair v1 v2
    unfolding sharp
    judged = rw (to_z-of_z w64 (less a size b w) both_fit, less_is, size_is, w_is, ed)

pub abs-cross-requires : goal.abs-cross-requires
abs-cross-requires c = turned_about c.args.v1 c.args.v2 c.requires.0 c.requires.1 c.cross.result c.cross.ensures

pub overflow_mul-result : goal.overflow_mul-result
overflow_mul-result c =
    first_fits c.args.self.pair c.args.v1 c.args.v2 c.args.self.cosine c.args.self.sine c.requires.0 c.requires.1 c.cross.result c.cross.ensures c.abs-cross.result c.abs-cross.ensures.value
    c.from.result c.from.ensures

pub overflow_sub-result : goal.overflow_sub-result
overflow_sub-result c =
    both_fit c.args.self.pair c.args.v1 c.args.v2 c.args.self.cosine c.args.self.sine c.requires.0 c.requires.1 c.cross.result c.cross.ensures c.abs-cross.result c.abs-cross.ensures.value
    c.from.result c.from.ensures c.dot.result c.dot.ensures.0 c.dot.ensures.1 c.from-dot.result c.from-dot.ensures c.from-2.result c.from-2.ensures

pub returns : goal.returns
returns c =
    judged c.args.self.pair c.args.v1 c.args.v2 c.args.self.cosine c.args.self.sine c.requires.0 c.requires.1 c.cross.result c.cross.ensures c.abs-cross.result c.abs-cross.ensures.value
    c.from.result c.from.ensures c.dot.result c.dot.ensures.0 c.dot.ensures.1 c.from-dot.result c.from-dot.ensures c.from-2.result c.from-2.ensures
