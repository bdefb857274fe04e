-- The laws at work. The squared distance from a point to a segment, as `reduce.rs` computes it where the nearest place is inside the segment,
-- is finite, so never a NaN, and not negative; and a literal is bounded.
use mathlib.Core.Path.{◌≡◌, refl}
use mathlib.Core.Logic.{◌⊎◌, inl, inr}
use mathlib.Core.Bool.{true}
use Prim.Native.Nat.{◌≤◌}
use lib.Dec.{lit≤}
use lib.IntN.{ℤ, pos, nat_abs, ◌-ℤ◌}
use lib.Ieee.{Float, binary64, of_int, of_bits, add, sub, mul, div, ne}
use Rattle.laws.proofs.Integers.{squares_pos}
use Rattle.laws.proofs.Finite.{Below, Big, below_mono, of_int_below, add_below, sub_below, mul_below, div_below, add_nonneg, square_nonneg}
use Rattle.laws.specs.inside.Finite.{NonNeg}
use Rattle.laws.proofs.Whole.{Whole, of_int_whole, zero_whole, sub_whole, mul_whole, add_whole, whole_big}
use Rattle.laws.proofs.WholeTests.{ne_true_whole}

-- 0.5
half_below : Below 0 (of_bits binary64 0x3fe0000000000000)
unfolding of_bits
half_below = record { at_most = lit≤ tt }

half_nonneg : NonNeg (of_bits binary64 0x3fe0000000000000)
unfolding of_bits
half_nonneg = record { plus = refl }

-- the point (px, py), and the segment from (x, y) to (x₂, y₂)
module _ (px py x y x₂ y₂ : ℤ) (hpx : nat_abs px ≤ 16383) (hpy : nat_abs py ≤ 16383) (hx : nat_abs x ≤ 16383) (hy : nat_abs y ≤ 16383) (hx₂ : nat_abs x₂ ≤ 16383) (hy₂ : nat_abs y₂ ≤ 16383) where
  abbrev f : ℤ → Float
  f z = of_int binary64 z

  abbrev dx : Float
  dx = sub binary64 (f x₂) (f x)

  abbrev dy : Float
  dy = sub binary64 (f y₂) (f y)

  dx_whole : Whole 32766 dx (x₂ -ℤ x)
  dx_whole = sub_whole (of_int_whole x₂ hx₂ tt) (of_int_whole x hx tt) tt

  dy_whole : Whole 32766 dy (y₂ -ℤ y)
  dy_whole = sub_whole (of_int_whole y₂ hy₂ tt) (of_int_whole y hy tt) tt

  -- dx * dx + dy * dy, the divisor
  abbrev len2 : Float
  len2 = add binary64 (mul binary64 dx dx) (mul binary64 dy dy)

  len2_big : (ne dx (of_bits binary64 0) ≡ true) ⊎ (ne dy (of_bits binary64 0) ≡ true) → Big len2
  len2_big n = whole_big (add_whole (mul_whole dx_whole dx_whole tt) (mul_whole dy_whole dy_whole tt) tt) (squares_pos (x₂ -ℤ x) (y₂ -ℤ y) (λ a b. go a b n))
    where
      go : x₂ -ℤ x ≡ pos 0 → y₂ -ℤ y ≡ pos 0 → (ne dx (of_bits binary64 0) ≡ true) ⊎ (ne dy (of_bits binary64 0) ≡ true) → ⊥
      go a b (inl h) = ne_true_whole dx_whole zero_whole h a
      go a b (inr h) = ne_true_whole dy_whole zero_whole h b

  -- t, the place of the foot of the perpendicular; (ex, ey), the way from it to the point
  abbrev t : Float
  t = div binary64 (add binary64 (mul binary64 (sub binary64 (f px) (f x)) dx) (mul binary64 (sub binary64 (f py) (f y)) dy)) len2

  abbrev ex : Float
  ex = sub binary64 (f px) (add binary64 (f x) (mul binary64 dx t))

  abbrev ey : Float
  ey = sub binary64 (f py) (add binary64 (f y) (mul binary64 dy t))

  module _ (big : Big len2) where
    at : (z : ℤ) → nat_abs z ≤ 16383 → Below 14 (f z)
    at z h = of_int_below 14 z h tt

    dx_below : Below 15 dx
    dx_below = sub_below (at x₂ hx₂) (at x hx) tt

    dy_below : Below 15 dy
    dy_below = sub_below (at y₂ hy₂) (at y hy) tt

    t_below : Below 31 t
    t_below = div_below (add_below (mul_below (sub_below (at px hpx) (at x hx) tt) dx_below tt) (mul_below (sub_below (at py hpy) (at y hy) tt) dy_below tt) tt) big tt

    ex_below : Below 48 ex
    ex_below = sub_below (at px hpx) (add_below (at x hx) (mul_below dx_below t_below tt) tt) tt

    ey_below : Below 48 ey
    ey_below = sub_below (at py hpy) (add_below (at y hy) (mul_below dy_below t_below tt) tt) tt

    distance : Below 100 (add binary64 (mul binary64 ex ex) (mul binary64 ey ey)) × NonNeg (add binary64 (mul binary64 ex ex) (mul binary64 ey ey))
    distance = (
      below_mono (add_below (mul_below ex_below ex_below tt) (mul_below ey_below ey_below tt) tt) tt,
      add_nonneg (square_nonneg ex_below) (square_nonneg ey_below),
    )
