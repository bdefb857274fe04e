-- The shift brings the leading digit to its place.
use Rattle.std.proofs.Common.{◌≡◌, ℕ, ◌+◌, ◌-◌, ◌*◌, ◌%◌, ◌^◌, ◌<◌, ◌≤◌, ap, ◌∙◌, sym, arith, rules}
use Prim.Native.Nat.{suc}
use native.Mathlib.Nat.{pow-suc, mul_assoc, mul-le-mul_right, mul-lt-mul_of_pos_right, lt_of_not-le, not-le_of_lt, le_trans}
use lib.Count.{count_leading_zeros, leading_top}
use lib.Ieee.{binary64, to_bits}
use lib.Pow.{pow-add, pow_mono, pow_pos}
use Rattle.std.proofs.lemmas.Nat.{shl_whole}
use Rattle.sqrt.specs.Root.{nearest_root}
use Rattle.sqrt.proofs.root.subnormal_root.Goals as goal

powers : (i j k : ℕ) → i + j ≡ k → 2 ^ i * 2 ^ j ≡ 2 ^ k
powers i j k e = sym (pow-add 2 i j) ∙ ap (λ (l : ℕ). 2 ^ l) e

module _ (d : ℕ) (positive : 0 < d) (short : d < 2 ^ 52) where
  abbrev zeros : ℕ
  zeros = count_leading_zeros 64 d

  abbrev up : ℕ
  up = zeros - 11

  -- the leading digit, at the place j, comes to the place 52
  place : (j : ℕ) × (zeros + suc j ≡ 64) × (2 ^ j ≤ d) × (d < 2 ^ suc j)
  place = leading_top 64 d positive (omega arith)

  low_place : place.0 < 52
  low_place = lt_of_not-le (λ (g : 52 ≤ place.0). not-le_of_lt short (le_trans (pow_mono g) place.2))

  zeros_many : 12 ≤ zeros
  zeros_many = omega (arith, place.1, low_place)

  zeros_few : zeros < 64
  zeros_few = omega (arith, place.1)

  to_top : 2 ^ place.0 * 2 ^ up ≡ 2 ^ 52
  to_top = powers place.0 up 52 (omega (arith, place.1, low_place))

  top_long : 2 ^ 52 ≤ d * 2 ^ up
  top_long = omega (arith, to_top, mul-le-mul_right (2 ^ up) place.2)

  top_short : d * 2 ^ up < 2 ^ 53
  top_short =
      let double = ap (λ (p : ℕ). p * 2 ^ up) (pow-suc 2 place.0) in
      omega (arith, to_top, double, mul-lt-mul_of_pos_right place.3 (pow_pos up))

  shifted : d * 2 ^ up % 2 ^ 64 ≡ d * 2 ^ up
  shifted = shl_whole d (suc place.0) up 64 place.3 (omega (arith, place.1))

  same_root : (r : ℕ) → r ≡ to_bits binary64 (nearest_root binary64 (d * 2 ^ up % 2 ^ 64 * 2 ^ (1022 - up + 52))) →
      r ≡ to_bits binary64 (nearest_root binary64 (d * 2 ^ 1074))
  same_root r h =
      h ∙ ap (λ (n : ℕ). to_bits binary64 (nearest_root binary64 n))
      (ap (λ (n : ℕ). n * 2 ^ (1022 - up + 52)) shifted
      ∙ mul_assoc d (2 ^ up) (2 ^ (1022 - up + 52))
      ∙ ap (λ (n : ℕ). d * n) (powers up (1022 - up + 52) 1074 (omega (arith, zeros_few))))

pub overflow_sub-up : goal.overflow_sub-up
overflow_sub-up c = search (zeros_many, arith, rules)

pub normal_root-requires : goal.normal_root-requires
normal_root-requires c =
    let d = c.args.digits in
    let e = shifted d (omega arith) (omega arith) in
    let long = top_long d (omega arith) (omega arith) in
    let short = top_short d (omega arith) (omega arith) in
    (omega arith, omega arith, omega arith)

pub returns : goal.returns
returns c =
    same_root c.args.digits (omega arith) (omega arith) c.normal_root.result
    (rw c.from.ensures at c.normal_root.ensures)
