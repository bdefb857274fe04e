-- The root of a double of whose significand all digits are there: with the odd power of two, if any, moved into the number, half the exponent is
-- the root's field, and the nearest whole root its digits. Assumes nothing.
use Prim.Native.Nat.{ℕ, suc, ◌+◌, ◌-◌, ◌*◌, ◌/◌, ◌%◌, ◌^◌, ◌≤◌, ◌<◌}
use mathlib.Core.Path.{◌≡◌, sym, ap, ◌∙◌}
use native.Mathlib.Nat.{mod-eq_of_lt, mod-lt, lt_of_lt_of_le, le_trans, le-mul_of_pos_right, mul_assoc, mul-pos}
use native.Mathlib.Omega.{arith}
use lib.Ieee.{binary64, to_bits, of_bits}
use lib.Pow.{pow-add, pow_mono, pow_pos, shl_lt}
use Rattle.sqrt.specs.inside.Whole.{NearestWhole}
use Rattle.sqrt.specs.Root.{nearest_root, root_bits}
use Rattle.sqrt.proofs.CorrectlyRounded.{zero_itself, root_of_no_number}
use Rattle.sqrt.proofs.nearest.Patterns.{bits_of_root, root_of_units, reads_normal}

-- m, shifted by what e leaves of a division by 1 or 2: no bit is shifted out
module _ (m e d : ℕ) (long : 2 ^ 52 ≤ m) (short : m < 2 ^ 53) (some : 0 < d) (few : d ≤ 2) where
  below : m * 2 ^ (e % d) < 2 ^ 54
  below = lt_of_lt_of_le (shl_lt 53 (e % d) short) (pow_mono {i = 53 + e % d} {j = 54} (omega (arith, mod-lt e some)))

  pub shifted : m * 2 ^ (e % d) % 2 ^ 64 ≡ m * 2 ^ (e % d)
  shifted = mod-eq_of_lt (omega (arith, below))

  pub shifted_long : 2 ^ 52 ≤ m * 2 ^ (e % d) % 2 ^ 64
  shifted_long = rw shifted (le_trans long (le-mul_of_pos_right m (pow_pos (e % d))))

  pub shifted_short : m * 2 ^ (e % d) % 2 ^ 64 < 2 ^ 54
  shifted_short = rw shifted below

-- m times 2 ^ (e - 2096)
module _ (m e : ℕ) (long : 2 ^ 52 ≤ m) (short : m < 2 ^ 53) where
  -- m, doubled if e is odd
  abbrev even : ℕ
  even = m * 2 ^ (e % 2) % 2 ^ 64

  -- what is left of the exponent is even, so the value is `even` times a square
  even_square : even * 2 ^ 52 * (2 ^ (e / 2) * 2 ^ (e / 2)) ≡ m * 2 ^ (e + 52)
  even_square =
      let h : e + 52 ≡ e % 2 + 52 + (e / 2 + e / 2) = omega arith in
      rw (shifted m e 2 long short (omega arith) (omega arith), h, pow-add 2 (e % 2 + 52), pow-add 2 (e / 2), pow-add 2 (e % 2)) (simp mul_assoc)

  pub root_bits_lem : (r : ℕ) → NearestWhole (even * 2 ^ 52) r → r ≤ 2 ^ 53 → e ≤ 3067 →
      e / 2 * 2 ^ 52 + r ≡ to_bits binary64 (nearest_root binary64 (m * 2 ^ (e + 52)))
  root_bits_lem r near most small =
      rw (← even_square)
      (bits_of_root binary64 (even * 2 ^ 52) (e / 2) r (omega (arith, shifted_long m e 2 long short (omega arith) (omega arith)))
      (omega (arith, shifted_short m e 2 long short (omega arith) (omega arith))) near most (omega arith))

-- The pattern of a normal double above zero: its digits with the leading one, as often doubled as its field says.
module _ (b : ℕ) (normal : 2 ^ 52 ≤ b) (finite : b < 0x7ff0000000000000) where
  pub root_of_normal : to_bits binary64 (nearest_root binary64 ((2 ^ 52 + b % 2 ^ 52) * 2 ^ (b / 2 ^ 52 + 1021 + 52))) ≡ root_bits b
  root_of_normal =
      let x = b / 2 ^ 52 - 1 in
      let m = 2 ^ 52 + b % 2 ^ 52 in
      let field : b / 2 ^ 52 ≡ suc x = omega arith in
      let sum : b / 2 ^ 52 + 1021 + 52 ≡ x + 1074 = omega arith in
      let units : m * 2 ^ (b / 2 ^ 52 + 1021 + 52) ≡ m * 2 ^ x * 2 ^ 1074 =
      ap (λ (k : ℕ). m * 2 ^ k) sum ∙ ap (λ (p : ℕ). m * p) (pow-add 2 x 1074) ∙ sym (mul_assoc m (2 ^ x) (2 ^ 1074)) in
      ap (λ (n : ℕ). to_bits binary64 (nearest_root binary64 n)) units
      ∙ ap (to_bits binary64)
      (sym
      (root_of_units binary64 (m * 2 ^ x) (mul-pos (omega arith) (pow_pos x)) (of_bits binary64 b)
      (reads_normal binary64 b x (omega arith) field (omega arith))))

-- for the proofs of the functions
pub ruleset shifts = (shifted_long, shifted_short)

pub ruleset of_patterns = (zero_itself, root_of_no_number, root_of_normal)
