-- What shift, mask and count read from a byte: a pixel, a pair of pixels, how many of the first are set, and which is the first. Assumes nothing.
use Prim.Native.Nat.{ℕ, zero, suc, ◌+◌, ◌-◌, ◌*◌, ◌/◌, ◌%◌, ◌^◌, ◌≤◌, ◌<◌}
use mathlib.Core.Bool.{Bool, true, false}
use mathlib.Core.List.{List}
use mathlib.Core.Path.{◌≡◌, refl, ap, ◌∙◌}
use native.Mathlib.Nat.{div-eq_of_lt, div-eq_of_lt-le, lt_of_lt_of_le, mul_comm, pow-suc}
use native.Mathlib.Omega.{arith}
use lib.Bits.{bit_and, and_mask}
use lib.Count.{ones, count_leading_zeros, leading_length}
use lib.Dec.{eqb}
use lib.ListN.{get_or}
use lib.Pow.{shr-shr, pow_mono}
use Rattle.std.specs.Int.{from_bool}
use Rattle.laws.specs.inside.Bits.{set_bits}
use Rattle.laws.proofs.Bits.{ones_is, ones_first}
use Rattle.chart.specs.Pixels.{bit_of, one}
use Rattle.chart.specs.inside.Around.{bit_at}
use Rattle.chart.specs.inside.Rows.{FirstAt, Clear}

-- a binary digit, tested and turned back into a number, is itself
pub digit : (n : ℕ) → one (eqb (n % 2) 1) ≡ n % 2
digit n = go (n % 2) (omega arith)
  where
    go : (d : ℕ) → d < 2 → one (eqb d 1) ≡ d
    go zero h = refl
    go (suc zero) h = refl
    go (suc (suc d)) h = absurd (omega arith)

-- a pixel made a number
pub as_number : (b : Bool) → from_bool b ≡ one b
as_number true = refl
as_number false = refl

-- two digits side by side
pub two_digits : (n k : ℕ) → bit_and (n / 2 ^ k) 3 ≡ 2 * (n / 2 ^ (k + 1) % 2) + n / 2 ^ k % 2
two_digits n k = and_mask (n / 2 ^ k) 2 ∙ omega (arith, shr-shr n k 1)

-- ---- a bit of the bytes and the one before it: within a byte, or across two

module _ (bytes : List ℕ) (n : ℕ) where
  pub within_a_byte : (n % 8 ≡ 0 → ⊥) → bit_and (get_or bytes (n / 8) 0 / 2 ^ (7 - n % 8)) 3 ≡ 2 * one (bit_at bytes (n - 1)) + one (bit_at bytes n)
  within_a_byte h =
      let a : (n - 1) / 8 ≡ n / 8 = omega arith in
      let b : 7 - (n - 1) % 8 ≡ 7 - n % 8 + 1 = omega arith in
      rw (digit, digit, a, b) (two_digits (get_or bytes (n / 8) 0) (7 - n % 8))

  pub across_two : n % 8 ≡ 0 → 1 ≤ n →
      bit_and (get_or bytes (n / 8 - 1) 0) 1 * 2 + bit_and (get_or bytes (n / 8) 0 / 2 ^ 7) 1 ≡ 2 * one (bit_at bytes (n - 1)) + one (bit_at bytes n)
  across_two h k =
      let a : (n - 1) / 8 ≡ n / 8 - 1 = omega arith in
      let b : 7 - (n - 1) % 8 ≡ 0 = omega arith in
      rw (digit, digit, a, b, h) (omega (arith, and_mask (get_or bytes (n / 8 - 1) 0) 1, and_mask (get_or bytes (n / 8) 0 / 2 ^ 7) 1))

-- ---- how many of a byte's pixels are set, and of its first p

pub all_ones : (n : ℕ) → n < 2 ^ 8 → ones n ≡ set_bits 8 n
all_ones n h = ones_is 8 n h

module _ (n p : ℕ) (small : n < 2 ^ 8) where
  pub masked : p ≤ 8 → ones (bit_and n (255 * 2 ^ (8 - p) % 256)) ≡ set_bits p (n / 2 ^ (8 - p))
  masked h = ones_first 8 p n h small

-- ---- a byte's first set pixel

module _ (n : ℕ) (small : n < 2 ^ 8) where
  abbrev zeros : ℕ
  zeros = count_leading_zeros 8 n

  pub first_set : zeros < 8 → FirstAt n zeros
  first_set h = go zeros h (leading_length 8 n small)
    where
      go : (z : ℕ) → z < 8 → (m : ℕ) × (z + m ≡ 8) × (n < 2 ^ m) × (2 ^ m ≤ 2 * n + 1) → FirstAt n z
      go z i (m, e, l, k) = record { few = i; clear = λ j h. clear j h; set = set }
        where
          clear : (j : ℕ) → j < z → bit_of n j ≡ false
          clear j h =
              let j8 : j % 8 ≡ j = omega arith in
              let s : n / 2 ^ (7 - j) ≡ 0 = div-eq_of_lt (lt_of_lt_of_le l (pow_mono (omega arith))) in
              rw (j8, s)

          set : bit_of n z ≡ true
          set =
              let z8 : z % 8 ≡ z = omega arith in
              let q : m ≡ suc (7 - z) = omega arith in
              let d : 2 ^ m ≡ 2 * 2 ^ (7 - z) = ap (λ (j : ℕ). 2 ^ j) q ∙ pow-suc 2 (7 - z) ∙ mul_comm (2 ^ (7 - z)) 2 in
              let s : n / 2 ^ (7 - z) ≡ 1 = div-eq_of_lt-le {k = 1} (2 ^ (7 - z)) (omega arith) (omega arith) in
              rw (z8, s)

  pub none_set : 8 ≤ zeros → Clear n
  none_set h = go zeros h (leading_length 8 n small)
    where
      go : (z : ℕ) → 8 ≤ z → (m : ℕ) × (z + m ≡ 8) × (n < 2 ^ m) × (2 ^ m ≤ 2 * n + 1) → Clear n
      go z i (m, e, l, k) = record { clear = λ j h. clear j h }
        where
          clear : (j : ℕ) → j < 8 → bit_of n j ≡ false
          clear j h =
              let s : n / 2 ^ (7 - j % 8) ≡ 0 = div-eq_of_lt (lt_of_lt_of_le l (pow_mono (omega arith))) in
              rw s
