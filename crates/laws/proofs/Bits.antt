-- The digits that are set in a number, counted one by one from the highest, are what `count_ones` counts, also behind a mask that keeps the
-- low or the high ones; and a digit by itself, as shift and mask read it. A row of pixels is such a number. Assumes nothing.
use mathlib.Core.Path.{◌≡◌, refl, sym, ap, ◌∙◌, subst}
use Prim.Native.Nat.{ℕ, zero, suc, ◌+◌, ◌-◌, ◌*◌, ◌/◌, ◌%◌, ◌^◌, ◌≤◌, ◌<◌}
use native.Mathlib.Nat.{le_refl, mod-lt, mod-eq_of_lt, mod-one, div-one, add-mul-mod_self_right, add-zero, zero-add, suc-add, add_assoc}
use native.Mathlib.Numerals.{add-one, one-add}
use native.Mathlib.Omega.{arith}
use lib.Pow.{pow_pos, pow_mono, pow-sub-lt, mod-pow-add, shr-shr, shr_mod, shr_lt}
use lib.Bits.{bit_and, and_mask, and_high}
use lib.Count.{ones, ones_cat}
use Rattle.laws.specs.inside.Bits.{set_bits}

pub set_bits_le : (k n : ℕ) → set_bits k n ≤ k
unfolding set_bits
set_bits_le zero n = le_refl 0
set_bits_le (suc k) n = omega (arith, set_bits_le k n)

-- the j digits above the k low ones, and these
pub set_bits_add : (j k n : ℕ) → set_bits (j + k) n ≡ set_bits j (n / 2 ^ k) + set_bits k n
unfolding set_bits
set_bits_add zero k n = ap (λ (i : ℕ). set_bits i n) (zero-add k) ∙ sym (zero-add (set_bits k n))
set_bits_add (suc j) k n =
    ap (λ (i : ℕ). set_bits i n) (suc-add j k)
    ∙ ap (λ (x : ℕ). n / 2 ^ (j + k) % 2 + x) (set_bits_add j k n)
    ∙ sym (add_assoc (n / 2 ^ (j + k) % 2) (set_bits j (n / 2 ^ k)) (set_bits k n))
    ∙ ap (λ (x : ℕ). x % 2 + set_bits j (n / 2 ^ k) + set_bits k n) (sym (shr-shr n k j ∙ ap (λ (i : ℕ). n / 2 ^ i) (omega arith)))

-- ---- `count_ones`

ones_digit : (d : ℕ) → d < 2 → ones d ≡ d
unfolding ones
ones_digit zero h = refl
ones_digit (suc zero) h = refl
ones_digit (suc (suc d)) h = absurd (omega arith)

ones_mod : (k n : ℕ) → ones (n % 2 ^ k) ≡ set_bits k n
unfolding set_bits ones
ones_mod zero n = ap ones (mod-one n)
ones_mod (suc k) n =
    ap (λ (j : ℕ). ones (n % 2 ^ j)) (sym (one-add k))
    ∙ ap ones (mod-pow-add n 1 k)
    ∙ ones_cat k (n / 2 ^ k % 2) (n % 2 ^ k) (mod-lt n (pow_pos k))
    ∙ ap (λ (x : ℕ). x + ones (n % 2 ^ k)) (ones_digit (n / 2 ^ k % 2) (omega arith))
    ∙ ap (λ (x : ℕ). n / 2 ^ k % 2 + x) (ones_mod k n)

-- of a number of k digits, as a byte is for k = 8
pub ones_is : (k n : ℕ) → n < 2 ^ k → ones n ≡ set_bits k n
ones_is k n h = ap ones (sym (mod-eq_of_lt h)) ∙ ones_mod k n

-- of the j high digits of a number of j + k, kept by a mask
pub ones_high : (j k n : ℕ) → n < 2 ^ (j + k) → ones (bit_and n (2 ^ (j + k) - 2 ^ k)) ≡ set_bits j (n / 2 ^ k)
unfolding ones
ones_high j k n h =
    ap ones (and_high n j k ∙ ap (λ (x : ℕ). x * 2 ^ k) (shr_mod j k h) ∙ sym (add-zero (n / 2 ^ k * 2 ^ k)))
    ∙ ones_cat k (n / 2 ^ k) 0 (pow_pos k)
    ∙ add-zero (ones (n / 2 ^ k))
    ∙ ones_is j (n / 2 ^ k) (shr_lt j k h)

-- that mask as code makes it, all ones of a word of w digits shifted up (`255 << (8 - j)` for a byte): of the j highest digits
pub high_mask : (w k : ℕ) → k ≤ w → (2 ^ w - 1) * 2 ^ k % 2 ^ w ≡ 2 ^ w - 2 ^ k
high_mask w k h =
    let m = 2 ^ w in
    let l : 2 ^ k ≤ m = pow_mono h in
    ap (λ (x : ℕ). x % m) (regroup m (2 ^ k) (pow_pos k) l) ∙ add-mul-mod_self_right (m - 2 ^ k) (2 ^ k - 1) m ∙ mod-eq_of_lt (pow-sub-lt w (pow_pos k))
  where
    regroup : (m p : ℕ) → 0 < p → p ≤ m → (m - 1) * p ≡ (m - p) + (p - 1) * m
    regroup m zero o h = absurd (omega arith)
    regroup zero (suc p) o h = absurd (omega arith)
    regroup (suc m) (suc p) o h =
        let a : suc m - 1 ≡ m = omega arith in
        let b : suc p - 1 ≡ p = omega arith in
        rw (a, b) (omega arith)

pub ones_first : (w j n : ℕ) → j ≤ w → n < 2 ^ w → ones (bit_and n ((2 ^ w - 1) * 2 ^ (w - j) % 2 ^ w)) ≡ set_bits j (n / 2 ^ (w - j))
ones_first w j n h l =
    let e : j + (w - j) ≡ w = omega arith in
    ap (λ (x : ℕ). ones (bit_and n x)) (high_mask w (w - j) (omega arith) ∙ ap (λ (i : ℕ). 2 ^ i - 2 ^ (w - j)) (sym e))
    ∙ ones_high j (w - j) n (subst (λ (i : ℕ). n < 2 ^ i) (sym e) l)

-- one digit more, from the highest on
pub set_bits_next : (w j n : ℕ) → j < w → set_bits (suc j) (n / 2 ^ (w - suc j)) ≡ set_bits j (n / 2 ^ (w - j)) + n / 2 ^ (w - suc j) % 2
unfolding set_bits
set_bits_next w j n h =
    let k = w - suc j in
    let e : k + 1 ≡ w - j = omega arith in
    ap (λ (i : ℕ). set_bits i (n / 2 ^ k)) (sym (add-one j))
    ∙ set_bits_add j 1 (n / 2 ^ k)
    ∙ ap (λ (x : ℕ). set_bits j x + set_bits 1 (n / 2 ^ k)) (shr-shr n k 1 ∙ ap (λ (i : ℕ). n / 2 ^ i) e)
    ∙ ap (λ (x : ℕ). set_bits j (n / 2 ^ (w - j)) + x) (add-zero (n / 2 ^ k / 1 % 2) ∙ ap (λ (x : ℕ). x % 2) (div-one (n / 2 ^ k)))

-- ---- one digit, moved to the lowest place: it is 0 or 1

pub digit_is : (n k : ℕ) → bit_and (n / 2 ^ k) 1 ≡ n / 2 ^ k % 2
digit_is n k = and_mask (n / 2 ^ k) 1
