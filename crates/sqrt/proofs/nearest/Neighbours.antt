-- Of the values of a format, the one that `nearest_root` answers is nearest to the root: no value lies between its two candidates, and of those it
-- takes the nearer. Values are whole numbers here, counted in units: of at most `prec` digits, and then zeros. Assumes nothing.
use Prim.Native.Nat.{ℕ, suc, ◌+◌, ◌-◌, ◌*◌, ◌/◌, ◌^◌, ◌≤◌, ◌<◌}
use mathlib.Core.Bool.{Bool, true, false}
use mathlib.Core.Logic.{◌⊎◌, inl, inr}
use mathlib.Core.Path.{◌≡◌, refl, sym, ap, ◌∙◌}
use native.Mathlib.Nat.{le_of_suc-le-suc, lt_of_not-le, not-le_of_lt, le_trans, le_of_eq, lt_of_lt_of_le, lt_of_le_of_lt, mul_assoc, mul-le-mul, mul-le-mul_right, lt_of_mul-lt-mul_right, le-div_iff_mul-le, le_of_mul-le-mul_right, mul-le-mul_left, eq_of_mul-eq-mul_right, div-mul-le_self, div-lt_iff_lt-mul, lt-suc_self}
use native.Mathlib.Omega.{arith}
use lib.Arith.{lt_of_le-ne}
use lib.Dec.{leb}
use lib.Ieee.{Format, prec, hid, size}
use lib.Ieee.Digits.{size_reaches}
use lib.Ieee.Fits.{two}
use lib.Pow.{pow-add, pow_pos, pow_mono, shl_lt}
use borrow.Author.Tests.{leb-true, leb-false}
use Rattle.sqrt.specs.Nearest.{Farther}
use Rattle.sqrt.specs.Root.{whole_root}
use Rattle.sqrt.proofs.whole.WholeRoot.{whole_root_is}
use Rattle.sqrt.proofs.nearest.NearestRoot.{nearer, digits_are, dropped, kept, rounded, squared}

-- ---- the sum of two numbers, squared, against four times a number n

below_twice : (y r n : ℕ) → y < r → r * r ≤ n → (y + r) * (y + r) < 4 * n
below_twice y r n h k = let g : suc (y + r) ≤ 2 * r = omega arith in omega (arith, mul-le-mul g g)

above_twice : (y r n : ℕ) → r < y → n < r * r → 4 * n < (y + r) * (y + r)
above_twice y r n h k = let g : 2 * r ≤ y + r = omega arith in omega (arith, mul-le-mul g g)

below_middle : (s m n : ℕ) → s ≤ m → m * m ≤ 4 * n → (m * m ≡ 4 * n → ⊥) → s * s < 4 * n
below_middle s m n h k apart = lt_of_le_of_lt (mul-le-mul h h) (lt_of_le-ne k apart)

above_middle : (s m n : ℕ) → m ≤ s → 4 * n ≤ m * m → (m * m ≡ 4 * n → ⊥) → 4 * n < s * s
above_middle s m n h k apart = lt_of_lt_of_le (lt_of_le-ne k (λ e. apart (sym e))) (mul-le-mul h h)

-- ---- a number w, of which the format keeps the digits q and drops k

module _ (f : Format) (w : ℕ) where
  abbrev k : ℕ
  k = size w - prec f

  abbrev q : ℕ
  q = w / 2 ^ k

  abbrev middle : ℕ
  middle = (2 * q + 1) * 2 ^ k

  -- where digits are dropped, as many are kept as the format has
  full : 0 < k → hid f ≤ q
  full h =
      let r : 2 ^ (prec f - 1 + k) ≤ w = size_reaches w (prec f - 1 + k) (omega (arith, two f)) in
      (le-div_iff_mul-le (pow_pos k)).1 (rw pow-add at r)

  -- so a number of no more digits, but for zeros, is not between q * 2 ^ k and the next one
  none_between : (c j : ℕ) → c < 2 ^ prec f → q * 2 ^ k < c * 2 ^ j → suc q * 2 ^ k ≤ c * 2 ^ j
  none_between c j short h = by_place (leb k j) (leb-true _ _) (leb-false _ _)
    where
      by_place : (b : Bool) → (b ≡ true → k ≤ j) → (b ≡ false → j < k) → suc q * 2 ^ k ≤ c * 2 ^ j
      by_place true at_most less =
          let l : k ≤ j = at_most refl in
          let e : j ≡ j - k + k = omega arith in
          let g : c * 2 ^ j ≡ c * 2 ^ (j - k) * 2 ^ k =
          ap (λ (i : ℕ). c * 2 ^ i) e ∙ ap (λ (p : ℕ). c * p) (pow-add 2 (j - k) k) ∙ sym (mul_assoc c (2 ^ (j - k)) (2 ^ k)) in
          rw g (mul-le-mul_right (2 ^ k) (lt_of_mul-lt-mul_right (2 ^ k) (rw g at h)))
      by_place false at_most less =
          let l : j < k = less refl in
          let lo : 2 ^ (prec f - 1 + k) ≤ q * 2 ^ k = rw pow-add (mul-le-mul_right (2 ^ k) (full (omega arith))) in
          let le : 2 ^ (prec f + j) ≤ 2 ^ (prec f - 1 + k) = pow_mono (omega (arith, two f)) in
          absurd (omega (arith, shl_lt (prec f) j short))

  -- nor is its root ever the middle between the two, which is odd but for zeros
  never_middle : (c i : ℕ) → c < 2 ^ prec f → middle * middle ≡ 4 * (c * 2 ^ i) → ⊥
  never_middle c i short h = by_place (leb (i + 2) (k + k)) (leb-true _ _) (leb-false _ _)
    where
      odd : ℕ
      odd = (2 * q + 1) * (2 * q + 1)

      same : odd * 2 ^ (k + k) ≡ c * 2 ^ (i + 2)
      same = rw (pow-add 2 k k, pow-add 2 i 2) (sym (squared (2 * q + 1) (2 ^ k)) ∙ h ∙ omega arith)

      by_place : (b : Bool) → (b ≡ true → i + 2 ≤ k + k) → (b ≡ false → k + k < i + 2) → ⊥
      by_place true at_most less =
          let l : i + 2 ≤ k + k = at_most refl in
          let g : (2 * q + 1) * (2 * q + 1) ≤ c = le_of_mul-le-mul_right (le_trans (mul-le-mul_left odd (pow_mono l)) (le_of_eq same)) (pow_pos (i + 2)) in
          omega (arith, digits_are f, full (omega arith))
      by_place false at_most less =
          let l : k + k < i + 2 = less refl in
          let d = i + 1 - (k + k) in
          let e : i + 2 ≡ d + 1 + (k + k) = omega arith in
          let even : c * 2 ^ (i + 2) ≡ c * 2 ^ d * 2 * 2 ^ (k + k) = rw (e, pow-add 2 (d + 1) (k + k), pow-add 2 d 1) (simp mul_assoc) in
          let g : (2 * q + 1) * (2 * q + 1) ≡ c * 2 ^ d * 2 = eq_of_mul-eq-mul_right (2 ^ (k + k)) (pow_pos (k + k)) odd (c * 2 ^ d * 2) (same ∙ even) in
          omega arith

-- ---- so the answer to n, where n is a number of so few digits but for zeros, is nearer to its root than any other such number

module _ (f : Format) (n b i : ℕ) (b-short : b < 2 ^ prec f) (n_is : n ≡ b * 2 ^ i) (c j : ℕ) (c-short : c < 2 ^ prec f) where
  abbrev p : ℕ
  p = 2 ^ dropped f n

  abbrev root : ℕ
  root = kept f n * p

  abbrev next : ℕ
  next = suc (kept f n) * p

  abbrev mid : ℕ
  mid = (2 * kept f n + 1) * p

  abbrev other : ℕ
  other = c * 2 ^ j

  root_below : root * root ≤ n
  root_below = let l = div-mul-le_self (whole_root n) p in le_trans (mul-le-mul l l) (whole_root_is n).0

  next_above : n < next * next
  next_above =
      let l = (div-lt_iff_lt-mul (pow_pos (dropped f n))).0 (lt-suc_self (kept f n)) in lt_of_lt_of_le (whole_root_is n).1 (mul-le-mul l l)

  apart : mid * mid ≡ 4 * n → ⊥
  apart e = never_middle f (whole_root n) b i b-short (e ∙ ap (λ (m : ℕ). 4 * m) n_is)

  not_past : other < next → other ≤ root
  not_past h = le_of_suc-le-suc (lt_of_not-le (λ (g : root < other). not-le_of_lt h (none_between f (whole_root n) c j c-short g)))

  by_side : (r : ℕ) → ((r ≡ kept f n) × (4 * n ≤ mid * mid)) ⊎ ((r ≡ suc (kept f n)) × (mid * mid ≤ 4 * n)) → Farther n (r * p) other
  by_side r (inl s) =
      rw s.0
      (λ h. below_twice other root n h root_below, λ h. above_middle (other + root) mid n (omega (arith, none_between f (whole_root n) c j c-short h)) s.1 apart)
  by_side r (inr s) =
      rw s.0
      (λ h. below_middle (other + next) mid n (omega (arith, not_past h)) s.1 apart, λ h. above_twice other next n h next_above)

  pub others_farther : Farther n (rounded n (kept f n) (dropped f n) * p) other
  others_farther = by_side (rounded n (kept f n) (dropped f n)) (nearer (kept f n) (4 * n) (mid * mid))
