-- What `nearest_root` answers: where the root keeps all its digits, to N squares of 2 ^ k units it answers the whole number nearest to the root
-- of N, times 2 ^ k units. So to work out a root it is enough to find that one whole number. Assumes nothing.
use Prim.Native.Nat.{ℕ, zero, suc, ◌+◌, ◌-◌, ◌*◌, ◌/◌, ◌^◌, ◌%◌, ◌≤◌, ◌<◌, compare, Ordering}
use mathlib.Core.Bool.{Bool, true, false, not}
use mathlib.Core.Logic.{◌⊎◌, inl, inr}
use mathlib.Core.Path.{◌≡◌, refl, sym, ap, ◌∙◌}
use native.Mathlib.Nat.{le_of_lt, le_antisymm, le_trans, le_of_eq, le_of_suc-le-suc, lt_of_not-le, not-le_of_lt, lt_of_le_of_lt, lt_of_lt_of_le, mul-le-mul_right, mul-lt-mul_of_pos_right, mul-pos, mul_assoc, mul_left_comm}
use native.Mathlib.Omega.{arith}
use lib.Arith.{digits_div}
use lib.Dec.{T, is_le, compare_is_eq, leb, eqb, leb→le, nleb→lt, eqb→eq}
use lib.Ieee.{Format, binary32, binary64, prec, hid, size, nearest, units}
use lib.Ieee.Digits.{size-lt, size-le}
use lib.Ieee.Fits.{two, nearest-le}
use lib.Pow.{pow-add, pow_pos, pow_mono}
use borrow.Author.Tests.{leb-true, leb-false, eqb-true, eqb-false}
use Rattle.sqrt.specs.inside.Whole.{NearestWhole}
use Rattle.sqrt.specs.Root.{whole_root, nearest_root}
use Rattle.sqrt.proofs.whole.WholeRoot.{IsRoot, whole_root_is, squares_lt}

-- ---- rounding, by how a and b compare

module _ (q a b : ℕ) where
  pub nearer : ((nearest q (compare a b) ≡ q) × (a ≤ b)) ⊎ ((nearest q (compare a b) ≡ suc q) × (b ≤ a))
  nearer = by_order (compare a b) (leb→le a b) (nleb→lt a b) (eqb→eq a b)
    where
      by_parity : (z : Bool) → (z ≡ true → q % 2 ≡ 0) → (z ≡ false → q % 2 ≡ 0 → ⊥) → a ≡ b →
          ((q + q % 2 ≡ q) × (a ≤ b)) ⊎ ((q + q % 2 ≡ suc q) × (b ≤ a))
      by_parity true even odd e = inl (omega (arith, even refl), omega arith)
      by_parity false even odd e = inr (omega (arith, odd refl), omega arith)

      by_order : (o : Ordering) → (T (is_le o) → a ≤ b) → (T (not (is_le o)) → b < a) → (T (compare_is_eq o) → a ≡ b) →
          ((nearest q o ≡ q) × (a ≤ b)) ⊎ ((nearest q o ≡ suc q) × (b ≤ a))
      by_order Ordering.lt le gt eq = inl (refl, le tt)
      by_order Ordering.eq le gt eq = by_parity (eqb (q % 2) 0) (eqb-true _ _) (eqb-false _ _) (eq tt)
      by_order Ordering.gt le gt eq = inr (refl, le_of_lt (gt tt))

  nearest_down : a < b → nearest q (compare a b) ≡ q
  nearest_down h = elim nearer [ inl s ↦ s.0 | inr s ↦ absurd (not-le_of_lt h s.1) ]

  nearest_up : b < a → nearest q (compare a b) ≡ suc q
  nearest_up h = elim nearer [ inl s ↦ absurd (not-le_of_lt h s.1) | inr s ↦ s.0 ]

-- ---- how many digits a number has

pub size_is : (a n : ℕ) → 2 ^ a ≤ n → n < 2 ^ suc a → size n ≡ suc a
size_is a n lo hi = le_antisymm (size-le n (suc a) hi) (lt_of_not-le (λ (g : size n ≤ a). not-le_of_lt (size-lt n) (le_trans (pow_mono g) lo)))

-- of the digits of a significand, the weight of the leading one is half of what they stay below
pub digits_are : (f : Format) → 2 ^ prec f ≡ 2 * hid f
digits_are binary32 = refl
digits_are binary64 = refl

-- ---- the parts of the definition

-- of the whole part of the root of n, how many digits the format drops, and those that it keeps; and such digits q, rounded by all that follows
abbrev pub dropped : Format → ℕ → ℕ
dropped f n = size (whole_root n) - prec f

abbrev pub kept : Format → ℕ → ℕ
kept f n = whole_root n / 2 ^ dropped f n

abbrev pub rounded : ℕ → ℕ → ℕ → ℕ
rounded n q k = nearest q (compare (4 * n) ((2 * q + 1) * 2 ^ k * ((2 * q + 1) * 2 ^ k)))

pub rounded_le : (n q k : ℕ) → rounded n q k ≤ suc q
rounded_le n q k = nearest-le q (compare (4 * n) ((2 * q + 1) * 2 ^ k * ((2 * q + 1) * 2 ^ k)))

pub nearest_root_is : (f : Format) (n : ℕ) → nearest_root f n ≡ units f false (rounded n (kept f n) (dropped f n)) (dropped f n)
unfolding nearest_root
nearest_root_is f n = refl

-- a number of units, squared
pub squared : (a p : ℕ) → a * p * (a * p) ≡ a * a * (p * p)
squared a p = simp (mul_assoc, mul_left_comm)

-- ---- the root of N squares of 2 ^ k units, where q, the whole part of the root of N, has as many digits as the format keeps

module _ (f : Format) (N q k : ℕ) (is : IsRoot N q) (long : hid f * hid f ≤ N) (short : N < 2 ^ prec f * 2 ^ prec f) where
  abbrev p : ℕ
  p = 2 ^ k

  abbrev w : ℕ
  w = whole_root (N * (p * p))

  -- the root has q for its leading digits, and k digits more
  q_long : hid f ≤ q
  q_long = le_of_suc-le-suc (squares_lt (hid f) (suc q) (lt_of_le_of_lt long is.1))

  q_short : q < 2 ^ prec f
  q_short = squares_lt q (2 ^ prec f) (lt_of_le_of_lt is.0 short)

  from_q : q * p ≤ w
  from_q = le_of_suc-le-suc
      (squares_lt (q * p) (suc w)
      (lt_of_le_of_lt (le_trans (le_of_eq (squared q p)) (mul-le-mul_right (p * p) is.0)) (whole_root_is (N * (p * p))).1))

  to_q : w < suc q * p
  to_q =
      squares_lt w (suc q * p)
      (lt_of_le_of_lt (whole_root_is (N * (p * p))).0
      (lt_of_lt_of_le (mul-lt-mul_of_pos_right is.1 (mul-pos (pow_pos k) (pow_pos k))) (le_of_eq (sym (squared (suc q) p)))))

  leading : w / p ≡ q
  leading = let r : w - q * p < p = omega (arith, from_q, to_q) in ap (λ (x : ℕ). x / p) (omega (arith, from_q)) ∙ digits_div q r

  dropped_is : size w - prec f ≡ k
  dropped_is =
      let lo : 2 ^ (prec f - 1 + k) ≤ w = rw pow-add (le_trans (mul-le-mul_right p q_long) from_q) in
      let hi : w < 2 ^ (prec f + k) = rw pow-add (lt_of_lt_of_le to_q (mul-le-mul_right p q_short)) in
      let e : prec f + k ≡ suc (prec f - 1 + k) = omega (arith, two f) in
      omega (arith, size_is (prec f - 1 + k) w lo (rw e at hi), two f)

  by_digits : nearest_root f (N * (p * p)) ≡ units f false (rounded (N * (p * p)) q k) k
  by_digits =
      nearest_root_is f (N * (p * p))
      ∙ ap (λ (j : ℕ). units f false (rounded (N * (p * p)) (w / 2 ^ j) j) j) dropped_is
      ∙ ap (λ (r : ℕ). units f false (rounded (N * (p * p)) r k) k) leading

  -- it is rounded up if N is more than q * q + q, which is a quarter less than the square of q + 1/2
  scaled : 4 * (N * (p * p)) ≡ 4 * N * (p * p)
  scaled = sym (mul_assoc 4 N (p * p))

  down : N ≤ q * q + q → nearest_root f (N * (p * p)) ≡ units f false q k
  down h =
      let less : 4 * N < (2 * q + 1) * (2 * q + 1) = omega arith in
      let so : 4 * (N * (p * p)) < (2 * q + 1) * p * ((2 * q + 1) * p) =
      rw (scaled, squared (2 * q + 1) p) (mul-lt-mul_of_pos_right less (mul-pos (pow_pos k) (pow_pos k))) in
      by_digits ∙ ap (λ (r : ℕ). units f false r k) (nearest_down q _ _ so)

  up : q * q + q < N → nearest_root f (N * (p * p)) ≡ units f false (suc q) k
  up h =
      let more : (2 * q + 1) * (2 * q + 1) < 4 * N = omega arith in
      let so : (2 * q + 1) * p * ((2 * q + 1) * p) < 4 * (N * (p * p)) =
      rw (scaled, squared (2 * q + 1) p) (mul-lt-mul_of_pos_right more (mul-pos (pow_pos k) (pow_pos k))) in
      by_digits ∙ ap (λ (r : ℕ). units f false r k) (nearest_up q _ _ so)

-- So the answer is r * 2 ^ k units, r being the whole number nearest to the root of N, and r has all its digits too.
module _ (f : Format) (N k : ℕ) (long : hid f * hid f ≤ N) (short : N < 2 ^ prec f * 2 ^ prec f) where
  pub nearest_whole : (r : ℕ) → NearestWhole N r → nearest_root f (N * (2 ^ k * 2 ^ k)) ≡ units f false r k
  nearest_whole zero near = down f N 0 k (omega arith) long short near.not_more
  nearest_whole (suc q) near = by_test (leb (suc q * suc q) N) (leb-true _ _) (leb-false _ _)
    where
      by_test : (b : Bool) → (b ≡ true → suc q * suc q ≤ N) → (b ≡ false → N < suc q * suc q) →
          nearest_root f (N * (2 ^ k * 2 ^ k)) ≡ units f false (suc q) k
      by_test true at_most less = down f N (suc q) k (at_most refl, omega (arith, near.not_more)) long short near.not_more
      by_test false at_most less = up f N q k (omega (arith, near.not_less), less refl) long short (omega (arith, near.not_less))

  pub nearest_long : (r : ℕ) → NearestWhole N r → hid f ≤ r
  nearest_long r near = le_of_suc-le-suc (squares_lt (hid f) (suc r) (omega (arith, near.not_more)))
