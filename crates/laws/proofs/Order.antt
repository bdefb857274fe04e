-- The order `lt` of the floats that are 0 at least, +infinity included, is strict and total: what code needs that keeps the greatest or the
-- least of some distances, or compares them with a tolerance. -0 and +0 are two values of which neither is less: -0 is `AtLeastZero`,
-- as a tolerance may be, and not `NonNeg`, as a distance is. Assumes nothing.
use mathlib.Core.Path.{◌≡◌, refl, sym, ap, ◌∙◌}
use mathlib.Core.Logic.{◌⊎◌, inl, inr}
use mathlib.Core.Bool.{Bool, true, false, true≢false}
use Prim.Native.Nat.{ℕ, zero, suc, ◌+◌, ◌-◌, ◌*◌, ◌/◌, ◌^◌, ◌≤◌, ◌<◌}
use native.Mathlib.Nat.{le_refl, le_of_lt, le_antisymm, zero-lt-suc, zero-add, zero-mul, mul_right_comm}
use native.Mathlib.Omega.{arith}
use lib.Dec.{T, ltb}
use lib.IntN.{ℤ}
use lib.Ieee.{Float, nan, inf, fin, Format, binary64, prec, low, hid, size, fits, to_bits, of_bits, up, down, below, lt}
use lib.Ieee.Fits.{down_pos}
use lib.Ieee.Nearest.{div_same}
use lib.Ieee.Bits.{of_bits-to_bits}
use lib.Ieee.Positive.{through}
use borrow.Author.Tests.{ltb-true, ltb-false, lt-ltb, le-ltb}
use Rattle.laws.specs.inside.Finite.{NonNeg}
use Rattle.laws.proofs.Finite.{nonneg_cases}

-- ---- what is ordered

abbrev pub ZeroOrMore : Float → Type 0
ZeroOrMore nan = ⊥
ZeroOrMore (inf s) = s ≡ false
ZeroOrMore (fin s m e) = s ≡ true → m ≡ 0

-- a number that is 0 at least: it has the sign +, or it is -0
pub record AtLeastZero (x : Float) : Type 0 where
  pub zero_or_more : ZeroOrMore x

pub at_least_zero : {x : Float} → NonNeg x → AtLeastZero x
at_least_zero p = nonneg_cases AtLeastZero (record { zero_or_more = refl }) (λ m e. record { zero_or_more = λ h. absurd (true≢false (sym h)) }) p

zero_cases : {x : Float} (Q : Float → Type 0) → Q (inf false) → ((s : Bool) (m : ℕ) (e : ℤ) → (s ≡ true → m ≡ 0) → Q (fin s m e)) → AtLeastZero x → Q x
zero_cases {x = nan} Q i q p = absurd p.zero_or_more
zero_cases {x = inf true} Q i q p = absurd (true≢false p.zero_or_more)
zero_cases {x = inf false} Q i q p = i
zero_cases {x = fin s m e} Q i q p = q s m e p.zero_or_more

-- ---- a number as a fraction, upper / lower, and +infinity as 1 / 0: the order is that of the cross products

abbrev pub upper : Float → ℕ
upper nan = 0
upper (inf s) = 1
upper (fin s m e) = m * up e

abbrev pub lower : Float → ℕ
lower nan = 1
lower (inf s) = 0
lower (fin s m e) = down e

-- with the sign - only where the number is 0
below_is : (s r : Bool) (a b : ℕ) → (s ≡ true → a ≡ 0) → (r ≡ true → b ≡ 0) → below s a r b ≡ ltb a b
below_is false false a b h k = refl
below_is false true a b h k = sym (le-ltb a b (omega (arith, k refl)))
below_is true false a b h k = rw (h refl, zero-add)
below_is true true a b h k = rw (h refl, k refl)

scaled : (s : Bool) (m u d : ℕ) → (s ≡ true → m ≡ 0) → s ≡ true → m * u * d ≡ 0
scaled s m u d z h = rw (z h, zero-mul, zero-mul)

pub lt_is : {x y : Float} → AtLeastZero x → AtLeastZero y → lt x y ≡ ltb (upper x * lower y) (upper y * lower x)
unfolding lt
lt_is {x} {y} p q =
    zero_cases (λ x. lt x y ≡ ltb (upper x * lower y) (upper y * lower x))
    (zero_cases (λ y. lt (inf false) y ≡ ltb (1 * lower y) (upper y * 0)) refl (λ r n d k. sym (le-ltb (1 * down d) (n * up d * 0) (omega arith))) q)
    (λ s m e h. zero_cases (λ y. lt (fin s m e) y ≡ ltb (m * up e * lower y) (upper y * down e)) (sym (lt-ltb (m * up e * 0) (1 * down e) (omega (arith, down_pos e))))
    (λ r n d k. below_is s r (m * up e * down d) (n * up d * down e) (scaled s m (up e) (down d) h) (scaled r n (up d) (down e) k)) q) p

-- no number is 0 / 0
fraction : {x : Float} → AtLeastZero x → 0 < upper x + lower x
fraction p = zero_cases (λ x. 0 < upper x + lower x) (omega arith) (λ s m e h. omega (arith, down_pos e)) p

-- x / p ≤ y / q ≤ z / r, where q may be 0
between : (x y z p q r : ℕ) → 0 < y + q → x * q ≤ y * p → y * r ≤ z * q → x * r ≤ z * p
between x y z p (suc q) r o h k = through x y z p (suc q) r (zero-lt-suc q) h k
between x zero z p zero r o h k = absurd (omega arith)
between x (suc y) z p zero zero o h k = omega arith
between x (suc y) z p zero (suc r) o h k = absurd (omega arith)

true_unless : (b : Bool) → (b ≡ false → ⊥) → b ≡ true
true_unless true h = refl
true_unless false h = absurd (h refl)

-- ---- the order. `lt y x ≡ false` says that x is at most y

pub lt_irreflexive : {x : Float} → AtLeastZero x → lt x x ≡ false
lt_irreflexive {x} p = lt_is p p ∙ le-ltb (upper x * lower x) (upper x * lower x) (le_refl (upper x * lower x))

pub lt_asymmetric : {x y : Float} → AtLeastZero x → AtLeastZero y → lt x y ≡ true → lt y x ≡ false
lt_asymmetric {x} {y} p q h = lt_is q p ∙ le-ltb (upper y * lower x) (upper x * lower y) (le_of_lt (ltb-true (upper x * lower y) (upper y * lower x) (sym (lt_is p q) ∙ h)))

module _ {x y z : Float} (p : AtLeastZero x) (q : AtLeastZero y) (r : AtLeastZero z) where
  -- z ≤ y ≤ x
  pub ge_transitive : lt x y ≡ false → lt y z ≡ false → lt x z ≡ false
  ge_transitive h k =
      lt_is p r
      ∙ le-ltb (upper x * lower z) (upper z * lower x)
      (between (upper z) (upper y) (upper x) (lower z) (lower y) (lower x) (fraction q)
      (ltb-false (upper y * lower z) (upper z * lower y) (sym (lt_is q r) ∙ k))
      (ltb-false (upper x * lower y) (upper y * lower x) (sym (lt_is p q) ∙ h)))

module _ {x y z : Float} (p : AtLeastZero x) (q : AtLeastZero y) (r : AtLeastZero z) where
  -- x < y ≤ z
  pub lt_le_transitive : lt x y ≡ true → lt z y ≡ false → lt x z ≡ true
  lt_le_transitive h k = true_unless (lt x z) (λ n. true≢false (sym h ∙ ge_transitive p r q n k))

  -- x ≤ y < z
  pub le_lt_transitive : lt y x ≡ false → lt y z ≡ true → lt x z ≡ true
  le_lt_transitive h k = true_unless (lt x z) (λ n. true≢false (sym k ∙ ge_transitive q p r h n))

  pub lt_transitive : lt x y ≡ true → lt y z ≡ true → lt x z ≡ true
  lt_transitive h k = lt_le_transitive h (lt_asymmetric q r k)

-- ---- two values of f64 of which neither is less are the same

bits_same : (f : Format) {x y : Float} → NonNeg x → NonNeg y → upper x * lower y ≡ upper y * lower x → to_bits f x ≡ to_bits f y
unfolding to_bits
bits_same f {x} {y} p q =
    nonneg_cases (λ x. upper x * lower y ≡ upper y * lower x → to_bits f x ≡ to_bits f y)
    (nonneg_cases (λ y. 1 * lower y ≡ upper y * 0 → to_bits f (inf false) ≡ to_bits f y) (λ h. refl) (λ n d h. absurd (omega (arith, down_pos d))) q)
    (λ m e. nonneg_cases (λ y. m * up e * lower y ≡ upper y * down e → to_bits f (fin false m e) ≡ to_bits f y) (λ h. absurd (omega (arith, down_pos e))) (λ n d h. finite m e n d h) q) p
  where
    finite : (m : ℕ) (e : ℤ) (n : ℕ) (d : ℤ) → m * up e * down d ≡ n * up d * down e → to_bits f (fin false m e) ≡ to_bits f (fin false n d)
    finite m e n d h =
        ap (λ (n : ℕ). 0 + (size n - prec f) * hid f + n / 2 ^ (size n - prec f))
        (div_same (m * up e * 2 ^ low f) (down e) (n * up d * 2 ^ low f) (down d) (down_pos e) (down_pos d)
        (mul_right_comm (m * up e) (2 ^ low f) (down d) ∙ ap (λ (x : ℕ). x * 2 ^ low f) h ∙ mul_right_comm (n * up d) (down e) (2 ^ low f)))

module _ {x y : Float} (p : NonNeg x) (q : NonNeg y) (a : T (fits binary64 x)) (b : T (fits binary64 y)) where
  pub lt_antisymmetric : lt x y ≡ false → lt y x ≡ false → x ≡ y
  lt_antisymmetric h k =
      let l : upper y * lower x ≤ upper x * lower y = ltb-false (upper x * lower y) (upper y * lower x) (sym (lt_is (at_least_zero p) (at_least_zero q)) ∙ h) in
      let m : upper x * lower y ≤ upper y * lower x = ltb-false (upper y * lower x) (upper x * lower y) (sym (lt_is (at_least_zero q) (at_least_zero p)) ∙ k) in
      sym (of_bits-to_bits binary64 x a) ∙ ap (of_bits binary64) (bits_same binary64 p q (le_antisymm m l)) ∙ of_bits-to_bits binary64 y b

  pub lt_total : (lt x y ≡ true) ⊎ ((lt y x ≡ true) ⊎ (x ≡ y))
  lt_total = go (lt x y) (lt y x) refl refl
    where
      go : (u v : Bool) → lt x y ≡ u → lt y x ≡ v → (lt x y ≡ true) ⊎ ((lt y x ≡ true) ⊎ (x ≡ y))
      go true v h k = inl h
      go false true h k = inr (inl k)
      go false false h k = inr (inr (lt_antisymmetric h k))
