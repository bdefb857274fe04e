-- The greatest of some values reaches the tolerance exactly where one of them does: a NaN is ignored by both, and what is greater than a value
-- that reaches it does so too. So the search may stop at the first. Assumes nothing.
use Prim.Native.Nat.{ℕ, zero, suc, ◌+◌, ◌-◌, ◌*◌, ◌<◌, ◌≤◌}
use mathlib.Core.Bool.{Bool, true, false, not, true≢false, false≢true}
use mathlib.Core.Path.{◌≡◌, refl, sym, ap, ◌∙◌}
use native.Mathlib.Nat.{zero-mul}
use native.Mathlib.Numerals.{add-one}
use native.Mathlib.Omega.{arith}
use lib.IntN.{pos}
use lib.Ieee.{Float, nan, inf, fin, binary64, of_int, up, down, is_nan, lt}
use lib.Ieee.Fits.{down_pos}
use borrow.Author.Tests.{ltb-true, ltb-false, not-true, not-false}
use Rattle.laws.proofs.Compare.{le_is, le_nan}
use Rattle.laws.proofs.Finite.{of_int_nonneg}
use Rattle.laws.proofs.Order.{AtLeastZero, ZeroOrMore, at_least_zero, lt_asymmetric, ge_transitive, lt_le_transitive}
use Rattle.std.specs.Prelude.{if◌then◌else◌}
use Rattle.simplify.specs.Penalties.{greatest}
use Rattle.simplify.specs.inside.Costs.{reaches}

abbrev one : Float
one = of_int binary64 (pos 1)

one_positive : AtLeastZero one
one_positive = at_least_zero (of_int_nonneg (pos 1) tt)

-- ---- what is 0 at least

number : (x : Float) → ZeroOrMore x → is_nan x ≡ false
unfolding is_nan
number nan z = absurd z
number (inf s) z = refl
number (fin s m e) z = refl

-- a value that is greater than such a value is one
greater : (m v : Float) → ZeroOrMore m → lt m v ≡ true → ZeroOrMore v
unfolding lt
greater nan v z h = absurd z
greater (inf true) v z h = absurd (true≢false z)
greater (inf false) nan z h = absurd (false≢true h)
greater (inf false) (inf true) z h = absurd (false≢true h)
greater (inf false) (inf false) z h = refl
greater (inf false) (fin t n d) z h = absurd (false≢true h)
greater (fin s a e) nan z h = absurd (false≢true h)
greater (fin s a e) (inf true) z h = absurd (false≢true h)
greater (fin s a e) (inf false) z h = refl
greater (fin s a e) (fin false n d) z h = λ f. absurd (true≢false (sym f))
greater (fin false a e) (fin true n d) z h = absurd (false≢true h)
greater (fin true a e) (fin true n d) z h =
    let q : a * up e * down d ≡ 0 = rw (z refl, zero-mul, zero-mul) in
    absurd (omega (arith, q, ltb-true (n * up d * down e) (a * up e * down d) h))

-- and so is a number that is not below 1
not_below : (v : Float) → is_nan v ≡ false → lt v one ≡ false → ZeroOrMore v
unfolding lt is_nan of_int
not_below nan p h = absurd (true≢false p)
not_below (inf true) p h = absurd (true≢false h)
not_below (inf false) p h = refl
not_below (fin false n d) p h = λ f. absurd (true≢false (sym f))
not_below (fin true n d) p h = absurd (omega (arith, ltb-false 0 (n * up d * down (pos 0) + 1 * up (pos 0) * down d) h, down_pos d))

-- ---- a value that reaches the tolerance, and one that does not

nan_misses : reaches nan ≡ false
unfolding reaches
nan_misses = le_nan one

-- what reaches it is a number
not_nan : (v : Float) → reaches v ≡ true → is_nan v ≡ false
unfolding is_nan
not_nan nan h = absurd (false≢true (sym nan_misses ∙ h))
not_nan (inf s) h = refl
not_nan (fin s m e) h = refl

module _ (v : Float) where
  number_reaches : is_nan v ≡ false → reaches v ≡ not (lt v one)
  unfolding reaches
  number_reaches p = le_is one v (number one one_positive.zero_or_more) p

  reaches_is : AtLeastZero v → reaches v ≡ not (lt v one)
  reaches_is p = number_reaches (number v p.zero_or_more)

  reached : reaches v ≡ true → lt v one ≡ false
  reached h = not-true (lt v one) (sym (number_reaches (not_nan v h)) ∙ h)

  reached_positive : reaches v ≡ true → AtLeastZero v
  reached_positive h = record { zero_or_more = not_below v (not_nan v h) (reached h) }

  missed : AtLeastZero v → reaches v ≡ false → lt v one ≡ true
  missed p h = not-false (lt v one) (sym (reaches_is p) ∙ h)

-- ---- the greatest of n values from k on

-- one of them reaches the tolerance
unfoldable pub some_reaches : (ℕ → Float) → ℕ → ℕ → Bool
some_reaches f zero k = false
some_reaches f (suc n) k = elim (reaches (f k)) [ true ↦ true | false ↦ some_reaches f n (suc k) ]

module _ (f : ℕ → Float) where
  abbrev next : Float → ℕ → Float
  next m k = if lt m (f k) then f k else m

  -- once reached, always reached
  stays_next : (n k : ℕ) → ((v : Float) → AtLeastZero v → lt v one ≡ false → reaches (greatest f n (suc k) v) ≡ true) →
      (m : Float) → AtLeastZero m → lt m one ≡ false → reaches (greatest f n (suc k) (next m k)) ≡ true
  stays_next n k later m p h = go (lt m (f k)) refl
    where
      go : (t : Bool) → lt m (f k) ≡ t → reaches (greatest f n (suc k) (next m k)) ≡ true
      go true e =
          let q : AtLeastZero (f k) = record { zero_or_more = greater m (f k) p.zero_or_more e } in
          rw e (later (f k) q (ge_transitive q p one_positive (lt_asymmetric p q e) h))
      go false e = rw e (later m p h)

  stays : (n k : ℕ) (m : Float) → AtLeastZero m → lt m one ≡ false → reaches (greatest f n k m) ≡ true
  unfolding greatest
  stays zero k m p h = reaches_is m p ∙ ap not h
  stays (suc n) k m p h = stays_next n k (stays n (suc k)) m p h

  reached_next : (n k : ℕ) → ((v : Float) → AtLeastZero v → lt v one ≡ true → reaches (greatest f n (suc k) v) ≡ some_reaches f n (suc k)) →
      (m : Float) → AtLeastZero m → lt m one ≡ true → reaches (greatest f n (suc k) (next m k)) ≡ some_reaches f (suc n) k
  unfolding some_reaches
  reached_next n k later m p h = go (reaches (f k)) (lt m (f k)) refl refl
    where
      go : (t u : Bool) → reaches (f k) ≡ t → lt m (f k) ≡ u → reaches (greatest f n (suc k) (next m k)) ≡ some_reaches f (suc n) k
      go true u e g =
          let q : AtLeastZero (f k) = reached_positive (f k) e in
          let l : lt m (f k) ≡ true = lt_le_transitive p one_positive q h (reached (f k) e) in
          rw (e, l, some_reaches) (stays n (suc k) (f k) q (reached (f k) e))
      go false true e g =
          let q : AtLeastZero (f k) = record { zero_or_more = greater m (f k) p.zero_or_more g } in
          rw (e, g, some_reaches) (later (f k) q (missed (f k) q e))
      go false false e g = rw (e, g, some_reaches) (later m p h)

  pub reached_by_one : (n k : ℕ) (m : Float) → AtLeastZero m → lt m one ≡ true → reaches (greatest f n k m) ≡ some_reaches f n k
  unfolding greatest some_reaches
  reached_by_one zero k m p h = reaches_is m p ∙ ap not h
  reached_by_one (suc n) k m p h = reached_next n k (reached_by_one n (suc k)) m p h

  -- ---- one value is looked at, of those before a position

  pub hit : (to k : ℕ) → k < to → reaches (f k) ≡ true → some_reaches f (to - k) k ≡ true
  unfolding some_reaches
  hit to k h e = let g : to - k ≡ suc (to - suc k) = omega arith in rw (g, e, some_reaches)

  pub passed : (to k : ℕ) → k < to → reaches (f k) ≡ false → some_reaches f (to - k) k ≡ some_reaches f (to - (k + 1)) (k + 1)
  unfolding some_reaches
  passed to k h e = let g : to - k ≡ suc (to - suc k) = omega arith in rw (g, e, add-one, some_reaches)

  pub none_left : (to k : ℕ) → to ≤ k → some_reaches f (to - k) k ≡ false
  unfolding some_reaches
  none_left to k h = let g : to - k ≡ 0 = omega arith in rw g
