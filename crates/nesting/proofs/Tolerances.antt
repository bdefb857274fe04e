-- A tolerance may be any float. Against numbers that are 0 at least it acts in one of three ways: a NaN is below none of them, what is
-- negative is below all, and what is 0 at least has its place in their order. So what the order says of the last holds of all. Assumes nothing.
use Prim.Native.Nat.{ℕ, zero, suc, ◌+◌, ◌*◌, ◌<◌}
use mathlib.Core.Bool.{true, false, ◌&&◌, true≢false}
use mathlib.Core.Path.{◌≡◌, refl, sym, ◌∙◌}
use native.Mathlib.Nat.{zero-mul, mul-pos, zero-lt-suc}
use native.Mathlib.Omega.{arith}
use lib.IntN.{ℤ}
use lib.Ieee.{Float, nan, inf, fin, up, down, lt}
use lib.Ieee.Fits.{up_pos, down_pos}
use borrow.Author.Tests.{lt-ltb}
use Rattle.laws.proofs.Order.{AtLeastZero, ge_transitive, le_lt_transitive}
use Rattle.laws.specs.Least.{least}
use Rattle.laws.proofs.Least.{least_cases, lt_least}

data Kind (t : Float) : Type 0 where
  no_number : ((x : Float) → lt t x ≡ false) → Kind t
  negative : ((x : Float) → AtLeastZero x → lt t x ≡ true) → Kind t
  ordered : AtLeastZero t → Kind t

under_all : (m : ℕ) (e : ℤ) (x : Float) → AtLeastZero x → lt (fin true (suc m) e) x ≡ true
unfolding lt
under_all m e nan p = absurd p.zero_or_more
under_all m e (inf true) p = absurd (true≢false p.zero_or_more)
under_all m e (inf false) p = refl
under_all m e (fin false n d) p =
    let h : 0 < suc m * up e * down d = mul-pos (mul-pos (zero-lt-suc m) (up_pos e)) (down_pos d) in
    lt-ltb 0 (suc m * up e * down d + n * up d * down e) (omega arith)
under_all m e (fin true n d) p =
    let h : 0 < suc m * up e * down d = mul-pos (mul-pos (zero-lt-suc m) (up_pos e)) (down_pos d) in
    rw (p.zero_or_more refl, zero-mul, zero-mul) (lt-ltb 0 (suc m * up e * down d) h)

under_all_infinite : (x : Float) → AtLeastZero x → lt (inf true) x ≡ true
unfolding lt
under_all_infinite nan p = absurd p.zero_or_more
under_all_infinite (inf true) p = absurd (true≢false p.zero_or_more)
under_all_infinite (inf false) p = refl
under_all_infinite (fin s n d) p = refl

kind : (t : Float) → Kind t
kind nan = no_number (λ x. unfold lt in refl)
kind (inf true) = negative under_all_infinite
kind (inf false) = ordered (record { zero_or_more = refl })
kind (fin true zero e) = ordered (record { zero_or_more = λ h. refl })
kind (fin true (suc m) e) = negative (under_all m e)
kind (fin false m e) = ordered (record { zero_or_more = λ h. absurd (true≢false (sym h)) })

module _ (t : Float) {a b : Float} (p : AtLeastZero a) (q : AtLeastZero b) where
  -- b ≤ a ≤ t
  pub within_goes_down : lt t a ≡ false → lt a b ≡ false → lt t b ≡ false
  within_goes_down h k = go (kind t)
    where
      go : Kind t → lt t b ≡ false
      go (no_number n) = n b
      go (negative n) = absurd (true≢false (sym (n a p) ∙ h))
      go (ordered o) = ge_transitive o p q h k

  -- below the least of two: below both
  pub below_least : lt t (least a b) ≡ (lt t a && lt t b)
  below_least = go (kind t)
    where
      go : Kind t → lt t (least a b) ≡ (lt t a && lt t b)
      go (no_number n) = n (least a b) ∙ rw (n a)
      go (negative n) = least_cases a b (λ m. lt t m ≡ true) (λ h. n b q) (λ h. n a p) ∙ rw (n a p, n b q)
      go (ordered o) = lt_least o p q

-- a number is kept at s if it is kept at t, and s is at most t; s is no NaN, as it is below something
pub lower_keeps : (s t : Float) {v w : Float} → AtLeastZero v → AtLeastZero w → lt s w ≡ true → lt t s ≡ false → lt t v ≡ true → lt s v ≡ true
lower_keeps s t {v} {w} p q o h k = go (kind s) (kind t)
  where
    go : Kind s → Kind t → lt s v ≡ true
    go (no_number n) y = absurd (true≢false (sym o ∙ n w))
    go (negative n) y = n v p
    go (ordered x) (no_number n) = absurd (true≢false (sym k ∙ n v))
    go (ordered x) (negative n) = absurd (true≢false (sym (n s x) ∙ h))
    go (ordered x) (ordered y) = le_lt_transitive x y p h k
