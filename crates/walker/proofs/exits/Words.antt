-- The packed words of the code: antt computes each for all sixteen numbers of what lies around a point. Assumes nothing.
use Prim.Native.Nat.{ℕ, zero, suc, ◌*◌, ◌/◌, ◌%◌, ◌^◌, ◌<◌}
use mathlib.Core.Bool.{Bool, true, false, ◌&&◌}
use mathlib.Core.Path.{◌≡◌, refl, sym, subst}
use native.Mathlib.Omega.{arith}
use lib.Dec.{T, eqb}
use lib.Ieee.Bits.{is_true}
use lib.Ieee.Fits.{and_l, and_r}
use borrow.Author.Tests.{eqb-true, eqb-false}
use Rattle.walker.specs.inside.Course.{onward, first_exit, ExitsAfter, FirstExits}

-- a test of each number below n
abbrev pub below : (ℕ → Bool) → ℕ → Bool
below f zero = true
below f (suc n) = f n && below f n

at_below : (f : ℕ → Bool) (n : ℕ) → T (below f n) → (m : ℕ) → m < n → T (f m)
at_below f zero t m h = absurd (omega arith)
at_below f (suc n) t m h = go (eqb m n) refl (at_below f n (and_r (f n) (below f n) t) m)
  where
    go : (b : Bool) → eqb m n ≡ b → (m < n → T (f m)) → T (f m)
    go true e less = subst (λ (k : ℕ). T (f k)) (sym (eqb-true m n e)) (and_l (f n) (below f n) t)
    go false e less = less (omega (arith, eqb-false m n e))

-- ---- words

unfoldable pub right_after : ℕ → Bool → ℕ → ℕ → Bool
unfolding onward
right_after word cw way m = eqb (word / 2 ^ (2 * m) % 4) (onward m cw way)

unfoldable pub right_first : ℕ → Bool → ℕ → Bool
unfolding first_exit
right_first word cw m = eqb (word / 2 ^ (4 * m) % 16) (first_exit m cw)

module _ (word : ℕ) (cw b : Bool) (order : cw ≡ b) where
  pub exits_after : (way d : ℕ) → way ≡ d → T (below (right_after word b d) 16) → ExitsAfter word cw way
  unfolding right_after
  exits_after way d e t = rw (order, e) (record { at = λ m h. eqb-true _ _ (is_true _ (at_below (right_after word b d) 16 t m h)) })

  pub exits_after_left : (way : ℕ) → (way ≡ 0 → ⊥) → (way ≡ 1 → ⊥) → (way ≡ 2 → ⊥) → way < 4 → T (below (right_after word b 3) 16) → ExitsAfter word cw way
  exits_after_left way p q r h t = exits_after way 3 (omega arith) t

  pub first_exits : T (below (right_first word b) 16) → FirstExits word cw
  unfolding right_first
  first_exits t = rw order (record { at = λ m h. eqb-true _ _ (is_true _ (at_below (right_first word b) 16 t m h)) })

-- what a word says of a number
pub first_of : (word : ℕ) (cw : Bool) (m : ℕ) → FirstExits word cw → m < 16 → word / 2 ^ (4 * m) % 16 ≡ first_exit m cw
first_of word cw m w h = w.at m h
