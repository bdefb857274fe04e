-- A test of two floats that are whole is the test of the integers, so code may compare integers where the text that it follows compares
-- floats, and what a float test says is a fact on integers. Assumes nothing.
use mathlib.Core.Path.{◌≡◌, refl, sym, ap, ◌∙◌}
use mathlib.Core.Bool.{Bool, true, false, not, ◌&&◌, true≢false}
use Prim.Native.Nat.{ℕ, zero, suc, ◌+◌, ◌*◌, ◌<◌}
use native.Mathlib.Nat.{mul_comm, mul_assoc, mul-pos, mul-le-mul_right, mul-lt-mul_of_pos_right, add-mul, zero-mul, zero-add, zero-lt-suc}
use native.Mathlib.Omega.{arith}
use lib.Dec.{ltb, leb-suc-suc}
use lib.IntN.{ℤ}
use lib.Signed.{lt_z, ≤ℤ_refl}
use lib.Ieee.{Float, fin, up, down, lt, eq, ne, below}
use lib.Ieee.Fits.{down_pos}
use borrow.Author.Tests.{ltb-true, ltb-false, lt-ltb, le-ltb, not-true}
use Rattle.laws.proofs.Compare.{eq_is}
use Rattle.laws.proofs.Integers.{le_lt_z}
use Rattle.laws.proofs.Whole.{Whole, signed, whole_pairs, whole_number}

-- ---- less than

ltb_scale : (a b c : ℕ) → 0 < c → ltb (a * c) (b * c) ≡ ltb a b
ltb_scale a b c C = go (ltb a b) refl
  where
    go : (t : Bool) → ltb a b ≡ t → ltb (a * c) (b * c) ≡ t
    go true e = lt-ltb (a * c) (b * c) (mul-lt-mul_of_pos_right (ltb-true a b e) C)
    go false e = le-ltb (a * c) (b * c) (mul-le-mul_right c (ltb-false a b e))

below_scale : (s r : Bool) (j k c : ℕ) → 0 < c → below s (j * c) r (k * c) ≡ below s j r k
below_scale false false j k c C = ltb_scale j k c C
below_scale false true j k c C = refl
below_scale true false j k c C = ap (ltb 0) (sym (add-mul j k c)) ∙ (rw zero-mul at (ltb_scale 0 (j + k) c C))
below_scale true true j k c C = ltb_scale k j c C

below_signed : (s r : Bool) (j k : ℕ) → below s j r k ≡ lt_z (signed s j) (signed r k)
below_signed false false j k = refl
below_signed false true j zero = sym (le-ltb j 0 (omega arith))
below_signed false true j (suc k) = refl
below_signed true false zero k = ap (ltb 0) (zero-add k)
below_signed true false (suc j) k = lt-ltb 0 (suc j + k) (omega arith)
below_signed true true zero zero = refl
below_signed true true zero (suc k) = le-ltb (suc k) 0 (omega arith)
below_signed true true (suc j) zero = lt-ltb 0 (suc j) (zero-lt-suc j)
below_signed true true (suc j) (suc k) = leb-suc-suc (suc k) j

lt_fin : (s : Bool) (i : ℕ) (e : ℤ) (j : ℕ) → i * up e ≡ j * down e → (r : Bool) (p : ℕ) (d : ℤ) (k : ℕ) → p * up d ≡ k * down d → lt (fin s i e) (fin r p d) ≡ lt_z (signed s j) (signed r k)
unfolding lt
lt_fin s i e j h r p d k g =
    rw (h, g, mul_assoc j (down e) (down d), mul_assoc k (down d) (down e), mul_comm (down d) (down e))
    (below_scale s r j k (down e * down d) (mul-pos (down_pos e) (down_pos d)) ∙ below_signed s r j k)

pub lt_whole : {m n : ℕ} {x y : Float} {a b : ℤ} → Whole m x a → Whole n y b → lt x y ≡ lt_z a b
lt_whole v w = whole_pairs (λ x a y b. lt x y ≡ lt_z a b) lt_fin v w

-- ---- equal, and at most

pub eq_whole : {m n : ℕ} {x y : Float} {a b : ℤ} → Whole m x a → Whole n y b → eq x y ≡ (not (lt_z a b) && not (lt_z b a))
eq_whole {x} {y} v w = eq_is x y (whole_number v) (whole_number w) ∙ rw (lt_whole v w, lt_whole w v)

-- ---- what a test says

module _ {m n : ℕ} {x y : Float} {a b : ℤ} (v : Whole m x a) (w : Whole n y b) where
  pub eq_false_whole : eq x y ≡ false → a ≡ b → ⊥
  eq_false_whole h e = true≢false (sym (eq_whole v w ∙ rw (e, le_lt_z (≤ℤ_refl b))) ∙ h)

  pub ne_true_whole : ne x y ≡ true → a ≡ b → ⊥
  unfolding ne
  ne_true_whole h = eq_false_whole (not-true (eq x y) h)
