-- What a test of a float against whole bounds says, as a call makes it of a coordinate or a tolerance: a float that is not less than one
-- and not greater than the other is finite and bounded, so no NaN. Assumes nothing.
use mathlib.Core.Path.{◌≡◌, refl, sym, ap, ◌∙◌}
use mathlib.Core.Bool.{Bool, true, false, ◌&&◌, false≢true}
use Prim.Native.Nat.{ℕ, ◌+◌, ◌*◌, ◌^◌, ◌≤◌}
use native.Mathlib.Nat.{le_refl, le_trans, le_of_eq, mul_right_comm, mul-le-mul_right, le_of_mul-le-mul_right}
use native.Mathlib.Omega.{arith}
use lib.Dec.{T, leb, leb→le, le→leb}
use lib.Pow.{pow_mono}
use lib.IntN.{ℤ, nat_abs}
use lib.Ieee.{Float, nan, inf, fin, binary64, up, down, of_int, is_nan, below, lt, le}
use lib.Ieee.Fits.{and_l, and_r, down_pos}
use borrow.Author.Tests.{ltb-false, not-true}
use Rattle.laws.proofs.Joined.{both_true}
use Rattle.laws.proofs.Compare.{le_is, le_nan}
use Rattle.laws.proofs.Finite.{Below}
use Rattle.laws.proofs.Whole.{Whole, of_int_whole, signed, abs_signed, whole_cases}

-- ---- of two finite floats: what is at most another is not above it, and so the sizes compare

not_above : (x y : Float) → is_nan x ≡ false → is_nan y ≡ false → le x y ≡ true → lt y x ≡ false
not_above x y p q h = not-true (lt y x) (sym (le_is x y p q) ∙ h)

-- not above y, and not negative
plus_size : (r : Bool) (a b : ℕ) → below r b false a ≡ false → a ≤ b
plus_size false a b h = ltb-false b a h
plus_size true a b h = omega (arith, ltb-false 0 (b + a) h)

-- not below x, and negative
minus_size : (r : Bool) (a b : ℕ) → below true b r a ≡ false → b ≤ a
minus_size false a b h = omega (arith, ltb-false 0 (b + a) h)
minus_size true a b h = ltb-false a b h

-- ---- between two whole bounds

under : (k n m : ℕ) (e : ℤ) (s : Bool) (i : ℕ) (d : ℤ) (j : ℕ) → i * up d ≡ j * down d → nat_abs (signed s j) ≤ n → T (leb n (2 ^ k)) → m * up e * down d ≤ i * up d * down e → m * up e ≤ 2 ^ k * down e
under k n m e s i d j h l t g =
    le_trans (le_of_mul-le-mul_right (le_trans g (le_of_eq (ap (λ (x : ℕ). x * down e) h ∙ mul_right_comm j (down d) (down e)))) (down_pos d))
    (mul-le-mul_right (down e) (le_trans (le_of_eq (sym (abs_signed s j))) (le_trans l (leb→le n (2 ^ k) t))))

pub within_below : (k : ℕ) {n : ℕ} {lo x hi : Float} {a b : ℤ} → Whole n lo a → Whole n hi b → le lo x ≡ true → le x hi ≡ true → T (leb n (2 ^ k)) → Below k x
unfolding le is_nan
within_below k {lo} {x = nan} v w g h t = absurd (false≢true (sym (le_nan lo) ∙ g))
within_below k {x = inf true} v w g h t = absurd (whole_cases (λ lo a. le lo (inf true) ≡ true → ⊥) (λ s i d j e f. false≢true f) v g)
within_below k {x = inf false} v w g h t = absurd (whole_cases (λ hi b. le (inf false) hi ≡ true → ⊥) (λ s i d j e f. false≢true f) w h)
within_below k {n} {x = fin false m e} v w g h t =
    whole_cases (λ hi b. nat_abs b ≤ n → le (fin false m e) hi ≡ true → Below k (fin false m e))
    (λ s i d j f l c. record { at_most = under k n m e s i d j f l t (plus_size s (m * up e * down d) (i * up d * down e) (not_above (fin false m e) (fin s i d) refl refl c)) }) w w.bound h
within_below k {n} {x = fin true m e} v w g h t =
    whole_cases (λ lo a. nat_abs a ≤ n → le lo (fin true m e) ≡ true → Below k (fin true m e))
    (λ s i d j f l c. record { at_most = under k n m e s i d j f l t (minus_size s (i * up d * down e) (m * up e * down d) (not_above (fin s i d) (fin true m e) refl refl c)) }) v v.bound g

-- ---- as a call tests what it is handed: from a to b, both counted in

pub between_below : (k : ℕ) (a b : ℤ) (x : Float) → (le (of_int binary64 a) x && le x (of_int binary64 b)) ≡ true → T (leb (nat_abs a) (2 ^ k) && leb (nat_abs b) (2 ^ k) && leb k 53) → Below k x
between_below k a b x h t =
    let both = both_true (le (of_int binary64 a) x) (le x (of_int binary64 b)) h in
    let l = and_l (leb (nat_abs a) (2 ^ k)) (leb (nat_abs b) (2 ^ k)) (and_l (leb (nat_abs a) (2 ^ k) && leb (nat_abs b) (2 ^ k)) (leb k 53) t) in
    let g = and_r (leb (nat_abs a) (2 ^ k)) (leb (nat_abs b) (2 ^ k)) (and_l (leb (nat_abs a) (2 ^ k) && leb (nat_abs b) (2 ^ k)) (leb k 53) t) in
    let f = and_r (leb (nat_abs a) (2 ^ k) && leb (nat_abs b) (2 ^ k)) (leb k 53) t in
    let small : T (leb (2 ^ k) (2 ^ 53)) = le→leb (2 ^ k) (2 ^ 53) (pow_mono (leb→le k 53 f)) in
    within_below k (of_int_whole a (leb→le (nat_abs a) (2 ^ k) l) small) (of_int_whole b (leb→le (nat_abs b) (2 ^ k) g) small) both.0 both.1 (le→leb (2 ^ k) (2 ^ k) (le_refl (2 ^ k)))
