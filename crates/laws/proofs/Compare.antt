-- Among the floats that are no NaN, `le` and `eq` are what `lt` says: x is at most y where y is not less, and they are equal where neither
-- is less. So what is known of `lt` is known of all three. Assumes nothing.
use mathlib.Core.Path.{◌≡◌, refl, sym, ap, ◌∙◌}
use mathlib.Core.Bool.{Bool, true, false, not, ◌&&◌, ◌||◌, true≢false, false≢true, and-true, and-false, and_comm}
use Prim.Native.Nat.{ℕ, zero, suc, ◌+◌, ◌*◌}
use native.Mathlib.Nat.{add_comm, le_antisymm, le_of_lt}
use native.Mathlib.Omega.{arith}
use lib.Dec.{ltb, eqb}
use lib.Ieee.{Float, nan, inf, fin, up, down, is_nan, lt, le, eq, below, level}
use borrow.Author.Tests.{ltb-true, ltb-false, lt-ltb, le-ltb, eq-eqb, ne_eqb}

-- ---- of two sizes with their signs

below_asymmetric : (s r : Bool) (a b : ℕ) → below s a r b ≡ true → below r b s a ≡ false
below_asymmetric false false a b h = le-ltb b a (le_of_lt (ltb-true a b h))
below_asymmetric false true a b h = absurd (false≢true h)
below_asymmetric true false a b h = refl
below_asymmetric true true a b h = le-ltb a b (le_of_lt (ltb-true b a h))

-- of like signs
eqb_is : (a b : ℕ) → eqb a b ≡ (not (ltb a b) && not (ltb b a))
eqb_is a b = go (ltb a b) (ltb b a) refl refl
  where
    go : (t u : Bool) → ltb a b ≡ t → ltb b a ≡ u → eqb a b ≡ (not t && not u)
    go true u h k = ne_eqb a b (λ e. omega (arith, ltb-true a b h))
    go false true h k = ne_eqb a b (λ e. omega (arith, ltb-true b a k))
    go false false h k = eq-eqb a b (le_antisymm (ltb-false b a k) (ltb-false a b h))

-- of unlike signs
zeros_is : (a b : ℕ) → (eqb a b && eqb a 0) ≡ not (ltb 0 (a + b))
zeros_is zero zero = refl
zeros_is zero (suc b) = rw (ne_eqb 0 (suc b) (λ e. omega arith), lt-ltb 0 (0 + suc b) (omega arith))
zeros_is (suc a) b = rw (ne_eqb (suc a) 0 (λ e. omega arith), lt-ltb 0 (suc a + b) (omega arith)) (and-false (eqb (suc a) b))

level_is : (s r : Bool) (a b : ℕ) → level s a r b ≡ (not (below s a r b) && not (below r b s a))
level_is false false a b = and-true (eqb a b) ∙ eqb_is a b
level_is true true a b = and-true (eqb a b) ∙ eqb_is a b ∙ and_comm (not (ltb a b)) (not (ltb b a))
level_is false true a b = zeros_is a b ∙ ap (λ (n : ℕ). not (ltb 0 n)) (add_comm a b)
level_is true false a b = zeros_is a b ∙ sym (and-true (not (ltb 0 (a + b))))

at_most_is : (s r : Bool) (a b : ℕ) → (below s a r b || level s a r b) ≡ not (below r b s a)
at_most_is s r a b = rw level_is (go (below s a r b) (below r b s a) (below_asymmetric s r a b))
  where
    go : (t u : Bool) → (t ≡ true → u ≡ false) → (t || (not t && not u)) ≡ not u
    go true u h = sym (ap not (h refl))
    go false u h = refl

-- ---- of two numbers

pub eq_is : (x y : Float) → is_nan x ≡ false → is_nan y ≡ false → eq x y ≡ (not (lt x y) && not (lt y x))
unfolding is_nan eq lt
eq_is nan y p q = absurd (true≢false p)
eq_is (inf s) nan p q = absurd (true≢false q)
eq_is (inf true) (inf true) p q = refl
eq_is (inf true) (inf false) p q = refl
eq_is (inf false) (inf true) p q = refl
eq_is (inf false) (inf false) p q = refl
eq_is (inf true) (fin t n d) p q = refl
eq_is (inf false) (fin t n d) p q = refl
eq_is (fin s m e) nan p q = absurd (true≢false q)
eq_is (fin s m e) (inf true) p q = refl
eq_is (fin s m e) (inf false) p q = refl
eq_is (fin s m e) (fin t n d) p q = level_is s t (m * up e * down d) (n * up d * down e)

pub le_is : (x y : Float) → is_nan x ≡ false → is_nan y ≡ false → le x y ≡ not (lt y x)
unfolding is_nan le
le_is nan y p q = absurd (true≢false p)
le_is (inf s) nan p q = absurd (true≢false q)
le_is (inf true) (inf true) p q = refl
le_is (inf true) (inf false) p q = refl
le_is (inf false) (inf true) p q = refl
le_is (inf false) (inf false) p q = refl
le_is (inf true) (fin t n d) p q = refl
le_is (inf false) (fin t n d) p q = refl
le_is (fin s m e) nan p q = absurd (true≢false q)
le_is (fin s m e) (inf true) p q = refl
le_is (fin s m e) (inf false) p q = refl
le_is (fin s m e) (fin t n d) p q = at_most_is s t (m * up e * down d) (n * up d * down e)

-- of a NaN it is false
pub le_nan : (x : Float) → le x nan ≡ false
unfolding le
le_nan nan = refl
le_nan (inf s) = refl
le_nan (fin s m e) = refl
