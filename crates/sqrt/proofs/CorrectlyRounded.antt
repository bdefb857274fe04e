-- The root is correctly rounded, as IEEE 754 asks: no value of the format is nearer to the exact root (`no_value_nearer`), and of the 2^64 patterns
-- none stands for a nearer double than the answer of `sqrt_bits` does (`no_pattern_nearer`). The words are those of `Root` and `Nearest`. Assumes
-- nothing.
use Prim.Native.Nat.{ℕ, zero, suc, ◌+◌, ◌-◌, ◌*◌, ◌/◌, ◌%◌, ◌^◌, ◌≤◌, ◌<◌}
use mathlib.Core.Bool.{Bool, true, false, true≢false}
use mathlib.Core.Path.{◌≡◌, refl, sym, ap, subst₂, ◌∙◌}
use native.Mathlib.Nat.{le_of_lt, zero-lt-suc, mul-pos, mul_right_comm}
use native.Mathlib.Omega.{arith}
use lib.IntN.{ℤ}
use lib.Dec.{T, ltb, lt→ltb}
use lib.Ieee.{Float, nan, inf, fin, Format, binary64, low, fits, is_nan, of_bits, to_bits}
use lib.Ieee.Bits.{of_bits-fits, of_bits-to_bits, nan_bits_is, nan_bits_above}
use lib.Ieee.Positive.{num, den, positive, positive_of_value}
use lib.Pow.{pow_pos}
use borrow.Author.Tests.{ltb-true, ltb-false, lt-ltb}
use Rattle.sqrt.specs.Nearest.{in_units, Farther, NotNearer}
use Rattle.sqrt.proofs.nearest.Patterns.{reads_subnormal, reads_normal, no_root_of_negative}
use Rattle.sqrt.specs.Root.{whole_root, in_squares, root_of, root_bits}
use Rattle.sqrt.proofs.nearest.RootFits as RootFits
use Rattle.sqrt.proofs.nearest.RootUnits.{farther_from_root, root_above_zero, square_root}
use Rattle.sqrt.proofs.whole.WholeRoot as WholeRoot
use Rattle.sqrt.proofs.whole.WholeUnits.{units_exact, squares_are}

-- ---- the whole part of a root, and what a format holds

-- `whole_root n` is the greatest whole number whose square is at most n, and the only number like that.
pub whole_root_lem : (n : ℕ) → (whole_root n * whole_root n ≤ n) × (n < suc (whole_root n) * suc (whole_root n))
whole_root_lem = WholeRoot.whole_root_is

pub whole_root_only : (n r : ℕ) → r * r ≤ n → n < suc r * suc r → whole_root n ≡ r
whole_root_only = WholeRoot.whole_root_only

-- The root of a value that the format holds is a value that it holds.
pub root_fits : (f : Format) (x : Float) → T (fits f x) → T (fits f (root_of f x))
root_fits = RootFits.root_fits

-- Of a value that fits, the units of the smallest value and the squares of it are whole numbers: the divisions lose nothing.
pub in_units_exact : (f : Format) (x : Float) → T (fits f x) → in_units f x * den x ≡ num x * 2 ^ low f
in_units_exact = units_exact

pub in_squares_exact : (f : Format) (x : Float) → T (fits f x) → in_squares f (num x) (den x) * den x ≡ num x * 2 ^ low f * 2 ^ low f
in_squares_exact f x h =
    ap (λ (n : ℕ). n * den x) (squares_are f x h)
    ∙ mul_right_comm (in_units f x) (2 ^ low f) (den x)
    ∙ ap (λ (n : ℕ). n * 2 ^ low f) (units_exact f x h)

-- ---- the root of a value x that is finite and above zero

-- It is finite and above zero.
pub root_positive : (f : Format) (x : Float) → T (positive x) → T (fits f x) → T (positive (root_of f x))
root_positive = root_above_zero

-- IEEE 754: no value y of the format is nearer to the exact root.
pub no_value_nearer : (f : Format) (x : Float) → T (positive x) → T (fits f x) → (y : Float) → T (fits f y) →
    NotNearer (in_squares f (num x) (den x)) (in_units f (root_of f x)) (in_units f y)
no_value_nearer f x p h y k =
    let farther = farther_from_root f x p h y k in (λ l. le_of_lt (farther.0 l), λ l. le_of_lt (farther.1 l))

-- There is never a tie: any value y of another size is farther.
pub no_tie : (f : Format) (x : Float) → T (positive x) → T (fits f x) → (y : Float) → T (fits f y) →
    Farther (in_squares f (num x) (den x)) (in_units f (root_of f x)) (in_units f y)
no_tie = farther_from_root

-- If x is exactly the square of a value y of the format, the root is y.
pub exact_square : (f : Format) (x : Float) → T (positive x) → T (fits f x) → (y : Float) → T (positive y) → T (fits f y) →
    in_units f y * in_units f y ≡ in_squares f (num x) (den x) → root_of f x ≡ y
exact_square = square_root

-- ---- the root of a value that is finite and not negative

-- It is finite and not negative.
pub root_not_negative : (f : Format) (m : ℕ) (e : ℤ) → T (fits f (fin false m e)) →
    (m' : ℕ) × (e' : ℤ) × (root_of f (fin false m e) ≡ fin false m' e')
unfolding root_of
root_not_negative f zero e h = (0, e, refl)
root_not_negative f (suc m) e h =
    form (root_of f (fin false (suc m) e)) (root_positive f (fin false (suc m) e) (lt→ltb 0 (suc m) (zero-lt-suc m)) h)
  where
    form : (v : Float) → T (positive v) → (m' : ℕ) × (e' : ℤ) × (v ≡ fin false m' e')
    form nan p = absurd p
    form (inf s) p = absurd p
    form (fin true m e) p = absurd p
    form (fin false m e) p = (m, e, refl)

-- ---- the 2^64 patterns that `sqrt_bits` takes

-- The size of the double that a pattern stands for, in units of the smallest double, 2^-1074; it is taken as 0 for an infinity and a NaN.
abbrev pub size_of : ℕ → ℕ
size_of p = in_units binary64 (of_bits binary64 p)

-- The double that the answer stands for is the root.
pub answers_the_root : (p : ℕ) → of_bits binary64 (root_bits p) ≡ root_of binary64 (of_bits binary64 p)
answers_the_root p = of_bits-to_bits binary64 (root_of binary64 (of_bits binary64 p)) (root_fits binary64 (of_bits binary64 p) (of_bits-fits binary64 p))

-- The patterns between 0 and that of +infinity stand for doubles that are finite and above zero.
pub above_zero : (p : ℕ) → 0 < p → p < 0x7ff0000000000000 → T (positive (of_bits binary64 p))
above_zero p some finite = by_field (ltb p (2 ^ 52)) (ltb-true _ _) (ltb-false _ _)
  where
    by_field : (b : Bool) → (b ≡ true → p < 2 ^ 52) → (b ≡ false → 2 ^ 52 ≤ p) → T (positive (of_bits binary64 p))
    by_field true less more = positive_of_value (of_bits binary64 p) p (2 ^ 1074) (reads_subnormal binary64 p (less refl)) some
    by_field false less more =
        let l : 2 ^ 52 ≤ p = more refl in
        let x = p / 2 ^ 52 - 1 in
        positive_of_value (of_bits binary64 p) ((2 ^ 52 + p % 2 ^ 52) * 2 ^ x) (2 ^ 1074) (reads_normal binary64 p x (omega arith) (omega arith) (omega arith))
        (mul-pos (omega arith) (pow_pos x))

-- Let p be a pattern below that of +infinity, so that its double is finite and not negative, and q any pattern. In units of 2^-1074 the exact root of
-- p's double is the root of size_of p * 2 ^ 1074. The answer's double is nearer to it than q's, unless the two are of one size. (A negative
-- double lies farther from the root than its size does, so this holds of it all the more.)
pub other_patterns_farther : (p q : ℕ) → p < 0x7ff0000000000000 → Farther (size_of p * 2 ^ 1074) (size_of (root_bits p)) (size_of q)
unfolding to_bits root_of of_bits
other_patterns_farther zero q h = (λ l. absurd (omega arith), λ l. omega (arith, mul-pos l l))
other_patterns_farther (suc k) q h =
    subst₂ (λ (n r : ℕ). Farther n r (size_of q)) (squares_are binary64 x (of_bits-fits binary64 (suc k))) (ap (in_units binary64) (sym (answers_the_root (suc k))))
    (farther_from_root binary64 x (above_zero (suc k) (zero-lt-suc k) h) (of_bits-fits binary64 (suc k)) (of_bits binary64 q) (of_bits-fits binary64 q))
  where
    x : Float
    x = of_bits binary64 (suc k)

-- So the double of no pattern q is nearer to the exact root than that of the answer.
pub no_pattern_nearer : (p q : ℕ) → p < 0x7ff0000000000000 → NotNearer (size_of p * 2 ^ 1074) (size_of (root_bits p)) (size_of q)
no_pattern_nearer p q h = let farther = other_patterns_farther p q h in (λ l. le_of_lt (farther.0 l), λ l. le_of_lt (farther.1 l))

-- All other patterns: "-0 gives -0, +infinity itself, NaN or below zero the NaN 7ff8000000000000".
pub root_of_minus_zero : root_bits 0x8000000000000000 ≡ 0x8000000000000000
unfolding to_bits root_of of_bits
root_of_minus_zero = refl

-- both zeros
pub zero_itself : (p : ℕ) → p < 2 ^ 64 → p % 2 ^ 63 ≡ 0 → p ≡ root_bits p
unfolding to_bits root_of of_bits
zero_itself p short none = by_sign (ltb p (2 ^ 63)) (ltb-true _ _) (ltb-false _ _)
  where
    by_sign : (s : Bool) → (s ≡ true → p < 2 ^ 63) → (s ≡ false → 2 ^ 63 ≤ p) → p ≡ root_bits p
    by_sign true less more = let l : p < 2 ^ 63 = less refl in let e : p ≡ 0 = omega arith in rw e
    by_sign false less more = let l : 2 ^ 63 ≤ p = more refl in let e : p ≡ 2 ^ 63 = omega arith in rw e

pub root_of_infinity : root_bits 0x7ff0000000000000 ≡ 0x7ff0000000000000
unfolding to_bits root_of of_bits
root_of_infinity = refl

root_of_nan : (x : Float) → is_nan x ≡ true → root_of binary64 x ≡ nan
unfolding root_of is_nan
root_of_nan nan e = refl
root_of_nan (inf s) e = absurd (true≢false (sym e))
root_of_nan (fin s m i) e = absurd (true≢false (sym e))

pub root_of_no_number : (p : ℕ) → p < 2 ^ 64 → 0x7ff0000000000000 < p → (p ≡ 0x8000000000000000 → ⊥) → root_bits p ≡ 0x7ff8000000000000
unfolding to_bits
root_of_no_number p fits above other = ap (to_bits binary64) (by_sign (ltb p (2 ^ 63)) (ltb-true _ _) (ltb-false _ _))
  where
    by_sign : (b : Bool) → (b ≡ true → p < 2 ^ 63) → (b ≡ false → 2 ^ 63 ≤ p) → root_of binary64 (of_bits binary64 p) ≡ nan
    by_sign true less more =
        let l : p < 2 ^ 63 = less refl in
        root_of_nan (of_bits binary64 p) (sym (nan_bits_is binary64 p) ∙ nan_bits_above binary64 p ∙ lt-ltb 0x7ff0000000000000 (p % 2 ^ 63) (omega arith))
    by_sign false less more = let l : 2 ^ 63 ≤ p = more refl in no_root_of_negative binary64 p l (λ x t. other (omega arith))
