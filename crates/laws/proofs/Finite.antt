-- Bounds on floats: an expression whose parts are finite and bounded is finite and bounded, so it is never a NaN; and a sum of squares
-- is not negative. A proof of such a bound has the shape of the expression, with `tt` at each operation (`Examples` has one). Assumes nothing.
use mathlib.Core.Path.{◌≡◌, refl, sym, ap, ◌∙◌, subst}
use mathlib.Core.Bool.{Bool, true, false, ◌&&◌, cond, beq, true≢false}
use Prim.Native.Nat.{ℕ, zero, suc, ◌+◌, ◌-◌, ◌*◌, ◌^◌, ◌≤◌, ◌<◌, max}
use native.Mathlib.Nat.{le_trans, le_of_eq, lt_of_lt_of_le, le-max_left, le-max_right, mul-one, one-mul, mul_comm, mul_assoc, mul-mul-mul_comm, mul-le-mul, mul-le-mul_right, mul-pos, pow-suc, zero-lt-suc}
use native.Mathlib.Omega.{arith}
use lib.Dec.{T, leb, ltb, eqb, leb→le, lt→ltb, eqb→eq}
use lib.Pow.{pow-add, pow_pos, pow-lt, pow_mono}
use lib.IntN.{ℤ, pos, negsuc, nat_abs}
use lib.Signed.{non_neg}
use lib.Ieee.{Float, nan, inf, fin, Format, binary64, prec, emax, low, up, down, odd, units, round, is_nan, neg, sum, add, sub, mul, div, le, of_int, unlike}
use lib.Ieee.Fits.{and_l, and_r, down_pos, round_is, two, two-le_pos}
use lib.Ieee.Exact.{HasValue, round_exact}
use lib.Ieee.Order.{round_mono}
use lib.Ieee.Positive.{positive, positive_of_value, values_of_le}
use Rattle.laws.specs.inside.Finite.{Plus, NonNeg}

-- ---- definitions: each is a record, so that antt finds the bound and the float from a fact in hand

abbrev pub AtMost : ℕ → Float → Type 0
AtMost k nan = ⊥
AtMost k (inf s) = ⊥
AtMost k (fin s m e) = m * up e ≤ 2 ^ k * down e

abbrev pub AtLeastOne : Float → Type 0
AtLeastOne nan = ⊥
AtLeastOne (inf s) = ⊥
AtLeastOne (fin s m e) = down e ≤ m * up e

-- finite, and 2 ^ k at most in size
pub record Below (k : ℕ) (x : Float) : Type 0 where
  pub at_most : AtMost k x

-- finite, and 1 at least in size
pub record Big (x : Float) : Type 0 where
  pub at_least : AtLeastOne x

-- ---- never a NaN

pub below_number : {k : ℕ} {x : Float} → Below k x → is_nan x ≡ false
unfolding is_nan
below_number {x = nan} h = absurd h.at_most
below_number {x = inf s} h = absurd h.at_most
below_number {x = fin s m e} h = refl

pub nonneg_number : {x : Float} → NonNeg x → is_nan x ≡ false
unfolding is_nan
nonneg_number {x = nan} h = absurd h.plus
nonneg_number {x = inf s} h = refl
nonneg_number {x = fin s m e} h = refl

-- ---- a wider bound, and the opposite

pub below_mono : {j k : ℕ} {x : Float} → Below j x → T (leb j k) → Below k x
below_mono {x = nan} h t = absurd h.at_most
below_mono {x = inf s} h t = absurd h.at_most
below_mono {j} {k} {x = fin s m e} h t = record { at_most = le_trans h.at_most (mul-le-mul_right (down e) (pow_mono (leb→le j k t))) }

pub neg_below : {k : ℕ} {x : Float} → Below k x → Below k (neg x)
unfolding neg
neg_below {x = nan} h = h
neg_below {x = inf s} h = absurd h.at_most
neg_below {x = fin s m e} h = record { at_most = h.at_most }

-- ---- a rounded fraction: its sign is the sign that `round` is handed, so its size is that of the same fraction with the sign +

with_sign : Bool → Float → Float
with_sign true x = neg x
with_sign false x = x

odd_sign_is : (d : ℕ) (s : Bool) (q k l : ℕ) → odd d s q k l ≡ with_sign s (odd d false q k l)
unfolding odd with_sign neg
odd_sign_is d true zero k l = refl
odd_sign_is d false zero k l = refl
odd_sign_is d true (suc q) k l = refl
odd_sign_is d false (suc q) k l = refl

units_sign_is : (f : Format) (s : Bool) (q k : ℕ) → units f s q k ≡ with_sign s (units f false q k)
unfolding units
units_sign_is f s q k = go (ltb (q * 2 ^ k) (2 ^ (low f + suc (emax f)))) s
  where
    go : (b : Bool) (s : Bool) → cond b (odd (suc (prec f)) s q k (low f)) (inf s) ≡ with_sign s (cond b (odd (suc (prec f)) false q k (low f)) (inf false))
    go true s = odd_sign_is (suc (prec f)) s q k (low f)
    go false true = unfold with_sign neg in refl
    go false false = unfold with_sign neg in refl

round_sign_is : (f : Format) (s : Bool) (a c : ℕ) → round f s a c ≡ with_sign s (round f false a c)
unfolding round
round_sign_is f s a c = units_sign_is f s _ _

odd_plus : (d q k l : ℕ) → Plus (odd d false q k l)
unfolding odd
odd_plus d zero k l = refl
odd_plus d (suc q) k l = refl

units_plus : (f : Format) (q k : ℕ) → Plus (units f false q k)
unfolding units
units_plus f q k = go (ltb (q * 2 ^ k) (2 ^ (low f + suc (emax f))))
  where
    go : (b : Bool) → Plus (cond b (odd (suc (prec f)) false q k (low f)) (inf false))
    go true = odd_plus (suc (prec f)) q k (low f)
    go false = refl

pub round_nonneg : (f : Format) (a c : ℕ) → NonNeg (round f false a c)
round_nonneg f a c = record { plus = subst Plus (sym (round_is f false a c)) (units_plus f _ _) }

-- a power of two is a value of the format
round_pow : (f : Format) (k : ℕ) → k ≤ emax f → HasValue (round f false (2 ^ k) 1) false (2 ^ k) 1
round_pow f k h =
    round_exact f false (2 ^ k) 1 1 (k + low f) (pow_pos 0) (pow-lt (two-le_pos (prec f) (two f)))
    (subst (λ (x : ℕ). x < 2 ^ (low f + suc (emax f))) (sym (one-mul (2 ^ (k + low f)))) (pow-lt (at_top k (low f) (emax f) h)))
    (sym (mul-one (1 * 2 ^ (k + low f)) ∙ one-mul (2 ^ (k + low f)) ∙ pow-add 2 k (low f)))
  where
    at_top : (k l e : ℕ) → k ≤ e → k + l < l + suc e
    at_top k l e h = omega arith

under_pow : (x y : Float) (k : ℕ) → NonNeg x → HasValue y false (2 ^ k) 1 → T (le x y) → Below k x
unfolding le
under_pow nan y k p v h = absurd p.plus
under_pow (inf s) nan k p v h = absurd v
under_pow (inf s) (inf t) k p v h = absurd v
under_pow (inf true) (fin t n d) k p v h = absurd (true≢false p.plus)
under_pow (inf false) (fin t n d) k p v h = absurd h
under_pow (fin true m e) y k p v h = absurd (true≢false p.plus)
under_pow (fin false zero e) y k p v h = record { at_most = omega arith }
under_pow (fin false (suc m) e) y k p v h =
    let a : T (positive (fin false (suc m) e)) = lt→ltb 0 (suc m) (zero-lt-suc m) in
    record { at_most = le_trans (le_of_eq (sym (mul-one (suc m * up e)))) (values_of_le (fin false (suc m) e) y (suc m * up e) (down e) (2 ^ k) 1 a (positive_of_value y (2 ^ k) 1 v (pow_pos k)) (refl, refl) v h) }

with_sign_below : (s : Bool) (k : ℕ) (x : Float) → Below k x → Below k (with_sign s x)
unfolding with_sign
with_sign_below true k x h = neg_below h
with_sign_below false k x h = h

pub round_below : (f : Format) (s : Bool) (a c k : ℕ) → 0 < c → k ≤ emax f → a ≤ 2 ^ k * c → Below k (round f s a c)
round_below f s a c k C K h =
    subst (λ (x : Float). Below k x) (sym (round_sign_is f s a c))
    (with_sign_below s k (round f false a c)
    (under_pow (round f false a c) (round f false (2 ^ k) 1) k (round_nonneg f a c) (round_pow f k K)
    (round_mono f a c (2 ^ k) 1 C (pow_pos 0) (le_trans (le_of_eq (mul-one a)) h))))

-- ---- the operations on what is bounded. The last argument says that the bound is within the format: `tt` proves it at numbers

no_zero : (n u d : ℕ) → n ≡ 0 → 0 < d → d ≤ n * u → ⊥
no_zero n u d z p h = omega (arith, ap (λ (x : ℕ). x * u) z)

-- what is bounded is finite, so a proof need not go by NaN and infinity
below_cases : {k : ℕ} {x : Float} (Q : Float → Type 0) → ((s : Bool) (m : ℕ) (e : ℤ) → m * up e ≤ 2 ^ k * down e → Q (fin s m e)) → Below k x → Q x
below_cases {x = nan} Q q h = absurd h.at_most
below_cases {x = inf s} Q q h = absurd h.at_most
below_cases {x = fin s m e} Q q h = q s m e h.at_most

big_cases : {x : Float} (Q : Float → Type 0) → ((s : Bool) (m : ℕ) (e : ℤ) → down e ≤ m * up e → Q (fin s m e)) → Big x → Q x
big_cases {x = nan} Q q h = absurd h.at_least
big_cases {x = inf s} Q q h = absurd h.at_least
big_cases {x = fin s m e} Q q h = q s m e h.at_least

pub mul_below : {j k : ℕ} {x y : Float} → Below j x → Below k y → T (leb (j + k) 1023) → Below (j + k) (mul binary64 x y)
unfolding mul
mul_below {j} {k} {x} {y} h g t =
    below_cases (λ x. Below (j + k) (mul binary64 x y))
    (λ s m e h. below_cases (λ y. Below (j + k) (mul binary64 (fin s m e) y)) (λ r n d g. finite s m e r n d h g) g) h
  where
    finite : (s : Bool) (m : ℕ) (e : ℤ) (r : Bool) (n : ℕ) (d : ℤ) → m * up e ≤ 2 ^ j * down e → n * up d ≤ 2 ^ k * down d → Below (j + k) (mul binary64 (fin s m e) (fin r n d))
    finite s m e r n d h g =
        round_below binary64 (unlike s r) (m * up e * (n * up d)) (down e * down d) (j + k) (mul-pos (down_pos e) (down_pos d)) (leb→le (j + k) 1023 t)
        (le_trans (mul-le-mul h g) (le_of_eq (mul-mul-mul_comm (2 ^ j) (down e) (2 ^ k) (down d) ∙ ap (λ (z : ℕ). z * (down e * down d)) (sym (pow-add 2 j k)))))

sum_below : (f : Format) (s : Bool) (a : ℕ) (r : Bool) (b c k : ℕ) → 0 < c → suc k ≤ emax f → a ≤ 2 ^ k * c → b ≤ 2 ^ k * c → Below (suc k) (sum f s a r b c)
unfolding sum
sum_below f s a r b c k C K h g = go (beq s r) (ltb a b)
  where
    twice : (n : ℕ) → n ≤ 2 ^ k * c + 2 ^ k * c → n ≤ 2 ^ suc k * c
    twice n l = omega (arith, ap (λ (z : ℕ). z * c) (pow-suc 2 k))

    go : (u v : Bool) → Below (suc k) (cond u (round f s (a + b) c) (cond v (round f r (b - a) c) (round f (s && ltb b a) (a - b) c)))
    go true v = round_below f s (a + b) c (suc k) C K (twice (a + b) (omega arith))
    go false true = round_below f r (b - a) c (suc k) C K (twice (b - a) (omega arith))
    go false false = round_below f (s && ltb b a) (a - b) c (suc k) C K (twice (a - b) (omega arith))

pub add_below : {j k : ℕ} {x y : Float} → Below j x → Below k y → T (leb (suc (max j k)) 1023) → Below (suc (max j k)) (add binary64 x y)
unfolding add
add_below {j} {k} {x} {y} h g t =
    below_cases (λ x. Below (suc (max j k)) (add binary64 x y))
    (λ s m e h. below_cases (λ y. Below (suc (max j k)) (add binary64 (fin s m e) y)) (λ r n d g. finite s m e r n d h g) g) h
  where
    finite : (s : Bool) (m : ℕ) (e : ℤ) (r : Bool) (n : ℕ) (d : ℤ) → m * up e ≤ 2 ^ j * down e → n * up d ≤ 2 ^ k * down d → Below (suc (max j k)) (add binary64 (fin s m e) (fin r n d))
    finite s m e r n d h g =
        sum_below binary64 s (m * up e * down d) r (n * up d * down e) (down e * down d) (max j k) (mul-pos (down_pos e) (down_pos d)) (leb→le (suc (max j k)) 1023 t)
        (wider (m * up e) (2 ^ j) (2 ^ max j k) (down e) (down d) h (pow_mono (le-max_left j k)))
        (le_trans (wider (n * up d) (2 ^ k) (2 ^ max j k) (down d) (down e) g (pow_mono (le-max_right j k))) (le_of_eq (ap (λ (z : ℕ). 2 ^ max j k * z) (mul_comm (down d) (down e)))))
      where
        wider : (a p q c d : ℕ) → a ≤ p * c → p ≤ q → a * d ≤ q * (c * d)
        wider a p q c d h l = le_trans (mul-le-mul_right d (le_trans h (mul-le-mul_right c l))) (le_of_eq (mul_assoc q c d))

pub sub_below : {j k : ℕ} {x y : Float} → Below j x → Below k y → T (leb (suc (max j k)) 1023) → Below (suc (max j k)) (sub binary64 x y)
unfolding sub
sub_below h g t = add_below h (neg_below g) t

-- a divisor that is 1 at least in size
pub div_below : {k : ℕ} {x y : Float} → Below k x → Big y → T (leb k 1023) → Below k (div binary64 x y)
unfolding div
div_below {k} {x} {y} h g t =
    below_cases (λ x. Below k (div binary64 x y))
    (λ s m e h. big_cases (λ y. Below k (div binary64 (fin s m e) y)) (λ r n d g. finite s m e r n d h g) g) h
  where
    finite : (s : Bool) (m : ℕ) (e : ℤ) (r : Bool) (n : ℕ) (d : ℤ) → m * up e ≤ 2 ^ k * down e → down d ≤ n * up d → Below k (div binary64 (fin s m e) (fin r n d))
    finite s m e r n d h g = go (eqb n 0) (eqb→eq n 0)
      where
        go : (b : Bool) → (T b → n ≡ 0) → Below k (cond b (cond (eqb m 0) nan (inf (unlike s r))) (round binary64 (unlike s r) (m * up e * down d) (n * up d * down e)))
        go true z = absurd (no_zero n (up d) (down d) (z tt) (down_pos d) g)
        go false z =
            round_below binary64 (unlike s r) (m * up e * down d) (n * up d * down e) k (mul-pos (lt_of_lt_of_le (down_pos d) g) (down_pos e)) (leb→le k 1023 t)
            (le_trans (mul-le-mul h g) (le_of_eq (mul_assoc (2 ^ k) (down e) (n * up d) ∙ ap (λ (z : ℕ). 2 ^ k * z) (mul_comm (down e) (n * up d)))))

-- an integer, from a bound that is a number
pub of_int_below : (k : ℕ) (z : ℤ) {n : ℕ} → nat_abs z ≤ n → T (leb n (2 ^ k) && leb k 1023) → Below k (of_int binary64 z)
unfolding of_int
of_int_below k z {n} h t = go z h
  where
    fits : (m : ℕ) → m ≤ n → m ≤ 2 ^ k * 1
    fits m l = le_trans l (le_trans (leb→le n (2 ^ k) (and_l (leb n (2 ^ k)) (leb k 1023) t)) (le_of_eq (sym (mul-one (2 ^ k)))))

    in_format : k ≤ 1023
    in_format = leb→le k 1023 (and_r (leb n (2 ^ k)) (leb k 1023) t)

    go : (z : ℤ) → nat_abs z ≤ n → Below k (of_int binary64 z)
    go (pos m) h = round_below binary64 false m 1 k (pow_pos 0) in_format (fits m h)
    go (negsuc m) h = round_below binary64 true (suc m) 1 k (pow_pos 0) in_format (fits (suc m) h)

-- ---- the operations on what is not negative

pub nonneg_cases : {x : Float} (Q : Float → Type 0) → Q (inf false) → ((m : ℕ) (e : ℤ) → Q (fin false m e)) → NonNeg x → Q x
nonneg_cases {x = nan} Q i q h = absurd h.plus
nonneg_cases {x = inf true} Q i q h = absurd (true≢false h.plus)
nonneg_cases {x = inf false} Q i q h = i
nonneg_cases {x = fin true m e} Q i q h = absurd (true≢false h.plus)
nonneg_cases {x = fin false m e} Q i q h = q m e

pub infinity_nonneg : NonNeg (inf false)
infinity_nonneg = record { plus = refl }

pub of_int_nonneg : (z : ℤ) → T (non_neg z) → NonNeg (of_int binary64 z)
unfolding of_int
of_int_nonneg (pos n) t = round_nonneg binary64 n 1
of_int_nonneg (negsuc n) t = absurd t

pub add_nonneg : {x y : Float} → NonNeg x → NonNeg y → NonNeg (add binary64 x y)
unfolding add sum
add_nonneg {x} {y} h g =
    nonneg_cases (λ x. NonNeg (add binary64 x y))
    (nonneg_cases (λ y. NonNeg (add binary64 (inf false) y)) infinity_nonneg (λ n d. infinity_nonneg) g)
    (λ m e. nonneg_cases (λ y. NonNeg (add binary64 (fin false m e) y)) infinity_nonneg
    (λ n d. round_nonneg binary64 (m * up e * down d + n * up d * down e) (down e * down d)) g) h

-- a square of what is finite
pub square_nonneg : {k : ℕ} {x : Float} → Below k x → NonNeg (mul binary64 x x)
unfolding mul
square_nonneg {x} h = below_cases (λ x. NonNeg (mul binary64 x x)) (λ s m e l. square s m e) h
  where
    square : (s : Bool) (m : ℕ) (e : ℤ) → NonNeg (mul binary64 (fin s m e) (fin s m e))
    square true m e = round_nonneg binary64 (m * up e * (m * up e)) (down e * down e)
    square false m e = round_nonneg binary64 (m * up e * (m * up e)) (down e * down e)
