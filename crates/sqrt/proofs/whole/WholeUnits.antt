-- A value that fits a format is a whole number of units of the format's smallest value, and of few digits but for zeros at the end; and two such
-- values of the same size and sign are the same. So a value of the format is told by a whole number. Assumes nothing.
use Prim.Native.Nat.{ℕ, zero, suc, ◌+◌, ◌-◌, ◌*◌, ◌/◌, ◌^◌, ◌≤◌, ◌<◌}
use mathlib.Core.Bool.{Bool, true, false}
use mathlib.Core.Path.{◌≡◌, refl, sym, ap, ◌∙◌}
use native.Mathlib.Nat.{le_of_suc-le-suc, lt_of_not-le, lt_irrefl, lt_of_lt_of_le, lt_of_le_of_lt, le_of_eq, mul-lt-mul_of_pos_right, lt_of_mul-lt-mul_right, mul_comm, mul_left_comm, mul_right_comm, mul-one, one-mul, mul_assoc, mul-div_cancel}
use native.Mathlib.Omega.{arith}
use lib.IntN.{ℤ, pos, negsuc}
use lib.Dec.{T, eqb→eq, ltb→lt, leb→le}
use lib.Ieee.{Float, nan, inf, fin, Format, prec, emax, low, up, down, fits, of_bits}
use lib.Ieee.Bits.{of_bits-to_bits}
use lib.Ieee.Exact.{HasValue}
use lib.Ieee.Fits.{and_l, and_r}
use lib.Ieee.Positive.{num, den, den_pos, positive, value→cross}
use lib.Pow.{pow-add, pow_pos, pow-lt}
use Rattle.sqrt.specs.Root.{in_squares}
use Rattle.sqrt.specs.Nearest.{in_units}
use Rattle.sqrt.proofs.nearest.Patterns.{bits_of_value}

-- ---- what a value that fits is like

module _ (f : Format) (s : Bool) (m : ℕ) (e : ℤ) (h : T (fits f (fin s (suc m) e))) where
  few_digits : suc m < 2 ^ prec f
  unfolding fits
  few_digits = ltb→lt (suc m) (2 ^ prec f) (search (and_l, and_r))

  not_low : down e ≤ 2 ^ low f
  unfolding fits
  not_low = leb→le (down e) (2 ^ low f) (search (and_l, and_r))

  not_high : suc m * up e < 2 ^ suc (emax f) * down e
  unfolding fits
  not_high = ltb→lt (suc m * up e) (2 ^ suc (emax f) * down e) (search (and_l, and_r))

pow_le_back : (i l : ℕ) → 2 ^ i ≤ 2 ^ l → i ≤ l
pow_le_back i l h = le_of_suc-le-suc (lt_of_not-le (λ (g : suc l ≤ i). lt_irrefl (2 ^ l) (lt_of_lt_of_le (pow-lt g) h)))

-- the denominator is a power of two that divides 2 ^ low
power_over : (l : ℕ) (e : ℤ) → down e ≤ 2 ^ l → (i : ℕ) × (2 ^ i * down e ≡ 2 ^ l)
power_over l (pos k) h = (l, mul-one (2 ^ l))
power_over l (negsuc k) h =
    let g : suc k ≤ l = pow_le_back (suc k) l h in
    let e : l - suc k + suc k ≡ l = omega arith in
    (l - suc k, sym (pow-add 2 (l - suc k) (suc k)) ∙ ap (λ (i : ℕ). 2 ^ i) e)

zero_den : (e : ℤ) → up e * down e ≡ 1 → down e ≡ 1
zero_den (pos k) h = refl
zero_den (negsuc k) h = sym (one-mul (2 ^ suc k)) ∙ h

pub den_divides : (f : Format) (x : Float) → T (fits f x) → (i : ℕ) × (2 ^ i * den x ≡ 2 ^ low f)
unfolding fits
den_divides f nan h = (low f, mul-one (2 ^ low f))
den_divides f (inf s) h = (low f, mul-one (2 ^ low f))
den_divides f (fin s zero e) h = (low f, rw (zero_den e (eqb→eq _ _ h)) (mul-one (2 ^ low f)))
den_divides f (fin s (suc m) e) h = power_over (low f) e (not_low f s m e h)

-- ---- so it is a whole number of units

module _ (f : Format) (x : Float) (h : T (fits f x)) where
  units_are : in_units f x ≡ num x * 2 ^ (den_divides f x h).0
  units_are =
      let d = den_divides f x h in
      ap (λ (p : ℕ). num x * p / den x) (sym d.1)
      ∙ ap (λ (p : ℕ). p / den x) (sym (mul_assoc (num x) (2 ^ d.0) (den x)))
      ∙ mul-div_cancel (num x * 2 ^ d.0) (den_pos x)

  pub units_exact : in_units f x * den x ≡ num x * 2 ^ low f
  units_exact =
      let d = den_divides f x h in
      ap (λ (n : ℕ). n * den x) units_are ∙ mul_assoc (num x) (2 ^ d.0) (den x) ∙ ap (λ (p : ℕ). num x * p) d.1

-- of at most as many digits as the format has, and then zeros
pub grid : (f : Format) (x : Float) → T (fits f x) → (c : ℕ) × (j : ℕ) × (in_units f x ≡ c * 2 ^ j) × (c < 2 ^ prec f)
grid f nan h = (0, 0, units_are f nan h ∙ omega arith, pow_pos (prec f))
grid f (inf s) h = (0, 0, units_are f (inf s) h ∙ omega arith, pow_pos (prec f))
grid f (fin s zero e) h = (0, 0, units_are f (fin s zero e) h ∙ omega arith, pow_pos (prec f))
grid f (fin s (suc m) (pos k)) h =
    let i = (den_divides f (fin s (suc m) (pos k)) h).0 in
    let e = units_are f (fin s (suc m) (pos k)) h ∙ mul_assoc (suc m) (2 ^ k) (2 ^ i) ∙ ap (λ (p : ℕ). suc m * p) (sym (pow-add 2 k i)) in
    (suc m, k + i, e, few_digits f s m (pos k) h)
grid f (fin s (suc m) (negsuc k)) h =
    let i = (den_divides f (fin s (suc m) (negsuc k)) h).0 in
    let e = units_are f (fin s (suc m) (negsuc k)) h ∙ ap (λ (n : ℕ). n * 2 ^ i) (mul-one (suc m)) in
    (suc m, i, e, few_digits f s m (negsuc k) h)

-- ---- the value, from its units

pub value_of_units : (f : Format) (x : Float) → T (positive x) → T (fits f x) → HasValue x false (in_units f x) (2 ^ low f)
value_of_units f nan p h = absurd p
value_of_units f (inf s) p h = absurd p
value_of_units f (fin true m e) p h = absurd p
value_of_units f (fin false m e) p h = (refl, sym (units_exact f (fin false m e) h))

pub units_of_value : (f : Format) (x : Float) (a : ℕ) → HasValue x false a (2 ^ low f) → in_units f x ≡ a
units_of_value f x a v = ap (λ (n : ℕ). n / den x) (value→cross x a (2 ^ low f) v) ∙ mul-div_cancel a (den_pos x)

pub same_value : (f : Format) (a : ℕ) (x y : Float) → T (fits f x) → T (fits f y) → HasValue x false a (2 ^ low f) → HasValue y false a (2 ^ low f) → x ≡ y
same_value f a x y h k v u =
    sym (of_bits-to_bits f x h) ∙ ap (of_bits f) (bits_of_value f a x v ∙ sym (bits_of_value f a y u)) ∙ of_bits-to_bits f y k

pub units_below : (f : Format) (x : Float) → T (positive x) → T (fits f x) → in_units f x < 2 ^ (low f + suc (emax f))
units_below f nan p h = absurd p
units_below f (inf s) p h = absurd p
units_below f (fin true m e) p h = absurd p
units_below f (fin false zero e) p h = absurd p
units_below f (fin false (suc m) e) p h =
    lt_of_mul-lt-mul_right (down e)
    (lt_of_le_of_lt (le_of_eq (units_exact f (fin false (suc m) e) h))
    (lt_of_lt_of_le (mul-lt-mul_of_pos_right (not_high f false m e h) (pow_pos (low f))) (le_of_eq (rw pow-add (simp (mul_assoc, mul_comm, mul_left_comm))))))

-- a value in squares of the smallest value
pub squares_are : (f : Format) (x : Float) → T (fits f x) → in_squares f (num x) (den x) ≡ in_units f x * 2 ^ low f
squares_are f x h =
    ap (λ (n : ℕ). n * 2 ^ low f / den x) (sym (units_exact f x h))
    ∙ ap (λ (n : ℕ). n / den x) (mul_right_comm (in_units f x) (den x) (2 ^ low f))
    ∙ mul-div_cancel (in_units f x * 2 ^ low f) (den_pos x)
