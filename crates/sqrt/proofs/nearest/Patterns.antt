-- Bit patterns and roots: what value a pattern stands for in units of the smallest value, what the root of a value of so many units is, and
-- which pattern that root has. Assumes nothing.
use Prim.Native.Nat.{ℕ, zero, suc, ◌+◌, ◌-◌, ◌*◌, ◌/◌, ◌%◌, ◌^◌, ◌≤◌, ◌<◌}
use mathlib.Core.Bool.{Bool, true, false, cond, true≢false}
use mathlib.Core.Logic.{◌⊎◌, inl, inr}
use mathlib.Core.Path.{◌≡◌, refl, sym, ap, ◌∙◌}
use native.Mathlib.Nat.{le_refl, lt_of_lt_of_le, lt_of_le_of_lt, eq-or-lt_of_le, mul-one, mul_right_comm, mul-le-mul_right, mul-lt-mul_of_pos_right, mul-pos, mul-div_cancel, mod-eq_of_lt, pow-suc, zero-add, zero-lt-suc, le-mul_of_pos_right, div-eq_of_lt, suc-mul, mul_assoc, mul_comm, mul_left_comm}
use native.Mathlib.Omega.{arith}
use lib.IntN.{ℤ}
use lib.Dec.{leb, eqb}
use lib.Ieee.{Float, nan, inf, fin, Format, prec, emax, low, up, down, size, units, hid, ones, top, of_fields, of_bits, to_bits}
use lib.Ieee.Exact.{HasValue, odd_sign, units_val}
use lib.Ieee.Fits.{two, down_pos}
use lib.Pow.{pow-add, pow_pos, pow-lt}
use borrow.Author.Tests.{lt-leb, le-leb, ne_eqb, eqb-false}
use Rattle.sqrt.specs.inside.Whole.{NearestWhole}
use Rattle.sqrt.specs.Root.{nearest_root, root_of}
use Rattle.sqrt.proofs.nearest.NearestRoot.{size_is, digits_are, nearest_whole, nearest_long}

-- ---- the root of a value, from its size in units

module _ (f : Format) (a : ℕ) (positive : 0 < a) where
  not_zero : (e : ℤ) → zero * up e * 2 ^ low f ≡ a * down e → ⊥
  not_zero e h = omega (arith, mul-pos positive (down_pos e))

  pub root_of_units : (x : Float) → HasValue x false a (2 ^ low f) → root_of f x ≡ nearest_root f (a * 2 ^ low f)
  unfolding root_of
  root_of_units nan v = absurd v
  root_of_units (inf s) v = absurd v
  root_of_units (fin s zero e) v = absurd (not_zero e v.1)
  root_of_units (fin true (suc m) e) v = absurd (true≢false v.0)
  root_of_units (fin false (suc m) e) v =
      ap (nearest_root f)
      (ap (λ (u : ℕ). u * 2 ^ low f / down e) v.1
      ∙ ap (λ (u : ℕ). u / down e) (mul_right_comm a (down e) (2 ^ low f))
      ∙ mul-div_cancel (a * 2 ^ low f) (down_pos e))

  pub no_root_below_zero : (x : Float) → HasValue x true a (2 ^ low f) → root_of f x ≡ nan
  unfolding root_of
  no_root_below_zero nan v = absurd v
  no_root_below_zero (inf s) v = absurd v
  no_root_below_zero (fin s zero e) v = absurd (not_zero e v.1)
  no_root_below_zero (fin true (suc m) e) v = refl
  no_root_below_zero (fin false (suc m) e) v = absurd (true≢false (sym v.0))

-- ---- the pattern of a value, from its size in units

pub bits_of_value : (f : Format) (a : ℕ) (x : Float) → HasValue x false a (2 ^ low f) → to_bits f x ≡ (size a - prec f) * hid f + a / 2 ^ (size a - prec f)
unfolding to_bits
bits_of_value f a nan v = absurd v
bits_of_value f a (inf s) v = absurd v
bits_of_value f a (fin true m e) v = absurd (true≢false v.0)
bits_of_value f a (fin false m e) v =
    ap (λ (n : ℕ). 0 + (size n - prec f) * hid f + n / 2 ^ (size n - prec f)) (ap (λ (n : ℕ). n / down e) v.1 ∙ mul-div_cancel a (down_pos e))
    ∙ ap (λ (n : ℕ). n + a / 2 ^ (size a - prec f)) (zero-add ((size a - prec f) * hid f))

-- q * 2 ^ k units, where q has as many digits as the format keeps: the leading one adds one to the exponent's field, k
bits_by_digits : (f : Format) (a q k : ℕ) (x : Float) → HasValue x false a (2 ^ low f) → a ≡ q * 2 ^ k → hid f ≤ q → q < 2 ^ prec f →
    to_bits f x ≡ k * hid f + q
bits_by_digits f a q k x v is long short =
    let lo : 2 ^ (prec f - 1 + k) ≤ a = rw (pow-add, is) (mul-le-mul_right (2 ^ k) long) in
    let hi : a < 2 ^ (prec f + k) = rw (pow-add, is) (mul-lt-mul_of_pos_right short (pow_pos k)) in
    let e : prec f + k ≡ suc (prec f - 1 + k) = omega (arith, two f) in
    let d : size a - prec f ≡ k = omega (arith, size_is (prec f - 1 + k) a lo (rw e at hi), two f) in
    bits_of_value f a x v
    ∙ ap (λ (j : ℕ). j * hid f + a / 2 ^ j) d
    ∙ ap (λ (n : ℕ). k * hid f + n) (ap (λ (n : ℕ). n / 2 ^ k) is ∙ mul-div_cancel q (pow_pos k))

-- also where rounding up has made q one digit longer
pub bits_of_units : (f : Format) (q k : ℕ) → hid f ≤ q → q ≤ 2 ^ prec f → q * 2 ^ k < 2 ^ (low f + suc (emax f)) →
    to_bits f (units f false q k) ≡ k * hid f + q
bits_of_units f q k long short fine = by_length (eq-or-lt_of_le short)
  where
    v : HasValue (units f false q k) false (q * 2 ^ k) (2 ^ low f)
    v = units_val f false q k fine

    by_length : (q ≡ 2 ^ prec f) ⊎ (q < 2 ^ prec f) → to_bits f (units f false q k) ≡ k * hid f + q
    by_length (inr l) = bits_by_digits f (q * 2 ^ k) q k (units f false q k) v refl long l
    by_length (inl e) =
        let twice : q ≡ 2 * hid f = e ∙ digits_are f in
        let is : q * 2 ^ k ≡ hid f * 2 ^ suc k = rw (twice, pow-suc) (simp (mul_assoc, mul_comm, mul_left_comm)) in
        bits_by_digits f (q * 2 ^ k) (hid f) (suc k) (units f false q k) v is (le_refl (hid f)) (omega (arith, digits_are f, pow_pos (prec f - 1)))
        ∙ omega (arith, suc-mul k (hid f))

-- So r, the whole number nearest to the root of N, is all that is to be found: with it the root's pattern is a sum.
pub bits_of_root : (f : Format) (N k r : ℕ) → hid f * hid f ≤ N → N < 2 ^ prec f * 2 ^ prec f → NearestWhole N r → r ≤ 2 ^ prec f →
    prec f + k < low f + suc (emax f) → k * hid f + r ≡ to_bits f (nearest_root f (N * (2 ^ k * 2 ^ k)))
bits_of_root f N k r long short near most fine =
    let fine : r * 2 ^ k < 2 ^ (low f + suc (emax f)) = lt_of_le_of_lt (rw pow-add (mul-le-mul_right (2 ^ k) most)) (pow-lt fine) in
    sym (ap (to_bits f) (nearest_whole f N k long short r near) ∙ bits_of_units f r k (nearest_long f N k long short r near) most fine)

-- ---- what a pattern is read as

reads_fields : (f : Format) (b : ℕ) → of_bits f b ≡ of_fields f (leb (top f) b) (b % top f / hid f) (b % hid f)
unfolding of_bits
reads_fields f b = refl

-- digits t alone, and digits t under a field that is neither 0 nor that of the infinities: so many units
digits_value : (f : Format) (s : Bool) (t : ℕ) → HasValue (of_fields f s 0 t) s t (2 ^ low f)
unfolding of_fields
digits_value f s t = rw mul-one at (odd_sign (prec f) s t 0 (low f))

fields_value : (f : Format) (s : Bool) (x t : ℕ) → (suc x ≡ ones f → ⊥) → HasValue (of_fields f s (suc x) t) s ((hid f + t) * 2 ^ x) (2 ^ low f)
unfolding of_fields
fields_value f s x t h = rw (ne_eqb (suc x) (ones f) h) (odd_sign (prec f) s (hid f + t) x (low f))

-- a pattern with the sign clear
reads_positive : (f : Format) (b : ℕ) → b < top f → of_bits f b ≡ of_fields f false (b / hid f) (b % hid f)
reads_positive f b h = reads_fields f b ∙ rw (lt-leb (top f) b h, mod-eq_of_lt h)

pub reads_subnormal : (f : Format) (b : ℕ) → b < hid f → HasValue (of_bits f b) false b (2 ^ low f)
reads_subnormal f b h =
    let k : b < top f = lt_of_lt_of_le h (le-mul_of_pos_right (hid f) (zero-lt-suc (ones f))) in
    rw (reads_positive, div-eq_of_lt h, mod-eq_of_lt h) (digits_value f false b)

pub reads_normal : (f : Format) (b x : ℕ) → b < top f → b / hid f ≡ suc x → (suc x ≡ ones f → ⊥) →
    HasValue (of_bits f b) false ((hid f + b % hid f) * 2 ^ x) (2 ^ low f)
reads_normal f b x h e l = rw (reads_positive f b h, e) (fields_value f false x (b % hid f) l)

-- ---- a pattern with the sign set has a root only if all else is clear

module _ (f : Format) where
  no_root_at_top : (c : Bool) → root_of f (cond c (inf true) nan) ≡ nan
  unfolding root_of
  no_root_at_top true = refl
  no_root_at_top false = refl

  no_root_of_fields : (x t : ℕ) → (x ≡ 0 → t ≡ 0 → ⊥) → root_of f (of_fields f true x t) ≡ nan
  unfolding of_fields
  no_root_of_fields zero t h = no_root_below_zero f t (omega (arith, h refl)) (of_fields f true 0 t) (digits_value f true t)
  no_root_of_fields (suc x) t h = by_test (eqb (suc x) (ones f)) refl
    where
      by_test : (c : Bool) → eqb (suc x) (ones f) ≡ c → root_of f (of_fields f true (suc x) t) ≡ nan
      by_test true e = rw e (no_root_at_top (eqb t 0))
      by_test false e =
          no_root_below_zero f ((hid f + t) * 2 ^ x) (mul-pos (omega (arith, pow_pos (prec f - 1))) (pow_pos x)) (of_fields f true (suc x) t)
          (fields_value f true x t (eqb-false _ _ e))

  pub no_root_of_negative : (b : ℕ) → top f ≤ b → (b % top f / hid f ≡ 0 → b % hid f ≡ 0 → ⊥) → root_of f (of_bits f b) ≡ nan
  no_root_of_negative b h k = ap (root_of f) (reads_fields f b ∙ rw (le-leb (top f) b h)) ∙ no_root_of_fields (b % top f / hid f) (b % hid f) k
