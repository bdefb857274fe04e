-- The root of a value that a format holds is one that it holds; of a finite one above zero it is finite too. Assumes nothing.
use Prim.Native.Nat.{ℕ, zero, suc, ◌*◌, ◌^◌, ◌-◌, ◌+◌, ◌≤◌, ◌<◌}
use mathlib.Core.Bool.{Bool, true, false, cond}
use mathlib.Core.Path.{◌≡◌, sym, ap, ◌∙◌}
use native.Mathlib.Nat.{le_refl, le_trans, le_of_eq, le_of_suc-le-suc, lt_of_not-le, not-le_of_lt, lt_of_le_of_lt, mul-le-mul, mul-le-mul_right}
use native.Mathlib.Omega.{arith}
use lib.Dec.{T, ltb, ltb→lt}
use lib.Ieee.{Float, nan, inf, fin, Format, binary64, prec, emax, low, size, odd, units, fits, to_bits, of_bits}
use lib.Ieee.Bits.{of_bits-to_bits}
use lib.Ieee.Digits.{size-lt, size_reaches}
use lib.Ieee.Fits.{two, reach, odd-fits, kept-lt, nan-fits, inf-fits}
use lib.Pow.{pow-add, pow_mono, pow-lt, shr_lt}
use Rattle.sqrt.specs.Root.{whole_root, nearest_root, root_of}
use Rattle.sqrt.proofs.whole.WholeRoot.{whole_root_is}
use Rattle.sqrt.proofs.nearest.NearestRoot.{dropped, kept, rounded, rounded_le, nearest_root_is}

-- ---- it is held

units_fits : (f : Format) (q k : ℕ) → q ≤ 2 ^ prec f → T (fits f (units f false q k))
unfolding units
units_fits f q k h = by_test (ltb (q * 2 ^ k) (2 ^ (low f + suc (emax f)))) (ltb→lt _ _)
  where
    by_test : (b : Bool) → (T b → q * 2 ^ k < 2 ^ (low f + suc (emax f))) → T (fits f (cond b (odd (suc (prec f)) false q k (low f)) (inf false)))
    by_test true less = odd-fits f (suc (prec f)) false q k (lt_of_le_of_lt h (pow-lt (le_refl (suc (prec f))))) h (less tt)
    by_test false less = inf-fits f false

-- what is kept has at most as many digits as the format has, and rounding adds one at most
pub digits_le : (f : Format) (n : ℕ) → rounded n (kept f n) (dropped f n) ≤ 2 ^ prec f
digits_le f n = le_trans (rounded_le n (kept f n) (dropped f n)) (kept-lt (prec f) (whole_root n))

nearest_root_fits : (f : Format) (n : ℕ) → T (fits f (nearest_root f n))
nearest_root_fits f n = rw nearest_root_is (units_fits f (rounded n (kept f n) (dropped f n)) (dropped f n) (digits_le f n))

pub root_fits : (f : Format) (x : Float) → T (fits f x) → T (fits f (root_of f x))
unfolding root_of
root_fits f nan h = nan-fits f
root_fits f (inf true) h = nan-fits f
root_fits f (inf false) h = inf-fits f false
root_fits f (fin s zero e) h = h
root_fits f (fin true (suc m) e) h = nan-fits f
root_fits f (fin false (suc m) e) h = nearest_root_fits f _

-- ---- no infinity comes of a finite value: the root of n has about half the digits of n

module _ (f : Format) (n : ℕ) where
  abbrev w : ℕ
  w = whole_root n

  -- the digits kept and those dropped are all that the root has, so the answer in units has at most one digit more
  answer_le : rounded n (kept f n) (dropped f n) * 2 ^ dropped f n ≤ 2 ^ size w
  answer_le =
      let k = dropped f n in
      let e : size w - k + k ≡ size w = omega arith in
      let h : w < 2 ^ (size w - k + k) = rw e (size-lt w) in
      le_trans (mul-le-mul_right (2 ^ k) (le_trans (rounded_le n (kept f n) k) (shr_lt (size w - k) k h)))
      (le_of_eq (sym (pow-add 2 (size w - k) k) ∙ ap (λ (i : ℕ). 2 ^ i) e))

  root_short : n < 2 ^ (low f + suc (emax f) + low f) → size w ≤ low f + emax f
  root_short h = le_of_suc-le-suc (lt_of_not-le (λ (g : low f + emax f < size w).
      let l = size_reaches w (low f + emax f) g in
      not-le_of_lt h
      (le_trans (pow_mono (omega (arith, two f, reach f)))
      (le_trans (le_of_eq (pow-add 2 (low f + emax f) (low f + emax f))) (le_trans (mul-le-mul l l) (whole_root_is n).0)))))

  pub answer_below : n < 2 ^ (low f + suc (emax f) + low f) → rounded n (kept f n) (dropped f n) * 2 ^ dropped f n < 2 ^ (low f + suc (emax f))
  answer_below h = lt_of_le_of_lt answer_le (lt_of_le_of_lt (pow_mono (root_short h)) (pow-lt (omega arith)))

-- So a root may be worked out on bits: those that are written for a value are read as that value.
pub through_bits : (x r : Float) (a b : ℕ) → T (fits binary64 x) → a ≡ to_bits binary64 x → b ≡ to_bits binary64 (root_of binary64 (of_bits binary64 a)) →
    r ≡ of_bits binary64 b → r ≡ root_of binary64 x
through_bits x r a b h p q e =
    e
    ∙ ap (of_bits binary64) (q ∙ ap (λ (v : ℕ). to_bits binary64 (root_of binary64 (of_bits binary64 v))) p)
    ∙ ap (λ (v : Float). of_bits binary64 (to_bits binary64 (root_of binary64 v))) (of_bits-to_bits binary64 x h)
    ∙ of_bits-to_bits binary64 (root_of binary64 x) (root_fits binary64 x h)
