-- A number that was written in decimal is read back, and so is a size with a byte of white space before it. Assumes nothing.
use Prim.Native.Nat.{ℕ, zero, suc, ◌+◌, ◌-◌, ◌*◌, ◌/◌, ◌%◌, ◌^◌, ◌≤◌, ◌<◌}
use mathlib.Core.Bool.{Bool, true, false, ◌||◌}
use mathlib.Core.List.{List, [], ◌∷◌, ◌++◌}
use mathlib.Core.Option.{some}
use mathlib.Core.Path.{◌≡◌, refl, ap, ◌∙◌}
use native.Mathlib.Nat.{pow-suc}
use native.Mathlib.Omega.{arith}
use lib.Dec.{ltb}
use lib.Seq.{append_snoc}
use borrow.Author.Tests.{le-leb, lt-ltb, ltb-true}
use Rattle.std.specs.Prelude.{if◌then◌else◌}
use Rattle.texts.specs.Text.{glyph_of, decimal_digits, natural_text}
use Rattle.pbm.specs.Header.{white, hash, digit, begins, digits_from, number_in, size_in}
use Rattle.pbm.proofs.theorems.HeaderFront.{digits_go_on, digits_stop, stops_at_a_digit, size_is}

-- ---- digits

digit_glyph : (d : ℕ) → d < 10 → digit (glyph_of d) ≡ true
unfolding digit
digit_glyph d h = rw (lt-ltb d 10 h, le-leb 48 (48 + d) (omega arith), le-leb (48 + d) 57 (omega arith))

-- one digit more
digit_read : (n d : ℕ) (rest : List ℕ) → d < 10 → digits_from n (glyph_of d ∷ rest) ≡ digits_from (n * 10 + d) rest
digit_read n d rest h =
    let e : 48 + d - 48 ≡ d = omega arith in
    digits_go_on n (glyph_of d) rest (digit_glyph d h) ∙ rw (lt-ltb d 10 h, e)

-- all digits of a number
digits_read : (most n : ℕ) (rest : List ℕ) → n < 10 ^ most → digits_from 0 (decimal_digits most n ++ rest) ≡ digits_from n rest
unfolding decimal_digits
digits_read zero n rest h = let e : 0 ≡ n = omega arith in ap (λ (m : ℕ). digits_from m rest) e
digits_read (suc most) n rest h =
    by_test (ltb n 10) refl (digits_read most (n / 10) (glyph_of (n % 10) ∷ rest) (omega (arith, pow-suc 10 most)))
  where
    by_test : (t : Bool) → ltb n 10 ≡ t →
        digits_from 0 (decimal_digits most (n / 10) ++ (glyph_of (n % 10) ∷ rest)) ≡ digits_from (n / 10) (glyph_of (n % 10) ∷ rest) →
        digits_from 0 ((if t then glyph_of n ∷ [] else decimal_digits most (n / 10) ++ (glyph_of (n % 10) ∷ [])) ++ rest) ≡ digits_from n rest
    by_test true e higher = digit_read 0 n rest (ltb-true n 10 e) ∙ ap (λ (m : ℕ). digits_from m rest) (omega arith)
    by_test false e higher =
        let back : n / 10 * 10 + n % 10 ≡ n = omega arith in
        rw append_snoc (higher ∙ digit_read (n / 10) (n % 10) rest (omega arith) ∙ ap (λ (m : ℕ). digits_from m rest) back)

-- a number begins with a digit
digit_first : (most n : ℕ) (rest : List ℕ) → n < 10 ^ suc most → begins digit (decimal_digits (suc most) n ++ rest) ≡ true
unfolding decimal_digits
digit_first zero n rest h =
    let few : n < 10 = omega arith in
    rw (lt-ltb n 10 few) (rw (lt-ltb n 10 few) at (digit_glyph n few))
digit_first (suc most) n rest h =
    by_test (ltb n 10) refl (digit_first most (n / 10) (glyph_of (n % 10) ∷ rest) (omega (arith, pow-suc 10 (suc most))))
  where
    by_test : (t : Bool) → ltb n 10 ≡ t → begins digit (decimal_digits (suc most) (n / 10) ++ (glyph_of (n % 10) ∷ rest)) ≡ true →
        begins digit ((if t then glyph_of n ∷ [] else decimal_digits (suc most) (n / 10) ++ (glyph_of (n % 10) ∷ [])) ++ rest) ≡ true
    by_test true e higher = digit_glyph n (ltb-true n 10 e)
    by_test false e higher = rw append_snoc higher

-- ---- a size: one byte that parts it from what stands before, a number, and behind it no digit

module _ (n : ℕ) (rest : List ℕ) (few : n ≤ 512) (other : begins digit rest ≡ false) where
  begins_so : begins digit (natural_text n ++ rest) ≡ true
  begins_so = digit_first 19 n rest (omega arith)

  number_read : number_in (natural_text n ++ rest) ≡ some (record { value = n; rest = rest })
  unfolding number_in
  number_read = rw (begins_so, number_in, digits_read 20 n rest (omega arith), digits_stop n rest other)

  pub size_read : (b : ℕ) → (white b || hash b) ≡ true → hash b ≡ false → size_in (b ∷ (natural_text n ++ rest)) ≡ some (record { value = n; rest = rest })
  size_read b parts line =
      size_is b (natural_text n ++ rest) parts ∙ rw (line, stops_at_a_digit (natural_text n ++ rest) begins_so, number_read)
