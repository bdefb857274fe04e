-- How many digits a number has, and a byte stored at a place. Assumes nothing.
use Prim.Native.Nat.{ℕ, zero, suc, ◌+◌, ◌/◌, ◌%◌, ◌<◌}
use mathlib.Core.Bool.{Bool, true, false}
use mathlib.Core.List.{List, [], ◌∷◌, ◌++◌}
use mathlib.Core.Path.{◌≡◌, refl, ◌∙◌}
use native.Mathlib.Omega.{arith}
use lib.Dec.{ltb}
use lib.ListN.{length, take, drop, set, length-append}
use lib.Seq.{set_split, append_snoc}
use native.Mathlib.Numerals.{add-one}
use borrow.Author.Tests.{ltb-true}
use Rattle.std.specs.Prelude.{if◌then◌else◌}
use Rattle.texts.specs.Text.{glyph_of, low_digits, decimal_digits}

-- as many digits as were asked for
pub length_low_digits : (base k n : ℕ) → length (low_digits base k n) ≡ k
unfolding low_digits
length_low_digits base zero n = refl
length_low_digits base (suc k) n = length-append (low_digits base k (n / base)) (glyph_of (n % base) ∷ []) ∙ omega (arith, length_low_digits base k (n / base))

-- the digits of a number, with no zero in front, are as many of its lowest ones
pub decimal_low : (most n : ℕ) → decimal_digits most n ≡ low_digits 10 (length (decimal_digits most n)) n
unfolding decimal_digits low_digits
decimal_low zero n = refl
decimal_low (suc most) n = by_test (ltb n 10) refl (decimal_low most (n / 10))
  where
    by_test : (t : Bool) → ltb n 10 ≡ t → decimal_digits most (n / 10) ≡ low_digits 10 (length (decimal_digits most (n / 10))) (n / 10) →
        (if t then glyph_of n ∷ [] else decimal_digits most (n / 10) ++ (glyph_of (n % 10) ∷ [])) ≡
        low_digits 10 (length (if t then glyph_of n ∷ [] else decimal_digits most (n / 10) ++ (glyph_of (n % 10) ∷ []))) n
    by_test true e h = let m : n % 10 ≡ n = omega (arith, ltb-true n 10 e) in rw m
    by_test false e h =
        let l : length (decimal_digits most (n / 10) ++ (glyph_of (n % 10) ∷ [])) ≡ suc (length (decimal_digits most (n / 10))) =
        length-append (decimal_digits most (n / 10)) (glyph_of (n % 10) ∷ []) ∙ omega arith in
        rw (l, ← h)

-- a store at a place
pub set_one : (out : List ℕ) (at b : ℕ) → at < length out → set out at b ≡ take at out ++ (b ∷ []) ++ drop (at + 1) out
set_one out at b h = rw (add-one, append_snoc, set_split)
