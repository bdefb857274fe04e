-- A number as text.
use Rattle.std.specs.Prelude.{ℕ, zero, suc, ◌+◌, ◌/◌, ◌%◌, min, List, [], ◌∷◌, ◌++◌, ltb, ℤ, pos, negsuc, if◌then◌else◌}

-- the digit of a value below 16, in lower case
abbrev pub glyph_of : ℕ → ℕ
glyph_of d = if ltb d 10 then 48 + d else 87 + d

-- the lowest `k` digits of `n`, the highest of them first
unfoldable pub low_digits : ℕ → ℕ → ℕ → List ℕ
low_digits base zero n = []
low_digits base (suc k) n = low_digits base k (n / base) ++ (glyph_of (n % base) ∷ [])

-- `digits` hexadecimal digits, in lower case, 16 at most
abbrev pub hex_text : ℕ → ℕ → List ℕ
hex_text digits n = low_digits 16 (min digits 16) n

-- the decimal digits of `n`, with no zero in front, where `most` are enough
unfoldable pub decimal_digits : ℕ → ℕ → List ℕ
decimal_digits zero n = []
decimal_digits (suc most) n = if ltb n 10 then glyph_of n ∷ [] else decimal_digits most (n / 10) ++ (glyph_of (n % 10) ∷ [])

-- 20 are enough for any number of 64 bits
abbrev pub natural_text : ℕ → List ℕ
natural_text n = decimal_digits 20 n

-- a minus sign in front of what is below zero
abbrev pub decimal_text : ℤ → List ℕ
decimal_text (pos n) = natural_text n
decimal_text (negsuc n) = 45 ∷ natural_text (suc n)
