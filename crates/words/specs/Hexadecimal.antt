-- What a word of hexadecimal digits reads as.
use Rattle.std.specs.Prelude.{ℕ, ◌&&◌, Option, Some, None, List, ltb, leb, eqb, length, if◌then◌else◌}
use Rattle.words.specs.Digits.{all_digits, value}

-- 1 to 16 hexadecimal digits, in either case
unfoldable pub hex_of : List ℕ → Option ℕ
hex_of w = if ltb 0 (length w) && leb (length w) 16 && all_digits 16 w then Some (value 16 0 w) else None

-- exactly 16 of them
abbrev pub pattern_of : List ℕ → Option ℕ
pattern_of w = if eqb (length w) 16 then hex_of w else None
