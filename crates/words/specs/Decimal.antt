-- What a word of decimal digits reads as.
use Rattle.std.specs.Prelude.{ℕ, ℤ, ◌&&◌, Option, Some, None, List, ltb, eqb, length, get_or, drop, pos, neg_ℤ, if◌then◌else◌}
use Rattle.words.specs.Digits.{all_digits, value}

-- decimal digits that say what 64 bits hold, at least one
abbrev pub natural_of : List ℕ → Option ℕ
natural_of w =
    if ltb 0 (length w) && all_digits 10 w && ltb (value 10 0 w) 18446744073709551616 then Some (value 10 0 w) else None

-- what 32 bits hold of the numbers from zero on, and of those below
abbrev pub from_zero : Option ℕ → Option ℤ
from_zero (Some n) = if ltb n 2147483648 then Some (pos n) else None
from_zero None = None

abbrev pub below_zero : Option ℕ → Option ℤ
below_zero (Some n) = if ltb n 2147483649 then Some (neg_ℤ (pos n)) else None
below_zero None = None

-- decimal digits, a minus sign in front of them or not, that say what 32 bits hold
abbrev pub integer_of : List ℕ → Option ℤ
integer_of w = if eqb (get_or w 0 0) 45 then below_zero (natural_of (drop 1 w)) else from_zero (natural_of w)
