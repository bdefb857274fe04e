-- The number that any count of digits say.
use Rattle.std.specs.Prelude.{ℕ, ◌&&◌, Option, Some, None, List, ltb, if◌then◌else◌}
use Rattle.words.specs.Digits.{all_digits, value}

-- digits of a base that say what 64 bits hold, behind others that say `n`
unfoldable pub number_from : ℕ → ℕ → List ℕ → Option ℕ
number_from base n w = if all_digits base w && ltb (value base n w) 18446744073709551616 then Some (value base n w) else None
