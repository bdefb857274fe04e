-- A digit and its value, and the number that digits say.
use Rattle.std.specs.Prelude.{ℕ, ◌+◌, ◌-◌, ◌*◌, Bool, true, false, ◌&&◌, Option, Some, None, unwrap_or, List, [], ◌∷◌, ltb, leb, if◌then◌else◌}

-- the value of a digit, `0` to `9`, `A` to `F` and `a` to `f`
unfoldable pub digit_of : ℕ → Option ℕ
digit_of b =
    if ltb b 48 then None else
    if leb b 57 then Some (b - 48) else
    if ltb b 65 then None else
    if leb b 70 then Some (b - 65 + 10) else
    if ltb b 97 then None else
    if leb b 102 then Some (b - 97 + 10) else
    None

-- it is a digit, and one of the base
abbrev pub in_base : ℕ → Option ℕ → Bool
in_base base None = false
in_base base (Some d) = ltb d base

-- every byte is a digit of the base
unfoldable pub all_digits : ℕ → List ℕ → Bool
all_digits base [] = true
all_digits base (x ∷ xs) = in_base base (digit_of x) && all_digits base xs

-- the number that digits say, behind others that say `n`; what is no digit counts 0
unfoldable pub value : ℕ → ℕ → List ℕ → ℕ
value base n [] = n
value base n (x ∷ xs) = value base (n * base + unwrap_or (digit_of x) 0) xs
