-- The two parts of a span that is split: the one with fewer points inside is at hand next, the first of equals, and the other waits.
use Rattle.std.specs.Prelude.{ℕ, ◌-◌, leb, if◌then◌else◌}
use Rattle.split.specs.declared.waiting.Parts.{Parts}

unfoldable pub parts_of : ℕ → ℕ → ℕ → Parts
parts_of f i l =
    if leb (i - f) (l - i)
    then record { first = f; last = i; from = i; to = l }
    else record { first = i; last = l; from = f; to = i }
