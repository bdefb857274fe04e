-- Bytes that are counted first, and then stored.
use Rattle.std.specs.Prelude.{ℕ, ◌+◌, ◌≤◌, Option, Some, None, option_map, List, length}
use Rattle.laws.specs.Lists.{over}

-- how many there are
abbrev pub count_of : Option (List ℕ) → Option ℕ
count_of xs = option_map length xs

-- what a buffer holds once they are stored
abbrev pub laid : Option (List ℕ) → List ℕ → List ℕ
laid None to = to
laid (Some xs) to = over xs to

-- there is room for all, behind `n` others
abbrev pub Room : Option (List ℕ) → ℕ → ℕ → Type 0
Room None n size = ⊥
Room (Some xs) n size = n + length xs ≤ size
