-- What it is to be nearest to a square root, said by squares of whole numbers: the words of the theorem that `root_of` is the root of IEEE 754.
use Rattle.std.specs.Prelude.{ℕ, ◌+◌, ◌*◌, ◌/◌, ◌^◌, ◌≤◌, ◌<◌, Float}
use Rattle.std.specs.Float.{Format}
use Rattle.std.specs.Float.Ieee.{low}
use Rattle.std.specs.Float.Ieee.Positive.{num, den}

-- The size of a value in units of the format's smallest value, 2 ^ -low: a whole number, for a finite value that fits the format.
abbrev pub in_units : Format → Float → ℕ
in_units f x = num x * 2 ^ low f / den x

-- y is farther than r from the root of n: the root is on r's side of the middle, (y + r) / 2.
abbrev pub Farther : ℕ → ℕ → ℕ → Type 0
Farther n r y = (y < r → (y + r) * (y + r) < 4 * n) × (r < y → 4 * n < (y + r) * (y + r))

-- y is not nearer than r to the root of n: it is farther, or as far.
abbrev pub NotNearer : ℕ → ℕ → ℕ → Type 0
NotNearer n r y = (y < r → (y + r) * (y + r) ≤ 4 * n) × (r < y → 4 * n ≤ (y + r) * (y + r))
