-- What the program's read promises its loop.
use Rattle.std.specs.Prelude.{ℕ, ◌+◌, ◌-◌, ◌≤◌, ◌<◌, true, Option, Some, None}
use Rattle.chart.specs.Pixels.{one}
use Rattle.survey.specs.declared.Got.{Got}

-- what is held lies in the buffer, and it is more than before, or no more may come
abbrev pub Nearer : Option Got → ℕ → ℕ → Type 0
Nearer (Some got) held size = (got.held ≤ size) × (size - got.held + one got.more < size - held + one true)
Nearer None held size = Unit {0}
