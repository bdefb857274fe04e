-- Document 01: where a walk may begin. "First start (added): the top left corner of the first set pixel, row by row; a blank chart gives NoWay."
use Rattle.std.specs.Prelude.{ℕ, zero, suc, true, false, List, pos, Result, Ok, Err}
use Rattle.std.proofs.Math.Option.{Option, some, none}
use Rattle.point.specs.Refusals.{refuse◌when◌or◌}
use Rattle.point.specs.declared.PointI32.{PointI32}
use Rattle.point.specs.declared.refusal.Refusal.{Refusal}
use Rattle.point.specs.declared.refusal.Refusal.TheVariants.{BadSize, NoWay}
use Rattle.chart.specs.Pixels.{cell, bad_chart}
use Rattle.chart.specs.declared.Chart.{Chart}

-- the first set one among n pixels of row y, from column x on
unfoldable pub first_in_row : Chart → List ℕ → ℕ → ℕ → ℕ → Option PointI32
unfolding cell
first_in_row c pixels x y zero = none
first_in_row c pixels x y (suc n) = elim (cell c pixels x y) [ true ↦ some (record { x = pos x; y = pos y }) | false ↦ first_in_row c pixels (suc x) y n ]

-- the first of a row, or else what comes after it
abbrev pub or_else : Option PointI32 → Option PointI32 → Option PointI32
or_else (some p) later = some p
or_else none later = later

-- the first set pixel of n rows from row y on
unfoldable pub first_in_rows : Chart → List ℕ → ℕ → ℕ → Option PointI32
unfolding first_in_row
first_in_rows c pixels y zero = none
first_in_rows c pixels y (suc n) = or_else (first_in_row c pixels 0 y c.width) (first_in_rows c pixels (suc y) n)

-- "a blank chart gives NoWay"
abbrev pub start_or : Option PointI32 → Result PointI32 Refusal
start_or (some p) = Ok p
start_or none = Err NoWay

unfoldable pub start_answer : Option Refusal → Chart → List ℕ → Result PointI32 Refusal
unfolding first_in_rows
start_answer (some r) c pixels = Err r
start_answer none c pixels = start_or (first_in_rows c pixels 0 c.height)

unfoldable pub first_start : Chart → List ℕ → Result PointI32 Refusal
unfolding start_answer
first_start c pixels = start_answer (refuse BadSize when bad_chart c pixels or none) c pixels
