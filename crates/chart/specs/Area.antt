-- Document 01: "The area is the number of set bits within the chart."
use Rattle.std.specs.Prelude.{ℕ, zero, suc, ◌+◌, List, Result, Ok, Err}
use Rattle.std.proofs.Math.Option.{Option, some, none}
use Rattle.point.specs.Refusals.{refuse◌when◌or◌}
use Rattle.point.specs.declared.refusal.Refusal.{Refusal}
use Rattle.point.specs.declared.refusal.Refusal.TheVariants.{BadSize}
use Rattle.chart.specs.Pixels.{cell, one, bad_chart}
use Rattle.chart.specs.declared.Chart.{Chart}

-- the set ones among the first n pixels of row y
unfoldable pub row_area : Chart → List ℕ → ℕ → ℕ → ℕ
unfolding cell
row_area c pixels zero y = 0
row_area c pixels (suc n) y = row_area c pixels n y + one (cell c pixels n y)

-- the set pixels of the first n rows
unfoldable pub rows_area : Chart → List ℕ → ℕ → ℕ
unfolding row_area
rows_area c pixels zero = 0
rows_area c pixels (suc n) = rows_area c pixels n + row_area c pixels c.width n

unfoldable pub area_answer : Option Refusal → Chart → List ℕ → Result ℕ Refusal
unfolding rows_area
area_answer (some r) c pixels = Err r
area_answer none c pixels = Ok (rows_area c pixels c.height)

unfoldable pub area_of : Chart → List ℕ → Result ℕ Refusal
unfolding area_answer
area_of c pixels = area_answer (refuse BadSize when bad_chart c pixels or none) c pixels
