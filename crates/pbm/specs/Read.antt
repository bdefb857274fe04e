-- Document 02, 1/13: what `read_pbm` answers, and what the buffer lent to it then holds.
use Rattle.std.specs.Prelude.{ℕ, ◌-◌, true, false, List, ltb, length, Result, Ok, Err}
use Rattle.std.proofs.Math.Option.{some, none}
use Rattle.laws.specs.Lists.{over}
use Rattle.laws.specs.Outcome.{Outcome}
use Rattle.point.specs.declared.refusal.Refusal.{Refusal}
use Rattle.point.specs.declared.refusal.Refusal.TheVariants.{BadSize, NoRoom, BadPicture}
use Rattle.chart.specs.Pixels.{all_bytes, side, bad_sides}
use Rattle.chart.specs.declared.Chart.{Chart}
use Rattle.pbm.specs.Header.{Header, header_in}
use Rattle.pbm.specs.Raster.{Image, image_in}
use Rattle.pbm.specs.Bytes.{chart_bytes}
use Rattle.pbm.specs.declared.Picture.{Picture}

abbrev pub Reading : Type 0
Reading = Outcome (Result Picture Refusal) (List ℕ)

-- a chart, and how many bytes of the file its image took
abbrev pub was_read : Chart → ℕ → Result Picture Refusal
was_read c n = Ok (record { chart = c; bytes = n })

-- "All leave the buffers as lent."
abbrev pub refused : Refusal → List ℕ → Reading
refused r pixels = record { answer = Err r; out = pixels }

-- "10, last, when the chart buffer .. is shorter than what goes into it"; else the chart stands over the start of the buffer, and the bytes
-- that the image took are counted
unfoldable pub laid : List ℕ → Chart → Image → List ℕ → Reading
unfolding chart_bytes
laid file c image pixels = elim (ltb (length pixels) (all_bytes c)) [
  | true ↦ refused NoRoom pixels
  | false ↦ record { answer = was_read c (length file - length image.rest); out = over (chart_bytes c image.set) pixels }
]

-- "1 for a size out of range, tested as soon as both sizes are read"; 12 for what is wrong behind them, "or missing pixels"
unfoldable pub read_behind : List ℕ → Header → List ℕ → Reading
unfolding image_in laid side
read_behind file h pixels = elim (bad_sides h.chart) [
  | true ↦ refused BadSize pixels
  | false ↦ elim (image_in h) [ none ↦ refused BadPicture pixels | some image ↦ laid file h.chart image pixels ]
]

-- "12 BadPicture for a wrong header": up to the second size
unfoldable pub read_of : List ℕ → List ℕ → Reading
unfolding header_in read_behind
read_of file pixels = elim (header_in file) [ none ↦ refused BadPicture pixels | some h ↦ read_behind file h pixels ]
