-- What follows of the contracts, for their readers and their callers. Assumes nothing.
use Prim.Native.Nat.{ℕ, ◌*◌, ◌≤◌}
use mathlib.Core.Bool.{Bool, false}
use mathlib.Core.List.{List}
use mathlib.Core.Path.{◌≡◌}
use lib.IntN.{ℤ}
use Rattle.std.specs.Prelude.{Result}
use Rattle.laws.proofs.Determined.{Determined, same}
use Rattle.point.specs.declared.PointI32.{PointI32}
use Rattle.point.specs.declared.refusal.Refusal.{Refusal}
use Rattle.chart.specs.Pixels.{row_bytes, all_bytes, bad_sides, bad_chart, bytes_asked, pixel_at, around_of}
use Rattle.chart.specs.Area.{rows_area, area_of}
use Rattle.chart.specs.Start.{first_start}
use Rattle.chart.specs.declared.Chart.{Chart}
use Rattle.chart.proofs.Rows.{rows_le}
use Rattle.chart.proofs.pixels.row_bytes.Reads.{Post as RowBytes}
use Rattle.chart.proofs.pixels.all_bytes.Reads.{Post as AllBytes}
use Rattle.chart.proofs.pixels.bad_sides.Reads.{Post as BadSides}
use Rattle.chart.proofs.pixels.bad_chart.Reads.{Post as BadChart}
use Rattle.chart.proofs.pixels.pixel.Reads.{Post as Pixel}
use Rattle.chart.proofs.lattice.around.Reads.{Post as Around}
use Rattle.chart.proofs.counting.area.Reads.{Post as Area}
use Rattle.chart.proofs.begin.first_start.Reads.{Post as FirstStart}

-- ---- Each contract leaves no choice: of equal arguments it allows one result. `Post` is the contract itself, as Rattle reads it off the source.

pub row_bytes_determined : Determined ℕ ℕ RowBytes (λ _ a. a.0) (λ _ r s. r)
row_bytes_determined = same row_bytes (λ _ a r s p. p)

pub all_bytes_determined : Determined Chart ℕ AllBytes (λ _ a. a.0) (λ _ r s. r)
all_bytes_determined = same bytes_asked (λ _ a r s p. p)

pub bad_sides_determined : Determined Chart Bool BadSides (λ _ a. a.0) (λ _ r s. r)
bad_sides_determined = same bad_sides (λ _ a r s p. p)

pub bad_chart_determined : Determined (Chart × List ℕ) Bool BadChart (λ _ a. (a.0, a.1.0.now)) (λ _ r s. r)
bad_chart_determined = same (λ x. bad_chart x.0 x.1) (λ _ a r s p. p)

pub pixel_determined : Determined (Chart × List ℕ × ℤ × ℤ) Bool Pixel (λ _ a. (a.0, a.1.0.now, a.1.1.0, a.1.1.1.0)) (λ _ r s. r)
pixel_determined = same (λ x. pixel_at x.0 x.1 x.2 x.3) (λ _ a r s p. p)

pub around_determined : Determined (Chart × List ℕ × ℤ × ℤ) ℕ Around (λ _ a. (a.0, a.1.0.now, a.1.1.0, a.1.1.1.0)) (λ _ r s. r)
around_determined = same (λ x. around_of x.0 x.1 x.2 x.3) (λ _ a r s p. p)

pub area_determined : Determined (Chart × List ℕ) (Result ℕ Refusal) Area (λ _ a. (a.0, a.1.0.now)) (λ _ r s. r)
area_determined = same (λ x. area_of x.0 x.1) (λ _ a r s p. p)

pub first_start_determined : Determined (Chart × List ℕ) (Result PointI32 Refusal) FirstStart (λ _ a. (a.0, a.1.0.now)) (λ _ r s. r)
first_start_determined = same (λ x. first_start x.0 x.1) (λ _ a r s p. p)

-- ---- A chart in range asks for all its bytes.

pub asks_for_all : (c : Chart) → bad_sides c ≡ false → bytes_asked c ≡ all_bytes c
asks_for_all c fine = rw fine

-- ---- No more is set than the chart has pixels.

pub area_le : (c : Chart) (pixels : List ℕ) → rows_area c pixels c.height ≤ c.height * c.width
area_le c pixels = rows_le c pixels c.height
