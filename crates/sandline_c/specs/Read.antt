-- What values that a caller hands in stand for.
use Rattle.std.specs.Prelude.{ℕ, ◌+◌, ◌*◌, List, eqb, Float, ℤ, length, get_or, if◌then◌else◌}
use Rattle.std.specs.Float.{nan}
use Rattle.point.specs.declared.PointI32.{PointI32}
use Rattle.point.specs.declared.PointF64.{PointF64}
use Rattle.chart.specs.declared.Chart.{Chart}
use Rattle.corners.specs.declared.Pair.{Pair}
use Rattle.util.specs.declared.ratios.Intersection.{Intersection}
use Rattle.util.specs.declared.ratios.Intersection.TheVariants.{Parallel, Coincide, Cross}
use Rattle.smooth.specs.declared.scheme.Settings.{Settings}

abbrev pub chart_from : ℕ → ℕ → Chart
chart_from width height = record { width = width; height = height }

abbrev pub point_from : ℤ → ℤ → PointI32
point_from x y = record { x = x; y = y }

abbrev pub point_f64_from : Float → Float → PointF64
point_f64_from x y = record { x = x; y = y }

abbrev pub pair_from : ℤ → ℤ → Pair
pair_from c s = record { c = c; s = s }

abbrev pub settings_from : Float → Float → Settings
settings_from ratio length = record { ratio = ratio; length = length }

-- a value of a list; what is not there is not a number
abbrev pub value_at : List Float → ℕ → Float
value_at values k = get_or values k nan

-- the point at a position of a list x, y, x, y
abbrev pub point_f64_at : List Float → ℕ → PointF64
point_f64_at values k = point_f64_from (value_at values (k * 2)) (value_at values (k * 2 + 1))

-- The crossing that values stand for, as `sandline_find_intersection` hands them out: four are a point and both ratios, two the midpoint of
-- lines that coincide. Any other number of them stands for lines that do not meet.
unfoldable pub crossing_from : List Float → Intersection
crossing_from values =
    if eqb (length values) 4 then Cross (point_f64_at values 0) (value_at values 2) (value_at values 3) else
    if eqb (length values) 2 then Coincide (point_f64_at values 0) else
    Parallel
