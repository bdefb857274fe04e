-- What the functions over one span promise one another.
use Rattle.std.specs.Prelude.{ℕ, ◌<◌, ◌⊎◌, List, ◌≡◌, T, ℤ, Float}
use Rattle.std.specs.Float.{nan, binary64}
use Rattle.std.specs.Float.Ieee.{fits}
use Rattle.laws.specs.inside.Finite.{NonNeg}
use Rattle.point.specs.Points.{point_at}
use Rattle.split.specs.declared.distance.Segment.{Segment}
use Rattle.split.specs.declared.farthest.Far.{Far}
use Rattle.split.specs.Distance.{place_of, segment_of}
use Rattle.split.specs.Farthest.{farthest}

-- the segment between a span's ends
unfoldable pub line_of : List ℤ → ℕ → ℕ → Segment
line_of points first last = segment_of (place_of (point_at points first)) (place_of (point_at points last))

-- what is known of the point that a span is split at, once it is found
pub record FoundInside (points : List ℤ) (first last : ℕ) (far : Far) : Type 0 where
  pub is : far ≡ farthest points first last
  pub after_first : first < far.index
  pub before_last : far.index < last

-- what a point's number may be: a float of f64 with the sign +, +infinity too
pub record Distance (x : Float) : Type 0 where
  pub nonneg : NonNeg x
  pub fitting : T (fits binary64 x)

-- what a squared distance may be: a NaN, or a float of f64 with the sign +
pub record Square (x : Float) : Type 0 where
  pub unsigned : (x ≡ nan) ⊎ NonNeg x
  pub fitting : T (fits binary64 x)
