-- The squared distance from a point to a segment, operation by operation as the Rust computes it (reduce.rs, get_sq_seg_dist on i32 points).
use Rattle.std.specs.Prelude.{Bool, ◌||◌, Float, if◌then◌else◌}
use Rattle.std.specs.Float.{binary64}
use Rattle.std.specs.Float.Ieee.{of_int, of_bits, add, sub, mul, div, lt, ne}
use Rattle.point.specs.declared.PointI32.{PointI32}
use Rattle.point.specs.declared.PointF64.{PointF64}
use Rattle.split.specs.declared.distance.Segment.{Segment}

-- the two numbers that the Rust compares with, 0.0 and 1.0
abbrev pub zero64 : Float
zero64 = of_bits binary64 0

abbrev pub one64 : Float
one64 = of_bits binary64 0x3ff0000000000000

-- a point as doubles
abbrev pub place_of : PointI32 → PointF64
place_of p = record { x = of_int binary64 p.x; y = of_int binary64 p.y }

-- the Rust's `dx * dx + dy * dy`
abbrev pub squares : Float → Float → Float
squares dx dy = add binary64 (mul binary64 dx dx) (mul binary64 dy dy)

-- what all distances to a segment share: its ends, what it spans, and the square of its length
unfoldable pub segment_of : PointF64 → PointF64 → Segment
segment_of a b =
    let dx = sub binary64 b.x a.x in
    let dy = sub binary64 b.y a.y in
    record { x = a.x; y = a.y; x2 = b.x; y2 = b.y; dx = dx; dy = dy; squared = squares dx dy }

-- how far along a segment the perpendicular from a point meets it: 0 at its first end, 1 at its second
abbrev pub along : PointF64 → Segment → Float
along p s =
    div binary64
    (add binary64 (mul binary64 (sub binary64 p.x s.x) s.dx) (mul binary64 (sub binary64 p.y s.y) s.dy))
    s.squared

-- the place that lies so far along a segment; past an end it is that end
unfoldable pub nearest : Segment → Float → PointF64
nearest s t =
    if lt one64 t then record { x = s.x2; y = s.y2 } else
    if lt zero64 t then record { x = add binary64 s.x (mul binary64 s.dx t); y = add binary64 s.y (mul binary64 s.dy t) } else
    record { x = s.x; y = s.y }

-- the Rust's `dx != 0.0 || dy != 0.0`: the two ends differ
abbrev pub has_length : Segment → Bool
has_length s = ne s.dx zero64 || ne s.dy zero64

-- the place of a segment that is nearest to a point; a segment of two equal points is that point
unfoldable pub foot : PointF64 → Segment → PointF64
unfolding nearest
foot p s = if has_length s then nearest s (along p s) else record { x = s.x; y = s.y }

-- the square of the distance from a point to a place, to a segment, and to the segment from p1 to p2
abbrev pub from_place : PointF64 → PointF64 → Float
from_place p f = squares (sub binary64 p.x f.x) (sub binary64 p.y f.y)

unfoldable pub from_segment : PointI32 → Segment → Float
unfolding foot
from_segment p s = from_place (place_of p) (foot (place_of p) s)

unfoldable pub sq_seg_dist : PointI32 → PointI32 → PointI32 → Float
unfolding segment_of from_segment
sq_seg_dist p p1 p2 = from_segment p (segment_of (place_of p1) (place_of p2))
