-- Where two lines cross, operation by operation as the Rust computes it (util.rs, find_intersection). The call refuses (BadPoint) "a coordinate
-- out of range, NaN or infinite".
use Rattle.std.specs.Prelude.{Bool, ◌&&◌, Float, if◌then◌else◌}
use Rattle.std.specs.Float.{binary64}
use Rattle.std.specs.Float.Ieee.{of_bits, neg, add, sub, mul, div, lt}
use Rattle.point.specs.Limits.{point_in_range_f64}
use Rattle.point.specs.declared.PointF64.{PointF64}
use Rattle.point.specs.declared.refusal.Refusal.TheVariants.{BadPoint}
use Rattle.util.specs.Lengths.{middle}
use Rattle.util.specs.declared.ratios.Intersection.{Intersection}
use Rattle.util.specs.declared.ratios.Intersection.TheVariants.{Parallel, Coincide, Cross, Refused}

-- negligible: between -1e-7 and 1e-7
abbrev pub tiny : Float
tiny = of_bits binary64 0x3e7ad7f29abcaf48

unfoldable pub negligible : Float → Bool
negligible v = lt (neg tiny) v && lt v tiny

-- a * b - c * d
abbrev pub across : Float → Float → Float → Float → Float
across a b c d = sub binary64 (mul binary64 a b) (mul binary64 c d)

-- the point of the line through p and q at a ratio: 0 is p and 1 is q
abbrev pub along : PointF64 → PointF64 → Float → PointF64
along p q mu = record {
  x = add binary64 p.x (mul binary64 mu (sub binary64 q.x p.x));
  y = add binary64 p.y (mul binary64 mu (sub binary64 q.y p.y));
}

-- "the 1e-7 tests and their order are the Rust's". The ratios say where the crossing lies on each line: numera over denom on the one from p1 to
-- p2, numerb over denom on the other; 0 is a line's first point, 1 its second
abbrev pub judged : PointF64 → PointF64 → Float → Float → Float → Intersection
judged p1 p2 denom numera numerb =
    let mua = div binary64 numera denom in
    let mub = div binary64 numerb denom in
    if negligible denom && negligible numera && negligible numerb then Coincide (middle p1 p2) else
    if negligible denom then Parallel else
    Cross (along p1 p2 mua) mua mub

-- the line from p1 to p2 and the one from p3 to p4
unfoldable pub crossing : PointF64 → PointF64 → PointF64 → PointF64 → Intersection
unfolding negligible
crossing p1 p2 p3 p4 =
    judged p1 p2
    (across (sub binary64 p4.y p3.y) (sub binary64 p2.x p1.x) (sub binary64 p4.x p3.x) (sub binary64 p2.y p1.y))
    (across (sub binary64 p4.x p3.x) (sub binary64 p1.y p3.y) (sub binary64 p4.y p3.y) (sub binary64 p1.x p3.x))
    (across (sub binary64 p2.x p1.x) (sub binary64 p1.y p3.y) (sub binary64 p2.y p1.y) (sub binary64 p1.x p3.x))

-- what `find_intersection` answers
abbrev pub intersection_of : PointF64 → PointF64 → PointF64 → PointF64 → Intersection
intersection_of p1 p2 p3 p4 =
    if point_in_range_f64 p1 && point_in_range_f64 p2 && point_in_range_f64 p3 && point_in_range_f64 p4 then crossing p1 p2 p3 p4 else Refused BadPoint
