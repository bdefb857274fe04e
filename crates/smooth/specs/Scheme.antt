-- Whether a point enters one segment, and where, operation by operation as the Rust has it (smooth.rs, subdivide_keep_corners). Document 01: "skip
-- at length ≤ segment length, skip at a neighbour ratio ≥ 2.0, 3-point scheme at corners, f64::EPSILON test".
use Rattle.std.specs.Prelude.{Bool, not, ◌||◌, pos, Float, if◌then◌else◌}
use Rattle.std.specs.Float.{binary64}
use Rattle.std.specs.Float.Ieee.{of_int, of_bits, add, sub, mul, div, lt, le}
use Rattle.point.specs.declared.PointF64.{PointF64}
use Rattle.util.specs.Lengths.{middle, length_of}
use Rattle.smooth.specs.declared.scheme.Settings.{Settings}
use Rattle.smooth.specs.declared.scheme.Entering.{Entering}

-- how far p lies from q: the norm of p - q
unfoldable pub distance : PointF64 → PointF64 → Float
unfolding length_of
distance p q = length_of (sub binary64 p.x q.x) (sub binary64 p.y q.y)

-- ---- the new point between p and q, where the points around them are before and behind (find_new_point_from_4_point_scheme). It lies off the
-- middle of p and q (out), away from the middle of before and behind (inner), by the distance between the two over the ratio; where that is
-- less than f64::EPSILON, it is out itself

-- f64::EPSILON: the least double above 1, less 1
abbrev pub epsilon : Float
epsilon = of_bits binary64 0x3cb0000000000000

-- out + (v / norm) * magnitude, in each coordinate
abbrev pub outset : Float → Float → Float → Float → Float
outset out v norm magnitude = add binary64 out (mul binary64 (div binary64 v norm) magnitude)

unfoldable pub new_point : PointF64 → PointF64 → PointF64 → PointF64 → Float → PointF64
unfolding length_of
new_point p q before behind ratio =
    let out = middle p q in
    let inner = middle before behind in
    let vx = sub binary64 out.x inner.x in
    let vy = sub binary64 out.y inner.y in
    let norm = length_of vx vy in
    let magnitude = div binary64 norm ratio in
    if lt magnitude epsilon then out else record { x = outset out.x vx norm magnitude; y = outset out.y vy norm magnitude }

-- ---- one segment, from p to q

-- "skip at a neighbour ratio ≥ 2.0": the neighbour is a segment beside the current one
abbrev pub twice : Float → Float → Bool
twice length curr = le (of_int binary64 (pos 2)) (div binary64 length curr)

-- it is left as it is: it is at most the segment length, or the segment before it (from prev) or behind it (to next) is at least twice as long
unfoldable pub skipped : PointF64 → PointF64 → PointF64 → PointF64 → Float → Bool
unfolding distance
skipped p q prev next length =
    le (distance p q) length || twice (distance prev p) (distance p q) || twice (distance next q) (distance p q)

-- a point that entered leaves it settled, so that it asks for no further round: neither of its new parts is longer than the segment length
unfoldable pub settled : PointF64 → PointF64 → PointF64 → Float → Bool
unfolding distance
settled p q new length = not (lt length (distance p new) || lt length (distance q new))

-- the point that enters it, where the points around it that count are before and behind; and whether it leaves the segment settled
unfoldable pub placed : Settings → PointF64 → PointF64 → PointF64 → PointF64 → Entering
unfolding new_point settled
placed settings p q before behind =
    let new = new_point p q before behind settings.ratio in
    record { point = new; settled = settled p q new settings.length }
