-- Document 01, "Numbers" and "reduce.rs": where a span of a list of points is split.
use Rattle.std.specs.Prelude.{ℕ, zero, suc, ◌-◌, List, ℤ, Float, if◌then◌else◌}
use Rattle.std.specs.Float.Ieee.{lt}
use Rattle.point.specs.Points.{point_at}
use Rattle.split.specs.Distance.{sq_seg_dist}
use Rattle.split.specs.declared.farthest.Far.{Far}

-- how far the point at a position lies from the segment between the ends of a span. `Far` is a position with its distance
abbrev pub distance_in : List ℤ → ℕ → ℕ → ℕ → Float
distance_in points first last k = sq_seg_dist (point_at points k) (point_at points first) (point_at points last)

-- the farther of two, the first of equals
abbrev pub farther_of : Far → Far → Far
farther_of a b = if lt a.distance b.distance then b else a

-- the farthest of one and the n positions from k on: "the earliest of equals"
unfoldable pub farther : (ℕ → Float) → ℕ → ℕ → Far → Far
farther d zero k best = best
farther d (suc n) k best = farther d n (suc k) (farther_of best (record { index = k; distance = d k }))

-- "the splitting point is the interior point with the greatest computed squared distance": of a span that has one
unfoldable pub farthest : List ℤ → ℕ → ℕ → Far
unfolding farther
farthest points first last =
    let d = distance_in points first last in
    farther d (last - suc (suc first)) (suc (suc first)) (record { index = suc first; distance = d (suc first) })
