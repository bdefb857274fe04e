-- The Rust's limit_penalties: from one point that is kept the outline goes straight to the next, and none of those left out between them costs
-- too much. What a point costs, its penalty, is Heron's formula, operation by operation as the Rust computes it, over the square root of the
-- crate `sqrt`.
use Rattle.std.specs.Prelude.{ℕ, zero, suc, ◌-◌, Bool, true, false, List, [], ◌∷◌, ◌++◌, eqb, ℤ, pos, ◌-ℤ◌, ◌*ℤ◌, Float, length, get_or, if◌then◌else◌}
use Rattle.std.specs.Float.{binary64}
use Rattle.std.specs.Float.Ieee.{of_int, add, sub, mul, div, lt, le}
use Rattle.point.specs.Points.{points}
use Rattle.point.specs.declared.PointI32.{PointI32}
use Rattle.sqrt.specs.Root.{root_of}
use Rattle.point.specs.Outcomes.{Points, passed}

-- the square of a whole number, as a double
abbrev pub sq : ℤ → Float
sq d = of_int binary64 (d *ℤ d)

-- the length of a side
abbrev pub side : PointI32 → PointI32 → Float
side p q = root_of binary64 (add binary64 (sq (p.x -ℤ q.x)) (sq (p.y -ℤ q.y)))

-- of three sides: half their sum p, the area √(p (p - l1) (p - l2) (p - l3)), and its square over the third side
abbrev pub heron : Float → Float → Float → Float
heron l1 l2 l3 =
    let p = div binary64 (add binary64 (add binary64 l1 l2) l3) (of_int binary64 (pos 2)) in
    let area = root_of binary64 (mul binary64 (mul binary64 (mul binary64 p (sub binary64 p l1)) (sub binary64 p l2)) (sub binary64 p l3)) in
    div binary64 (mul binary64 area area) l3

-- what it costs to leave b out between a and c
unfoldable pub penalty : PointI32 → PointI32 → PointI32 → Float
unfolding root_of
penalty a b c = heron (side a b) (side b c) (side c a)

-- the greatest of m and what f gives of the n positions from k on: "a NaN penalty is ignored, as by `max`"
unfoldable pub greatest : (ℕ → Float) → ℕ → ℕ → Float → Float
greatest f zero k m = m
greatest f (suc n) k m = greatest f n (suc k) (if lt m (f k) then f k else m)

-- the point at a position; past the end it is (0,0)
abbrev pub at : List PointI32 → ℕ → PointI32
at ps k = get_or ps k (record { x = pos 0; y = pos 0 })

-- the greatest penalty of the points between two positions, each for going straight from the one to the other; 0 where there are none
unfoldable pub past_delta : List PointI32 → ℕ → ℕ → Float
unfolding greatest penalty
past_delta ps from to = greatest (λ k. penalty (at ps from) (at ps k) (at ps to)) (to - suc from) (suc from) (of_int binary64 (pos 0))

-- the Rust's `past_delta(last, i) >= tolerance`: the tolerance is 1
unfoldable pub too_costly : List PointI32 → ℕ → ℕ → Bool
unfolding past_delta
too_costly ps from to = le (of_int binary64 (pos 1)) (past_delta ps from to)

-- the last position of all is kept
abbrev pub closing : List PointI32 → ℕ → List ℕ
closing ps i = if eqb (suc i) (length ps) then (i ∷ []) else []

-- Which positions are kept on the way through the n from i on, where `last` was kept before: the one right after it is passed over, even as
-- the last of all; where it would cost too much to go straight from `last` to any other, the one before that is kept.
unfoldable pub limit_from : List PointI32 → ℕ → ℕ → ℕ → List ℕ
unfolding too_costly
limit_from ps zero i last = []
limit_from ps (suc n) i last = elim (eqb i (suc last)) [
  | true ↦ limit_from ps n (suc i) last
  | false ↦ elim (too_costly ps last i) [
    | true ↦ (i - 1) ∷ (closing ps i ++ limit_from ps n (suc i) (i - 1))
    | false ↦ closing ps i ++ limit_from ps n (suc i) last
  ]
]

-- the positions that are kept: the first in any case
unfoldable pub limited : List PointI32 → List ℕ
unfolding limit_from
limited [] = []
limited (p ∷ ps) = 0 ∷ (closing (p ∷ ps) 0 ++ limit_from (p ∷ ps) (length ps) 1 0)

-- the points at some positions
unfoldable pub pick : List PointI32 → List ℕ → List PointI32
pick ps [] = []
pick ps (k ∷ ks) = at ps k ∷ pick ps ks

unfoldable pub limit_penalties : List PointI32 → List PointI32
unfolding limited pick
limit_penalties ps = pick ps (limited ps)

-- what `limit_penalties` answers to a list and a buffer, and what the buffer then holds
unfoldable pub penalties_of : List ℤ → List ℤ → Points
unfolding passed limit_penalties points
penalties_of list out = passed list (limit_penalties (points list)) out
