-- Which points are corners, by whole numbers alone: document 01, "Corners", as document 02, 2/13, changes it. Document 01: "With v1 into and v2
-- out of a point, it is a corner when c·|cross| - s·dot ≥ 0. Closed lists drop the last point unseen and wrap; open lists flag both ends."
-- Document 02: "v1 comes from the nearest earlier point that differs, v2 goes to the nearest later one that differs".
use Rattle.std.specs.Prelude.{ℕ, Bool, not, ◌&&◌, ◌||◌, List, [], ◌∷◌, ◌++◌, reverse, eqb, ℤ, pos, nat_abs, ◌+ℤ◌, ◌-ℤ◌, ◌*ℤ◌, length, take, if◌then◌else◌}
use Rattle.std.specs.Int.Signed.{le_z}
use Rattle.point.specs.declared.PointI32.{PointI32}
use Rattle.point.specs.Points.{seen, points, same_point}
use Rattle.util.specs.Area.{cross_of}
use Rattle.corners.specs.declared.Pair.{Pair}

-- the vector from p to q
abbrev pub vector : PointI32 → PointI32 → PointI32
vector p q = record { x = q.x -ℤ p.x; y = q.y -ℤ p.y }

abbrev pub dot : PointI32 → PointI32 → ℤ
dot v1 v2 = v1.x *ℤ v2.x +ℤ v1.y *ℤ v2.y

abbrev pub cross : PointI32 → PointI32 → ℤ
cross v1 v2 = cross_of v1.x v1.y v2.x v2.y

-- "c·|cross| - s·dot ≥ 0"
unfoldable pub sharp : Pair → PointI32 → PointI32 → Bool
sharp pair v1 v2 = le_z (pos 0) (pair.c *ℤ pos (nat_abs (cross v1 v2)) -ℤ pair.s *ℤ dot v1 v2)

-- ---- the nearest points that differ, before a point p and behind it

-- the first point of a list that differs from p; where none does, p itself
unfoldable pub first_other : PointI32 → List PointI32 → PointI32
first_other p [] = p
first_other p (q ∷ qs) = if same_point p q then first_other p qs else q

-- the nearest point that differs from p, looking along the points on one side of it, the nearest first: "wrapping on closed lists" to those
-- on its other side, the farthest first; "on an open list the search stops at the ends"
unfoldable pub nearest : Bool → PointI32 → List PointI32 → List PointI32 → PointI32
unfolding first_other
nearest closed p side other = first_other p (side ++ (if closed then reverse other else []))

-- ---- flags

-- the turn at p, from one point to another, is sharp enough; "where no differing point is found on a side", it is none
unfoldable pub turns : Pair → PointI32 → PointI32 → PointI32 → Bool
unfolding sharp
turns pair from p to = not (same_point p from) && (not (same_point p to) && sharp pair (vector from p) (vector p to))

-- an end: nothing is before it, or nothing behind it
abbrev pub is_end : List PointI32 → List PointI32 → Bool
is_end back ahead = eqb (length back) 0 || eqb (length ahead) 0

-- whether p is a corner, between the points before it and those behind it, on each side the nearest first: "open ends stay flagged"
unfoldable pub is_corner : Pair → Bool → List PointI32 → PointI32 → List PointI32 → Bool
unfolding nearest turns
is_corner pair closed back p ahead = (not closed && is_end back ahead) || turns pair (nearest closed p back ahead) p (nearest closed p ahead back)

abbrev pub flag : Bool → ℕ
flag corner = if corner then 1 else 0

-- the flags of the points that are ahead, those that were passed being back, the nearest first
unfoldable pub flags_of : Pair → Bool → List PointI32 → List PointI32 → List ℕ
unfolding is_corner
flags_of pair closed back [] = []
flags_of pair closed back (p ∷ ahead) = flag (is_corner pair closed back p ahead) ∷ flags_of pair closed (p ∷ back) ahead

-- the points that are looked at: "closed lists drop the last point unseen"
abbrev pub looked_at : Bool → List PointI32 → List PointI32
looked_at closed pegs = take (seen (length pegs) closed) pegs

-- a flag for each of them
unfoldable pub corners : Pair → Bool → List PointI32 → List ℕ
unfolding flags_of
corners pair closed pegs = flags_of pair closed [] (looked_at closed pegs)

-- the flags of a list of points x, y, x, y
unfoldable pub corners_of : List ℤ → Pair → Bool → List ℕ
unfolding corners points
corners_of list pair closed = corners pair closed (points list)
