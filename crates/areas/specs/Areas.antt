-- Document 02, 3/13: "All areas come from the points by the usual cross-product sum, the list closed from last to first." Twice an area is a whole
-- number, and it is positive where the points go clockwise, y down.
use Rattle.std.specs.Prelude.{ℕ, ◌-◌, Bool, true, false, not, ◌&&◌, List, [], ◌∷◌, eqb, ℤ, pos, ◌+ℤ◌, length, get_or}
use Rattle.point.specs.declared.PointI32.{PointI32}
use Rattle.util.specs.Area.{cross_of}
use Rattle.reduce.specs.Kept.{select}
use Rattle.areas.specs.declared.Areas.{Areas}

-- ---- the area of a list

-- what the edge from one point to the next adds
abbrev pub edge : PointI32 → PointI32 → ℤ
edge p q = cross_of p.x p.y q.x q.y

-- the sum of the edges from `p` on along the points behind it, and from the last of them to `first`
unfoldable pub back_to : PointI32 → PointI32 → List PointI32 → ℤ
back_to first p [] = edge p first
back_to first p (q ∷ ps) = edge p q +ℤ back_to first q ps

-- twice the signed area of a list of points
unfoldable pub twice_area : List PointI32 → ℤ
unfolding back_to
twice_area [] = pos 0
twice_area (p ∷ ps) = back_to p p ps

-- ---- the gaps that a choice of points leaves: a mark for each point, and what is not marked 0 is kept

-- the points up to the first that is kept, it included
unfoldable pub up_to_kept : List ℕ → List PointI32 → List PointI32
up_to_kept [] ps = []
up_to_kept (m ∷ marks) [] = []
up_to_kept (m ∷ marks) (p ∷ ps) = elim (eqb m 0) [ true ↦ p ∷ up_to_kept marks ps | false ↦ p ∷ [] ]

-- A gap goes from a kept point to the next, both counted in. Behind the last there is none: that point is alone, and has no area.
unfoldable pub gaps : List ℕ → List PointI32 → List (List PointI32)
unfolding up_to_kept
gaps [] ps = []
gaps (m ∷ marks) [] = []
gaps (m ∷ marks) (p ∷ ps) = elim (eqb m 0) [ true ↦ gaps marks ps | false ↦ (p ∷ up_to_kept marks ps) ∷ gaps marks ps ]

-- "the signed sum over the gaps, each gap closed by its chord": as a list of its own each is closed from its last point to its first
unfoldable pub area_of_all : List (List PointI32) → ℤ
unfolding twice_area
area_of_all [] = pos 0
area_of_all (g ∷ gs) = twice_area g +ℤ area_of_all gs

-- ---- the three areas

-- "twice its signed area, twice that of the kept points, and the signed sum over the gaps"
unfoldable pub three_areas : List ℕ → List PointI32 → Areas
unfolding twice_area gaps area_of_all select
three_areas marks ps = record { whole = twice_area ps; kept = twice_area (select marks ps); gaps = area_of_all (gaps marks ps) }

-- "every choice of kept positions with both ends"
unfoldable pub ends_kept : List ℕ → Bool
ends_kept marks = not (eqb (get_or marks 0 0) 0) && not (eqb (get_or marks (length marks - 1) 0) 0)
