-- The points of a list that marks keep, and the room for them.
use Rattle.std.specs.Prelude.{ℕ, ◌*◌, Bool, true, false, List, [], ◌∷◌, eqb, ltb, ℤ, length}
use Rattle.point.specs.Limits.{places_for}
use Rattle.point.specs.declared.PointI32.{PointI32}

-- the points whose mark is not 0
unfoldable pub select : List ℕ → List PointI32 → List PointI32
select [] ps = []
select (m ∷ marks) [] = []
select (m ∷ marks) (p ∷ ps) = elim (eqb m 0) [ true ↦ select marks ps | false ↦ p ∷ select marks ps ]

-- what is handed out of a list by its marks; Douglas-Peucker "of one point gives it twice", and so does a zoom
unfoldable pub kept : List ℕ → List PointI32 → List PointI32
unfolding select
kept marks [] = []
kept marks (p ∷ []) = p ∷ p ∷ []
kept marks (p ∷ q ∷ ps) = select marks (p ∷ q ∷ ps)

-- the buffer is too small for so many points
abbrev pub short_for : ℕ → List ℤ → Bool
short_for n out = ltb (length out) (places_for n * 2)
