-- Worked examples: antt computes each, so `refl` proves it.
use Rattle.std.specs.Prelude.{true, false, List, [], ◌∷◌, ◌≡◌, refl, ℤ, pos}
use Rattle.corners.specs.declared.Pair.{Pair}
use Rattle.corners.specs.Corners.{corners_of}

-- "(0,1) stands for 90 degrees"
abbrev right_angle : Pair
right_angle = record { c = pos 0; s = pos 1 }

-- "The pair is proportional to the threshold's cosine and sine": so (1, 1) stands for 45 degrees
abbrev half_right : Pair
half_right = record { c = pos 1; s = pos 1 }

abbrev square : List ℤ
square = pos 0 ∷ pos 0 ∷ pos 4 ∷ pos 0 ∷ pos 4 ∷ pos 4 ∷ pos 0 ∷ pos 4 ∷ pos 0 ∷ pos 0 ∷ []

-- the four corners of a closed square; its last point is dropped unseen
square_closed : corners_of square right_angle true ≡ 1 ∷ 1 ∷ 1 ∷ 1 ∷ []
unfolding corners_of
square_closed = refl

-- a point on a straight line is none, and open ends are flagged
straight : corners_of (pos 0 ∷ pos 0 ∷ pos 1 ∷ pos 0 ∷ pos 5 ∷ pos 0 ∷ []) right_angle false ≡ 1 ∷ 0 ∷ 1 ∷ []
unfolding corners_of
straight = refl

-- a turn by 45 degrees: one at 45, none at 90
gentle : corners_of (pos 0 ∷ pos 0 ∷ pos 3 ∷ pos 0 ∷ pos 5 ∷ pos 2 ∷ []) half_right false ≡ 1 ∷ 1 ∷ 1 ∷ []
unfolding corners_of
gentle = refl

gentle_at_ninety : corners_of (pos 0 ∷ pos 0 ∷ pos 3 ∷ pos 0 ∷ pos 5 ∷ pos 2 ∷ []) right_angle false ≡ 1 ∷ 0 ∷ 1 ∷ []
unfolding corners_of
gentle_at_ninety = refl

-- ---- document 02, 2/13: pegs that were tapped twice

-- on a straight line, at a corner, and three times
straight_twice : corners_of (pos 0 ∷ pos 0 ∷ pos 1 ∷ pos 0 ∷ pos 1 ∷ pos 0 ∷ pos 5 ∷ pos 0 ∷ []) right_angle false ≡ 1 ∷ 0 ∷ 0 ∷ 1 ∷ []
unfolding corners_of
straight_twice = refl

corner_thrice : corners_of (pos 0 ∷ pos 0 ∷ pos 4 ∷ pos 0 ∷ pos 4 ∷ pos 0 ∷ pos 4 ∷ pos 0 ∷ pos 4 ∷ pos 4 ∷ []) right_angle false ≡ 1 ∷ 1 ∷ 1 ∷ 1 ∷ 1 ∷ []
unfolding corners_of
corner_thrice = refl

-- the ends of an open list: those inside are beside nothing that differs
ends_twice : corners_of (pos 0 ∷ pos 0 ∷ pos 0 ∷ pos 0 ∷ pos 4 ∷ pos 0 ∷ pos 4 ∷ pos 0 ∷ []) right_angle false ≡ 1 ∷ 0 ∷ 0 ∷ 1 ∷ []
unfolding corners_of
ends_twice = refl

-- the first point of a closed triangle, twice before the wrap and twice behind it
across_the_wrap : corners_of (pos 0 ∷ pos 0 ∷ pos 0 ∷ pos 0 ∷ pos 4 ∷ pos 0 ∷ pos 0 ∷ pos 4 ∷ pos 0 ∷ pos 0 ∷ pos 0 ∷ pos 0 ∷ []) right_angle true ≡ 1 ∷ 1 ∷ 1 ∷ 1 ∷ 1 ∷ []
unfolding corners_of
across_the_wrap = refl

-- points that are all equal: open, and closed
abbrev equal_points : List ℤ
equal_points = pos 7 ∷ pos 7 ∷ pos 7 ∷ pos 7 ∷ pos 7 ∷ pos 7 ∷ []

equal_open : corners_of equal_points right_angle false ≡ 1 ∷ 0 ∷ 1 ∷ []
unfolding corners_of
equal_open = refl

equal_closed : corners_of equal_points right_angle true ≡ 0 ∷ 0 ∷ []
unfolding corners_of
equal_closed = refl
