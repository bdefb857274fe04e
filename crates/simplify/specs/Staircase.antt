-- The Rust's remove_staircase: a point beside a step of one pixel stays only where the outline turns outwards there.
use Rattle.std.specs.Prelude.{ℕ, ◌+◌, Bool, true, false, not, ◌&&◌, ◌||◌, List, [], ◌∷◌, eqb, ℤ, pos, nat_abs, ◌-ℤ◌, if◌then◌else◌}
use Rattle.std.specs.Bool.{beq}
use Rattle.std.specs.Int.Signed.{lt_z}
use Rattle.point.specs.declared.PointI32.{PointI32}
use Rattle.point.specs.Points.{points}
use Rattle.util.specs.Area.{signed_area}
use Rattle.point.specs.Outcomes.{Points, passed}

-- the length of a step along the axes
abbrev pub segment_length : PointI32 → PointI32 → ℕ
segment_length p q = nat_abs (p.x -ℤ q.x) + nat_abs (p.y -ℤ q.y)

-- three points with this signed area turn, and turn the way that the outline goes round: the Rust's `area != 0 && (area > 0) == clockwise`
abbrev pub outwards : Bool → ℤ → Bool
outwards clockwise area = not (eqb (nat_abs area) 0) && beq (lt_z (pos 0) area) clockwise

-- whether a point stays between its neighbours: beside a step of one pixel where the outline turns outwards, and else in any case
abbrev pub stays : Bool → PointI32 → PointI32 → PointI32 → Bool
stays clockwise before p after =
    if eqb (segment_length p before) 1 || eqb (segment_length p after) 1 then outwards clockwise (signed_area before p after) else true

-- what stays of the points after one that was before them: "looks at original neighbours"; the last stays in any case
unfoldable pub staircase_from : Bool → PointI32 → List PointI32 → List PointI32
staircase_from clockwise before [] = []
staircase_from clockwise before (p ∷ []) = p ∷ []
staircase_from clockwise before (p ∷ q ∷ ps) = elim (stays clockwise before p q) [
  | true ↦ p ∷ staircase_from clockwise p (q ∷ ps)
  | false ↦ staircase_from clockwise p (q ∷ ps)
]

-- the first stays in any case
unfoldable pub remove_staircase : Bool → List PointI32 → List PointI32
unfolding staircase_from
remove_staircase clockwise [] = []
remove_staircase clockwise (p ∷ ps) = p ∷ staircase_from clockwise p ps

-- what `remove_staircase` answers to a list and a buffer, and what the buffer then holds
unfoldable pub staircase_of : List ℤ → Bool → List ℤ → Points
unfolding passed remove_staircase points
staircase_of list clockwise out = passed list (remove_staircase clockwise (points list)) out
