-- The radial pass (reduce.rs, simplify_radial_dist): a point is kept when it lies farther than the tolerance from the last one kept.
use Rattle.std.specs.Prelude.{true, false, List, [], ◌∷◌, ℤ, ◌+ℤ◌, ◌-ℤ◌, ◌*ℤ◌, Float, length, if◌then◌else◌}
use Rattle.std.proofs.Math.Option.{Option, none}
use Rattle.std.specs.Float.{binary64}
use Rattle.std.specs.Float.Ieee.{of_int, lt}
use Rattle.point.specs.Limits.{too_many, bad_points, bad_sq_tolerance}
use Rattle.point.specs.Outcomes.{Points, outcome, handed}
use Rattle.point.specs.Points.{points, count, same_point}
use Rattle.point.specs.Refusals.{refuse◌when◌or◌}
use Rattle.point.specs.declared.PointI32.{PointI32}
use Rattle.point.specs.declared.refusal.Refusal.{Refusal}
use Rattle.point.specs.declared.refusal.Refusal.TheVariants.{TooMany, BadPoint, BadTolerance, NoRoom}
use Rattle.reduce.specs.Kept.{short_for}

-- the squared distance between two points, operation by operation as the Rust computes it (get_sq_dist on i32 points): in i32, and then as a double
unfoldable pub sq_dist : PointI32 → PointI32 → Float
sq_dist p q = of_int binary64 ((p.x -ℤ q.x) *ℤ (p.x -ℤ q.x) +ℤ (p.y -ℤ q.y) *ℤ (p.y -ℤ q.y))

-- the last point is kept in any case, unless the last one kept equals it
abbrev pub radial_end : PointI32 → PointI32 → List PointI32
radial_end last prev = if same_point prev last then [] else (last ∷ [])

-- what is kept of the points after prev
unfoldable pub radial_from : Float → PointI32 → PointI32 → List PointI32 → List PointI32
unfolding sq_dist
radial_from tolerance last prev [] = radial_end last prev
radial_from tolerance last prev (p ∷ ps) = elim (lt tolerance (sq_dist p prev)) [
  | true ↦ p ∷ radial_from tolerance last p ps
  | false ↦ radial_from tolerance last prev ps
]

-- the last of a list
unfoldable pub last_of : PointI32 → List PointI32 → PointI32
last_of p [] = p
last_of p (q ∷ ps) = last_of q ps

-- a list of up to two points is kept whole
unfoldable pub radial : Float → List PointI32 → List PointI32
unfolding radial_from last_of
radial tolerance [] = []
radial tolerance (p ∷ []) = p ∷ []
radial tolerance (p ∷ q ∷ []) = p ∷ q ∷ []
radial tolerance (p ∷ q ∷ r ∷ ps) = p ∷ radial_from tolerance (last_of r ps) p (q ∷ r ∷ ps)

-- ---- simplify_radial_dist

-- "The lowest that applies is given"
abbrev pub radial_refusal : List ℤ → Float → List ℤ → Option Refusal
radial_refusal list tolerance out =
    refuse TooMany when too_many (length list) or
    refuse BadPoint when bad_points list or
    refuse BadTolerance when bad_sq_tolerance tolerance or
    refuse NoRoom when short_for (count list) out or
    none

-- what the call answers, and what the buffer lent to it then holds
unfoldable pub radial_of : List ℤ → Float → List ℤ → Points
unfolding outcome handed radial points
radial_of list tolerance out = outcome (radial_refusal list tolerance out) out (handed (radial tolerance (points list)) out)
