-- What `zoom` answers, and what the buffer lent to it then holds: the points that their numbers keep at a tolerance.
use Rattle.std.specs.Prelude.{ℕ, Bool, true, false, not, ◌||◌, List, [], ◌∷◌, eqb, ℤ, Float, length}
use Rattle.std.proofs.Math.Option.{Option, none}
use Rattle.std.specs.Float.Ieee.{lt}
use Rattle.point.specs.Limits.{too_many, bad_points, bad_sq_tolerance}
use Rattle.point.specs.Outcomes.{Points, outcome, handed}
use Rattle.point.specs.Points.{points, count}
use Rattle.point.specs.Refusals.{refuse◌when◌or◌}
use Rattle.point.specs.declared.refusal.Refusal.{Refusal}
use Rattle.point.specs.declared.refusal.Refusal.TheVariants.{TooMany, BadPoint, TooFew, BadTolerance, NoRoom}
use Rattle.reduce.specs.Kept.{kept, short_for}

-- 1 for what is kept, 0 for what is dropped
abbrev pub mark : Bool → ℕ
mark true = 1
mark false = 0

-- the marks of all points but the first, by their numbers: the last is kept
unfoldable pub marks_after : Float → List Float → List ℕ
marks_after tolerance [] = []
marks_after tolerance (v ∷ []) = 1 ∷ []
marks_after tolerance (v ∷ w ∷ vs) = mark (lt tolerance v) ∷ marks_after tolerance (w ∷ vs)

-- the marks by the numbers: both ends are kept, and between them each point whose number is greater than the tolerance
unfoldable pub marks_by : Float → List Float → List ℕ
unfolding marks_after
marks_by tolerance [] = []
marks_by tolerance (v ∷ vs) = 1 ∷ marks_after tolerance vs

-- "The lowest that applies is given"; a list of numbers that has not one for each point is BadPoint
abbrev pub zoom_refusal : List ℤ → List Float → Float → List ℤ → Option Refusal
zoom_refusal list numbers tolerance out =
    refuse TooMany when too_many (length list) or
    refuse BadPoint when bad_points list || not (eqb (length numbers) (count list)) or
    refuse TooFew when eqb (count list) 0 or
    refuse BadTolerance when bad_sq_tolerance tolerance or
    refuse NoRoom when short_for (count list) out or
    none

unfoldable pub zoom_of : List ℤ → List Float → Float → List ℤ → Points
unfolding outcome handed kept marks_by points
zoom_of list numbers tolerance out =
    outcome (zoom_refusal list numbers tolerance out) out (handed (kept (marks_by tolerance numbers) (points list)) out)
