-- What the calls refuse and answer.
use Rattle.std.specs.Prelude.{ℕ, not, ◌||◌, List, ltb, eqb, Float, ℤ, length, Result, Ok, Err}
use Rattle.std.proofs.Math.Option.{Option, some, none}
use Rattle.laws.specs.Lists.{over}
use Rattle.laws.specs.Outcome.{Outcome}
use Rattle.point.specs.Limits.{too_many, bad_points, bad_flags, bad_sq_tolerance}
use Rattle.point.specs.Outcomes.{outcome}
use Rattle.point.specs.Points.{count, points}
use Rattle.point.specs.Refusals.{refuse◌when◌or◌}
use Rattle.point.specs.declared.refusal.Refusal.{Refusal}
use Rattle.point.specs.declared.refusal.Refusal.TheVariants.{TooMany, BadPoint, TooFew, BadTolerance, BadFlags, NoRoom}
use Rattle.split.specs.Tree.{marks_of}
use Rattle.areas.specs.Areas.{twice_area, three_areas, ends_kept}
use Rattle.areas.specs.declared.Areas.{Areas}

-- ---- the area of a list

abbrev pub twice_area_refusal : List ℤ → Option Refusal
twice_area_refusal list =
    refuse TooMany when too_many (length list) or
    refuse BadPoint when bad_points list or
    none

-- or why there is none
abbrev pub area_unless : Option Refusal → ℤ → Result ℤ Refusal
area_unless (some r) twice = Err r
area_unless none twice = Ok twice

unfoldable pub twice_area_of : List ℤ → Result ℤ Refusal
unfolding twice_area points
twice_area_of list = area_unless (twice_area_refusal list) (twice_area (points list))

-- ---- the areas of a list and a choice of its points

-- A choice has a flag for each point, and both ends: of no points there is none.
abbrev pub areas_by_refusal : List ℤ → List ℕ → Option Refusal
areas_by_refusal list kept =
    refuse TooMany when too_many (length list) or
    refuse BadPoint when bad_points list or
    refuse TooFew when eqb (count list) 0 or
    refuse BadFlags when bad_flags (count list) kept || not (ends_kept kept) or
    none

abbrev pub areas_unless : Option Refusal → Result Areas Refusal → Result Areas Refusal
areas_unless (some r) areas = Err r
areas_unless none areas = areas

unfoldable pub areas_by_of : List ℤ → List ℕ → Result Areas Refusal
unfolding three_areas ends_kept points
areas_by_of list kept = areas_unless (areas_by_refusal list kept) (Ok (three_areas kept (points list)))

-- ---- the areas of a list at a squared tolerance

-- as Douglas-Peucker refuses, but that there is no room for points to be judged
abbrev pub areas_at_refusal : List ℤ → Float → List ℕ → Option Refusal
areas_at_refusal list tolerance marks =
    refuse TooMany when too_many (length list) or
    refuse BadPoint when bad_points list or
    refuse TooFew when eqb (count list) 0 or
    refuse BadTolerance when bad_sq_tolerance tolerance or
    refuse NoRoom when ltb (length marks) (count list) or
    none

-- what is kept is what Douglas-Peucker marks, and the marks are left: "places past the answer hold theirs"
unfoldable pub areas_at_of : List ℤ → Float → List ℕ → Outcome (Result Areas Refusal) (List ℕ)
unfolding outcome three_areas marks_of points over
areas_at_of list tolerance marks =
    outcome (areas_at_refusal list tolerance marks) marks
    (record { answer = Ok (three_areas (marks_of tolerance list) (points list)); out = over (marks_of tolerance list) marks })
