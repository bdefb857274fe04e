-- What `simplify_douglas_peucker` answers, and what the two buffers lent to it then hold. A list is laid `over` the start of a buffer: "places
-- past the answer hold theirs".
use Rattle.std.specs.Prelude.{ℕ, ◌||◌, List, ltb, eqb, ℤ, Float, length, Result, Ok}
use Rattle.std.proofs.Math.Option.{Option, none}
use Rattle.std.specs.Float.Ieee.{lt}
use Rattle.laws.specs.Lists.{over}
use Rattle.laws.specs.Outcome.{Outcome}
use Rattle.point.specs.Limits.{too_many, bad_points, bad_sq_tolerance}
use Rattle.point.specs.Outcomes.{outcome}
use Rattle.point.specs.Points.{flat, points, count}
use Rattle.point.specs.Refusals.{refuse◌when◌or◌}
use Rattle.point.specs.declared.refusal.Refusal.{Refusal}
use Rattle.point.specs.declared.refusal.Refusal.TheVariants.{TooMany, BadPoint, TooFew, BadTolerance, NoRoom}
use Rattle.split.specs.Tree.{marks_of, tree}
use Rattle.split.specs.Visits.{visits}
use Rattle.reduce.specs.Kept.{kept, short_for}
use Rattle.reduce.specs.declared.Counted.{Counted}

-- "The lowest that applies is given"; Douglas-Peucker needs "n mark bytes"
abbrev pub douglas_peucker_refusal : List ℤ → Float → List ℤ → List ℕ → Option Refusal
douglas_peucker_refusal list tolerance out marks =
    refuse TooMany when too_many (length list) or
    refuse BadPoint when bad_points list or
    refuse TooFew when eqb (count list) 0 or
    refuse BadTolerance when bad_sq_tolerance tolerance or
    refuse NoRoom when short_for (count list) out || ltb (length marks) (count list) or
    none

-- the points that are kept, and a mark for each point of the list
abbrev pub kept_and_marked : List ℤ → Float → List ℤ → List ℕ → Outcome (Result ℕ Refusal) (List ℤ × List ℕ)
kept_and_marked list tolerance out marks =
    let ps = kept (marks_of tolerance list) (points list) in
    record { answer = Ok (length ps); out = (over (flat ps) out, over (marks_of tolerance list) marks) }

unfoldable pub douglas_peucker_of : List ℤ → Float → List ℤ → List ℕ → Outcome (Result ℕ Refusal) (List ℤ × List ℕ)
unfolding outcome kept marks_of flat points over
douglas_peucker_of list tolerance out marks =
    outcome (douglas_peucker_refusal list tolerance out marks) (out, marks) (kept_and_marked list tolerance out marks)

-- "Report how many distances were computed": document 02, 8/13
unfoldable pub counted_douglas_peucker_of : List ℤ → Float → List ℤ → List ℕ → Outcome (Result Counted Refusal) (List ℤ × List ℕ)
unfolding outcome kept marks_of flat points over visits tree
counted_douglas_peucker_of list tolerance out marks =
    outcome (douglas_peucker_refusal list tolerance out marks) (out, marks)
    (record {
      answer = Ok (record { points = length (kept (marks_of tolerance list) (points list)); distances = visits (lt tolerance) (tree list) });
      out = (kept_and_marked list tolerance out marks).out;
    })
