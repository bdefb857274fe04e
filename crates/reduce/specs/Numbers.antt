-- What `numbers` answers, and what the buffer lent to it then holds: a number for each point, laid `over` its start.
use Rattle.std.specs.Prelude.{ℕ, List, ltb, eqb, ℤ, Float, length, Result, Ok}
use Rattle.std.proofs.Math.Option.{Option, none}
use Rattle.std.specs.Float.Ieee.{lt}
use Rattle.laws.specs.Lists.{over}
use Rattle.laws.specs.Outcome.{Outcome}
use Rattle.point.specs.Limits.{too_many, bad_points, places_for}
use Rattle.point.specs.Outcomes.{outcome}
use Rattle.point.specs.Points.{count}
use Rattle.point.specs.Refusals.{refuse◌when◌or◌}
use Rattle.point.specs.declared.refusal.Refusal.{Refusal}
use Rattle.point.specs.declared.refusal.Refusal.TheVariants.{TooMany, BadPoint, TooFew, NoRoom}
use Rattle.split.specs.Distance.{zero64}
use Rattle.split.specs.Tree.{numbers_of, tree}
use Rattle.split.specs.Visits.{visits}
use Rattle.reduce.specs.declared.Counted.{Counted}

-- "The lowest that applies is given"
abbrev pub numbers_refusal : List ℤ → List Float → Option Refusal
numbers_refusal list out =
    refuse TooMany when too_many (length list) or
    refuse BadPoint when bad_points list or
    refuse TooFew when eqb (count list) 0 or
    refuse NoRoom when ltb (length out) (places_for (count list)) or
    none

unfoldable pub numbered_of : List ℤ → List Float → Outcome (Result ℕ Refusal) (List Float)
unfolding outcome numbers_of over
numbered_of list out =
    outcome (numbers_refusal list out) out (record { answer = Ok (count list); out = over (numbers_of list) out })

-- "Report how many distances were computed": document 02, 8/13. They stop where all distances are zero, so it is the count at the squared tolerance 0
unfoldable pub counted_numbered_of : List ℤ → List Float → Outcome (Result Counted Refusal) (List Float)
unfolding outcome numbers_of over visits tree
counted_numbered_of list out =
    outcome (numbers_refusal list out) out
    (record { answer = Ok (record { points = count list; distances = visits (lt zero64) (tree list) }); out = over (numbers_of list) out })
