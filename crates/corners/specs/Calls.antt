-- What `find_corners` refuses and answers, and what the flags lent to it then hold.
use Rattle.std.specs.Prelude.{ℕ, Bool, not, ◌&&◌, List, ltb, eqb, ℤ, pos, negsuc, length, Result, Ok}
use Rattle.std.proofs.Math.Option.{Option, none}
use Rattle.std.specs.Int.Signed.{le_z}
use Rattle.laws.specs.Lists.{over}
use Rattle.laws.specs.Outcome.{Outcome}
use Rattle.point.specs.Limits.{too_many, bad_points}
use Rattle.point.specs.Outcomes.{outcome}
use Rattle.point.specs.Points.{count, seen}
use Rattle.point.specs.Refusals.{refuse◌when◌or◌}
use Rattle.point.specs.declared.refusal.Refusal.{Refusal}
use Rattle.point.specs.declared.refusal.Refusal.TheVariants.{TooMany, BadPoint, TooFew, BadSettings, NoRoom}
use Rattle.corners.specs.declared.Pair.{Pair}
use Rattle.corners.specs.Corners.{corners_of}

-- "c in -1,000..1,000, s in 1..1,000"
abbrev pub fair : Pair → Bool
fair pair = (le_z (negsuc 999) pair.c && le_z pair.c (pos 1000)) && (le_z (pos 1) pair.s && le_z pair.s (pos 1000))

-- "Corners need one flag per answer"
abbrev pub corners_refusal : List ℤ → Pair → Bool → ℕ → Option Refusal
corners_refusal list pair closed room =
    refuse TooMany when too_many (length list) or
    refuse BadPoint when bad_points list or
    refuse TooFew when eqb (count list) 0 or
    refuse BadSettings when not (fair pair) or
    refuse NoRoom when ltb room (seen (count list) closed) or
    none

-- a flag for each point that is looked at, and how many those are
unfoldable pub flagged : List ℤ → Pair → Bool → List ℕ → Outcome (Result ℕ Refusal) (List ℕ)
unfolding corners_of over
flagged list pair closed flags = record { answer = Ok (seen (count list) closed); out = over (corners_of list pair closed) flags }

unfoldable pub find_corners_of : List ℤ → Pair → Bool → List ℕ → Outcome (Result ℕ Refusal) (List ℕ)
unfolding outcome flagged
find_corners_of list pair closed flags = outcome (corners_refusal list pair closed (length flags)) flags (flagged list pair closed flags)
