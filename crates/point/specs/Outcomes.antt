-- What every call answers where it refuses, and what a call that hands out points answers otherwise, with what the buffers lent to it then hold.
use Rattle.std.specs.Prelude.{ℕ, Bool, ◌*◌, ◌/◌, List, ltb, ℤ, length, Result, Ok, Err}
use Rattle.std.proofs.Math.Option.{Option, some, none}
use Rattle.laws.specs.Lists.{over}
use Rattle.laws.specs.Outcome.{Outcome}
use Rattle.point.specs.Limits.{too_many, bad_list, bad_points, places_for}
use Rattle.point.specs.Points.{flat}
use Rattle.point.specs.Refusals.{refuse◌when◌or◌}
use Rattle.point.specs.declared.PointI32.{PointI32}
use Rattle.point.specs.declared.refusal.Refusal.{Refusal}
use Rattle.point.specs.declared.refusal.Refusal.TheVariants.{TooMany, BadPoint, NoRoom}

-- "A refusal has count 0 and every lent buffer, scratch too, holds its old contents": of a call that refuses this is said here, for all of them.
-- A call that does not refuse has done something.
unfoldable pub outcome : {A B : Type 0} → Option Refusal → B → Outcome (Result A Refusal) B → Outcome (Result A Refusal) B
outcome (some r) old done = record { answer = Err r; out = old }
outcome none old done = done

-- points at the start of a buffer, and counted: "places past the answer hold theirs"
abbrev pub Points : Type 0
Points = Outcome (Result ℕ Refusal) (List ℤ)

unfoldable pub handed : List PointI32 → List ℤ → Points
unfolding flat over
handed ps out = record { answer = Ok (length ps); out = over (flat ps) out }

-- ---- a call that hands out points for a list of points

-- the lowest refusal that applies to a list whose values have a range
abbrev pub list_refusal : {A : Type 0} → (A → Bool) → List A → Option Refusal
list_refusal fits list =
    refuse TooMany when too_many (length list) or
    refuse BadPoint when bad_list fits list or
    none

-- the lowest refusal that applies to a list and to a room of so many values
abbrev pub refusal : List ℤ → ℕ → Option Refusal
refusal list room =
    refuse TooMany when too_many (length list) or
    refuse BadPoint when bad_points list or
    refuse NoRoom when ltb room (places_for (length list / 2) * 2) or
    none

-- a refusal as it is handed on
abbrev pub verdict : Option Refusal → Result Unit Refusal
verdict (some r) = Err r
verdict none = Ok tt

-- the points that a pass over a list leaves, or why there are none
unfoldable pub passed : List ℤ → List PointI32 → List ℤ → Points
unfolding outcome handed
passed list ps out = outcome (refusal list (length out)) out (handed ps out)
