-- What a verdict says of a list and of the room for its answer, and how it leads to the outcome of a pass. Assumes nothing.
use Prim.Native.Nat.{ℕ, ◌*◌, ◌≤◌}
use mathlib.Core.Bool.{Bool, true, false}
use mathlib.Core.List.{List}
use mathlib.Core.Option.{Option, some, none}
use mathlib.Core.Path.{◌≡◌, refl}
use native.Mathlib.Omega.{arith}
use lib.Dec.{ltb}
use lib.IntN.{ℤ}
use lib.ListN.{length}
use borrow.Author.Tests.{ltb-false, le-ltb}
use Rattle.std.specs.Prelude.{Result, Ok, Err}
use Rattle.point.specs.Limits.{too_many, in_range, bad_points, places_for}
use Rattle.point.specs.Refusals.{refuse◌when◌or◌}
use Rattle.point.specs.declared.PointI32.{PointI32}
use Rattle.point.specs.declared.refusal.Refusal.{Refusal}
use Rattle.point.specs.declared.refusal.Refusal.TheVariants.{TooMany, BadPoint, NoRoom}
use Rattle.point.proofs.Claims.{whole_points}
use Rattle.point.specs.Points.{count}
use Rattle.point.specs.inside.Written.{Handed}
use Rattle.point.proofs.Room.{places_bounds}
use Rattle.point.specs.Outcomes.{refusal, verdict, passed}

pub refused_is : (v : Result Unit Refusal) (o : Option Refusal) (r : Refusal) → v ≡ verdict o → v ≡ Err r → o ≡ some r
refused_is v (some q) r e f = cc
refused_is v none r e f = cc

pub fine_is : (v : Result Unit Refusal) (o : Option Refusal) → v ≡ verdict o → v ≡ Ok tt → o ≡ none
fine_is v (some q) e f = cc
fine_is v none e f = refl

-- where nothing is refused the first test does not hold, and no later one refuses either
pub passes : (r : Refusal) (t : Bool) (rest : Option Refusal) → (refuse r when t or rest) ≡ none → (t ≡ false) × (rest ≡ none)
passes r true rest e = let z : ◌≡◌ {A = ℕ} 0 1 = cc in absurd (omega arith)
passes r false rest e = (refl, e)

-- a list that is short enough, good, and has room is not refused
pub not_refused : (list : List ℤ) (room : ℕ) → length list ≤ 8192 → bad_points list ≡ false → places_for (count list) * 2 ≤ room → refusal list room ≡ none
not_refused list room few good places =
    rw (le-ltb 8192 (length list) few, good, le-ltb room (places_for (count list) * 2) places)

module _ (list : List ℤ) (room : ℕ) (v : Result Unit Refusal) (says : v ≡ verdict (refusal list room)) where
  module _ (fine : v ≡ Ok tt) where
    abbrev no_room : Bool
    no_room = ltb room (places_for (count list) * 2)

    first : (too_many (length list) ≡ false) × ((refuse BadPoint when bad_points list or refuse NoRoom when no_room or none) ≡ none)
    first =
        passes TooMany (too_many (length list)) (refuse BadPoint when bad_points list or refuse NoRoom when no_room or none)
        (fine_is v (refusal list room) says fine)

    second : (bad_points list ≡ false) × ((refuse NoRoom when no_room or none) ≡ none)
    second = passes BadPoint (bad_points list) (refuse NoRoom when no_room or none) first.1

    pub few : length list ≤ 8192
    few = ltb-false 8192 (length list) first.0

    pub good : bad_points list ≡ false
    good = second.0

    pub places : places_for (count list) * 2 ≤ room
    places = ltb-false room (places_for (count list) * 2) (passes NoRoom no_room none second.1).0

    pub list_fits : length list ≤ room
    list_fits = omega (arith, places, places_bounds (count list), whole_points in_range list good)

module _ (list out : List ℤ) (v : Result Unit Refusal) (says : v ≡ verdict (refusal list (length out))) (ps : List PointI32) where
  pub refused_outcome : (r : Refusal) → v ≡ Err r → record { answer = Err r; out = out } ≡ passed list ps out
  unfolding passed
  refused_outcome r e = rw (refused_is v (refusal list (length out)) r says e)

  pub handed_outcome : v ≡ Ok tt → (n : ℕ) (last : List ℤ) → Handed ps out n last →
      record { answer = Ok n; out = last } ≡ passed list ps out
  unfolding passed
  handed_outcome e n last h = rw (fine_is v (refusal list (length out)) says e, h.counted, h.written)
