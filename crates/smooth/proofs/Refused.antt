-- What a verdict says of the points, the flags and the room. Assumes nothing.
use Prim.Native.Nat.{ℕ, ◌*◌, ◌/◌, ◌≤◌}
use mathlib.Core.Bool.{Bool, true, false, not, ◌&&◌, ◌||◌}
use mathlib.Core.List.{List}
use mathlib.Core.Option.{Option, none}
use mathlib.Core.Path.{◌≡◌}
use native.Mathlib.Omega.{arith}
use lib.Dec.{ltb, eqb}
use lib.Ieee.{Float}
use lib.ListN.{length}
use borrow.Author.Tests.{ltb-false, eqb-true, not-false}
use Rattle.laws.proofs.Joined.{both_false}
use Rattle.point.specs.Limits.{too_many, bad_points_f64, bad_flags, is_flag}
use Rattle.point.specs.Outcomes.{verdict}
use Rattle.point.proofs.Verdicts.{fine_is, passes}
use Rattle.point.specs.Refusals.{refuse◌when◌or◌}
use Rattle.point.specs.declared.refusal.Refusal.{Refusal}
use Rattle.point.specs.declared.refusal.Refusal.TheVariants.{TooMany, BadPoint, TooFew, BadFlags, BadSettings, NoRoom}
use Rattle.smooth.specs.declared.scheme.Settings.{Settings}
use Rattle.point.specs.Points.{count, seen}
use Rattle.std.specs.Prelude.{Result, Ok}
use Rattle.std.specs.List.{list_all}
use Rattle.point.proofs.Room.{seen_few}
use Rattle.smooth.specs.Calls.{bad_settings, round_places, round_refusal}
use Rattle.smooth.specs.inside.Parts.{room_for}

room_is : (closed : Bool) (m n : ℕ) → m ≡ seen n closed → (closed && ltb n 2) ≡ false → room_for closed m ≤ round_places n
room_is true m n e f = omega (arith, ltb-false n 2 f)
room_is false m n e f = omega arith

module _ (list : List Float) (corners : List ℕ) (settings : Settings) (closed : Bool) (room flagRoom : ℕ) (v : Result Unit Refusal)
    (says : v ≡ verdict (round_refusal list corners settings closed room flagRoom)) (fine : v ≡ Ok tt) where
  abbrev short : Bool
  short = ltb room (round_places (count list) * 2) || ltb flagRoom (round_places (count list))

  -- what is judged from each test on
  abbrev from_room : Option Refusal
  from_room = refuse NoRoom when short or none

  abbrev from_settings : Option Refusal
  from_settings = refuse BadSettings when bad_settings settings or from_room

  abbrev from_flags : Option Refusal
  from_flags = refuse BadFlags when bad_flags (seen (count list) closed) corners or from_settings

  abbrev from_few : Option Refusal
  from_few = refuse TooFew when closed && ltb (count list) 2 or from_flags

  abbrev from_points : Option Refusal
  from_points = refuse BadPoint when bad_points_f64 list or from_few

  good_points : (bad_points_f64 list ≡ false) × (from_few ≡ none)
  good_points =
      passes BadPoint (bad_points_f64 list) from_few
      (passes TooMany (too_many (length list)) from_points (fine_is v (round_refusal list corners settings closed room flagRoom) says fine)).1

  good_count : ((closed && ltb (count list) 2) ≡ false) × (from_flags ≡ none)
  good_count = passes TooFew (closed && ltb (count list) 2) from_flags good_points.1

  good_flags : (bad_flags (seen (count list) closed) corners ≡ false) × (from_settings ≡ none)
  good_flags = passes BadFlags (bad_flags (seen (count list) closed) corners) from_settings good_count.1

  -- a closed list has two points
  pub not_few : (closed && ltb (count list) 2) ≡ false
  not_few = good_count.0

  pub so_many : length corners ≡ seen (count list) closed
  so_many =
      eqb-true (length corners) (seen (count list) closed)
      (not-false (eqb (length corners) (seen (count list) closed))
      (both_false (not (eqb (length corners) (seen (count list) closed))) (not (list_all is_flag corners)) good_flags.0).0)

  pub at_most : length corners ≤ count list
  at_most = seen_few closed (length corners) (count list) so_many

  not_short : short ≡ false
  not_short = (passes NoRoom short none (passes BadSettings (bad_settings settings) from_room good_flags.1).1).0

  pub enough : room_for closed (length corners) ≤ room / 2
  enough =
      omega (
        arith,
        room_is closed (length corners) (count list) so_many not_few,
        ltb-false room (round_places (count list) * 2) (both_false (ltb room (round_places (count list) * 2)) (ltb flagRoom (round_places (count list))) not_short).0,
      )

  pub enough_flags : room_for closed (length corners) ≤ flagRoom
  enough_flags =
      omega (
        arith,
        room_is closed (length corners) (count list) so_many not_few,
        ltb-false flagRoom (round_places (count list)) (both_false (ltb room (round_places (count list) * 2)) (ltb flagRoom (round_places (count list))) not_short).1,
      )

-- for a call that a verdict lets through
pub ruleset fine_call = (not_few, so_many, at_most, enough, enough_flags)
