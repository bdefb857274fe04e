-- The two lines of `reduction`, which of them a list and a tolerance pick, and what is known where nothing is refused. Assumes nothing.
use Prim.Native.Nat.{ℕ, ◌*◌, ◌<◌, ◌≤◌}
use mathlib.Core.Bool.{Bool, false, true, ◌||◌}
use mathlib.Core.List.{List}
use mathlib.Core.Option.{none}
use mathlib.Core.Path.{◌≡◌, sym, ◌∙◌}
use native.Mathlib.Omega.{arith}
use lib.Dec.{leb, ltb}
use lib.Ieee.{Float, binary64, of_int, of_bits, eq}
use lib.IntN.{ℤ, pos}
use lib.ListN.{length}
use borrow.Author.Tests.{leb-false, ltb-false}
use Rattle.laws.proofs.Joined.{both_false}
use Rattle.point.specs.Limits.{too_many, bad_points, bad_tolerance, in_range, places_for}
use Rattle.point.proofs.Claims.{whole_points}
use Rattle.point.specs.Points.{count}
use Rattle.point.proofs.Room.{places_enough}
use Rattle.reduce.specs.Kept.{short_for}
use Rattle.reduce.specs.Reduce.{reduce_refusal, answered_whole, answered_narrowed, reduction}
use Rattle.point.proofs.Verdicts.{passes}

-- a list is answered whole
abbrev pub in_whole : List ℤ → Float → Bool
in_whole list tolerance = leb (count list) 2 || eq tolerance (of_int binary64 (pos 0))

module _ (list : List ℤ) (tolerance : Float) where
  -- the zero of the code is that of the definition
  pub test_is : (all t : Bool) → all ≡ (leb (count list) 2 || eq tolerance (of_bits binary64 0)) → all ≡ t → in_whole list tolerance ≡ t
  unfolding of_bits of_int
  test_is all t a e = sym a ∙ e

  -- a list that is not answered whole has more than two points
  pub many_points : in_whole list tolerance ≡ false → 2 < count list
  many_points e = leb-false (count list) 2 (both_false (leb (count list) 2) (eq tolerance (of_int binary64 (pos 0))) e).0

  module _ (out scratch : List ℤ) (marks : List ℕ) where
    pub answers_whole : in_whole list tolerance ≡ true → reduction list tolerance out scratch marks ≡ answered_whole list out scratch marks
    unfolding reduction
    answers_whole e = rw (e, reduction)

    pub answers_narrowed : in_whole list tolerance ≡ false → reduction list tolerance out scratch marks ≡ answered_narrowed list tolerance out scratch marks
    unfolding reduction
    answers_narrowed e = rw (e, reduction)

-- a list that is not too long has at most 4,096 points
pub few_points : (list : List ℤ) → too_many (length list) ≡ false → count list ≤ 4096
few_points list e = omega (arith, ltb-false 8192 (length list) e)

-- ---- where nothing is refused, the points are good and there is room

module _ (list : List ℤ) (tolerance : Float) (out scratch : List ℤ) (marks : List ℕ) (passed : reduce_refusal list tolerance out scratch marks ≡ none) where
  abbrev few_values : Bool
  few_values = short_for (count list) out || ltb (length scratch) (count list * 2)

  tests : (bad_points list ≡ false) × ((few_values || ltb (length marks) (count list)) ≡ false)
  tests =
      let points = passes _ (bad_points list) _ (passes _ (too_many (length list)) _ passed).1 in
      (points.0, (passes _ (few_values || ltb (length marks) (count list)) _ (passes _ (bad_tolerance tolerance) _ points.1).1).0)

  rooms : (few_values ≡ false) × (ltb (length marks) (count list) ≡ false)
  rooms = both_false few_values (ltb (length marks) (count list)) tests.1

  pub few : count list ≤ 4096
  few = few_points list (passes _ (too_many (length list)) _ passed).0

  pub good_points : bad_points list ≡ false
  good_points = tests.0

  pub out_room : places_for (count list) * 2 ≤ length out
  out_room = ltb-false (length out) _ (both_false (short_for (count list) out) (ltb (length scratch) (count list * 2)) rooms.0).0

  pub scratch_room : count list * 2 ≤ length scratch
  scratch_room = ltb-false (length scratch) _ (both_false (short_for (count list) out) (ltb (length scratch) (count list * 2)) rooms.0).1

  pub marks_room : count list ≤ length marks
  marks_room = ltb-false (length marks) (count list) rooms.1

  -- the whole list fits the scratch, and the buffer
  pub scratch_fits : length list ≤ length scratch
  scratch_fits = omega (arith, whole_points in_range list good_points, scratch_room)

  pub out_fits : length list ≤ length out
  out_fits = omega (arith, whole_points in_range list good_points, places_enough (count list), out_room)
