-- Each refusal in its order, and else the flags.
use Prim.Native.Nat.{ℕ, ◌/◌, ◌<◌, ◌≤◌}
use mathlib.Core.Bool.{Bool, true, false}
use mathlib.Core.List.{List}
use mathlib.Core.Option.{Option, some, none}
use mathlib.Core.Path.{◌≡◌}
use lib.IntN.{ℤ}
use lib.ListN.{length}
use borrow.Author.Rules.{rules}
use borrow.Author.Tests.{eq-eqb, ne_eqb, lt-ltb, le-ltb}
use Rattle.std.specs.Prelude.{Result, Ok, Err}
use Rattle.laws.specs.Lists.{over}
use Rattle.point.specs.Limits.{too_many, in_range, bad_points}
use Rattle.point.specs.Outcomes.{list_refusal, verdict, outcome}
use Rattle.point.specs.Points.{seen}
use Rattle.point.specs.Refusals.{refuse◌when◌or◌}
use Rattle.point.specs.declared.refusal.Refusal.{Refusal}
use Rattle.point.specs.declared.refusal.Refusal.TheVariants.{TooMany, BadPoint, TooFew, BadSettings, NoRoom}
use Rattle.point.proofs.Verdicts.{refused_is, fine_is, passes}
use Rattle.corners.specs.declared.Pair.{Pair}
use Rattle.corners.specs.Corners.{corners_of}
use Rattle.corners.specs.Calls.{fair, find_corners_of}
use Rattle.corners.proofs.flags.find_corners.Goals as goal

-- the tests of the list alone come first
first_tests : (t u : Bool) (r : Refusal) (rest : Option Refusal) → (refuse TooMany when t or refuse BadPoint when u or none) ≡ some r →
    (refuse TooMany when t or refuse BadPoint when u or rest) ≡ some r
first_tests true u r rest e = e
first_tests false true r rest e = e
first_tests false false r rest e = cc

module _ (list : List ℤ) (pair : Pair) (closed : Bool) (flags : List ℕ) (v : Result Unit Refusal) (says : v ≡ verdict (list_refusal in_range list)) where
  refused : (r : Refusal) → v ≡ Err r → record { answer = Err r; out = flags } ≡ find_corners_of list pair closed flags
  unfolding find_corners_of outcome
  refused r e = rw (first_tests (too_many (length list)) (bad_points list) r _ (refused_is v (list_refusal in_range list) r says e))

  module _ (fine : v ≡ Ok tt) where
    first : (too_many (length list) ≡ false) × ((refuse BadPoint when bad_points list or none) ≡ none)
    first = passes TooMany (too_many (length list)) (refuse BadPoint when bad_points list or none) (fine_is v (list_refusal in_range list) says fine)

    good : bad_points list ≡ false
    good = (passes BadPoint (bad_points list) none first.1).0

    too_few : length list / 2 ≡ 0 → record { answer = Err TooFew; out = flags } ≡ find_corners_of list pair closed flags
    unfolding find_corners_of
    too_few z = rw (first.0, good, eq-eqb (length list / 2) 0 z)

    module _ (some_points : length list / 2 ≡ 0 → ⊥) (ok : Bool) where
      bad_settings_lem : ok ≡ false → ok ≡ fair pair → record { answer = Err BadSettings; out = flags } ≡ find_corners_of list pair closed flags
      unfolding find_corners_of
      bad_settings_lem g so = rw (first.0, good, ne_eqb (length list / 2) 0 some_points, ← so, g)

      module _ (g : ok ≡ true) (so : ok ≡ fair pair) (m : ℕ) (em : m ≡ seen (length list / 2) closed) where
        no_room : length flags < m → record { answer = Err NoRoom; out = flags } ≡ find_corners_of list pair closed flags
        unfolding find_corners_of
        no_room h = rw (first.0, good, ne_eqb (length list / 2) 0 some_points, ← so, g, ← em, lt-ltb (length flags) m h)

        done : m ≤ length flags → (last : List ℕ) → last ≡ over (corners_of list pair closed) flags →
            record { answer = Ok m; out = last } ≡ find_corners_of list pair closed flags
        unfolding find_corners_of
        done h last l = rw (first.0, good, ne_eqb (length list / 2) 0 some_points, ← so, g, ← em, le-ltb (length flags) m h, l)

pub returns-in_err-judge_points : goal.returns-in_err-judge_points
returns-in_err-judge_points c =
    let e : c.from_residual.result ≡ Err c.in_err-judge_points.field-0.0 = search rules in
    rw e (refused _ _ _ _ _ c.judge_points.ensures _ c.in_err-judge_points.was)

pub returns-then-n-eq0 : goal.returns-then-n-eq0
returns-then-n-eq0 c = too_few _ _ _ _ _ c.judge_points.ensures c.in_ok-judge_points.was c.if-n-eq0.true

pub returns-then-not-fine : goal.returns-then-not-fine
returns-then-not-fine c = bad_settings_lem _ _ _ _ _ c.judge_points.ensures c.in_ok-judge_points.was c.if-n-eq0.false _ c.if-not-fine.true (search rules)

pub returns-then-flags-m : goal.returns-then-flags-m
returns-then-flags-m c =
    no_room _ _ _ _ _ c.judge_points.ensures c.in_ok-judge_points.was c.if-n-eq0.false _ c.if-not-fine.false (search rules) _ c.seen-m.ensures c.if-flags-m.true

pub returns : goal.returns
returns c =
    done _ _ _ _ _ c.judge_points.ensures c.in_ok-judge_points.was c.if-n-eq0.false _ c.if-not-fine.false (search rules) _ c.seen-m.ensures c.if-flags-m.false _ c.write.ensures
