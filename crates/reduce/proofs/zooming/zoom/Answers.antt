-- At each return the tests on the way pick a line of `zoom_of`.
use Prim.Native.Nat.{ℕ, ◌/◌, ◌<◌, ◌≤◌}
use mathlib.Core.Bool.{Bool, true, false, not, ◌||◌}
use mathlib.Core.List.{List}
use mathlib.Core.Path.{◌≡◌}
use lib.Dec.{eqb}
use lib.Ieee.{Float}
use lib.IntN.{ℤ}
use lib.ListN.{length}
use borrow.Author.Tests.{eq-eqb, ne_eqb}
use Rattle.std.specs.Prelude.{Result, Ok, Err}
use Rattle.point.specs.Limits.{in_range, bad_points, bad_sq_tolerance, places_for}
use Rattle.point.specs.Outcomes.{list_refusal, verdict}
use Rattle.point.specs.Points.{points, count}
use Rattle.point.specs.declared.refusal.Refusal.{Refusal}
use Rattle.point.specs.declared.refusal.Refusal.TheVariants.{BadPoint, TooFew, BadTolerance, NoRoom}
use Rattle.point.specs.inside.Written.{Handed}
use Rattle.point.proofs.Room.{too_short, long_enough}
use Rattle.reduce.specs.Kept.{kept}
use Rattle.reduce.specs.Zoom.{marks_by, zoom_of}
use Rattle.reduce.proofs.Judged.{refused_list, few, good}
use Rattle.reduce.proofs.zooming.zoom.Goals as goal

module _ (list : List ℤ) (numbers : List Float) (tolerance : Float) (out : List ℤ)
    (v : Result Unit Refusal) (j : v ≡ verdict (list_refusal in_range list)) (u : Unit) (e : v ≡ Ok u) where
  not_each : (length numbers ≡ count list → ⊥) → record { answer = Err BadPoint; out = out } ≡ zoom_of list numbers tolerance out
  unfolding zoom_of
  not_each n = rw (few list v j u e, good list v j u e, ne_eqb _ _ n)

  module _ (each : length numbers ≡ count list) where
    none : count list ≡ 0 → record { answer = Err TooFew; out = out } ≡ zoom_of list numbers tolerance out
    unfolding zoom_of
    none z = rw (few list v j u e, good list v j u e, eq-eqb _ _ each, eq-eqb _ _ z)

    module _ (some : count list ≡ 0 → ⊥) (wrong : Bool) (w : wrong ≡ bad_sq_tolerance tolerance) where
      bad_tolerance : wrong ≡ true → record { answer = Err BadTolerance; out = out } ≡ zoom_of list numbers tolerance out
      unfolding zoom_of
      bad_tolerance g = rw (few list v j u e, good list v j u e, eq-eqb _ _ each, ne_eqb _ _ some, ← w, g)

      module _ (g : wrong ≡ false) (places : ℕ) (p : places ≡ places_for (count list)) where
        no_room : length out / 2 < places → record { answer = Err NoRoom; out = out } ≡ zoom_of list numbers tolerance out
        unfolding zoom_of
        no_room h = rw (few list v j u e, good list v j u e, eq-eqb _ _ each, ne_eqb _ _ some, ← w, g, ← p, too_short _ _ h)

        done : places ≤ length out / 2 → (n : ℕ) (last : List ℤ) → Handed (kept (marks_by tolerance numbers) (points list)) out n last →
            record { answer = Ok n; out = last } ≡ zoom_of list numbers tolerance out
        unfolding zoom_of
        done h n last d =
            rw (few list v j u e, good list v j u e, eq-eqb _ _ each, ne_eqb _ _ some, ← w, g, ← p, long_enough _ _ h, d.counted, d.written)

pub returns-in_err-judge_points : goal.returns-in_err-judge_points
unfolding zoom_of
returns-in_err-judge_points c =
    refused_list _ _ c.judge_points.ensures {worse = bad_points c.args.points.now || not (eqb (length c.args.numbers.now) (count c.args.points.now))} _ _ _ c.in_err-judge_points.was _ c.from_residual.ensures.1 (λ b. rw b)

pub returns-then-numbers-n : goal.returns-then-numbers-n
returns-then-numbers-n c = not_each _ _ _ _ _ c.judge_points.ensures _ c.in_ok-judge_points.was c.if-numbers-n.true

pub returns-then-n-eq0 : goal.returns-then-n-eq0
returns-then-n-eq0 c = none _ _ _ _ _ c.judge_points.ensures _ c.in_ok-judge_points.was c.if-numbers-n.false c.if-n-eq0.true

pub returns-then-bad_sq_tolerance : goal.returns-then-bad_sq_tolerance
returns-then-bad_sq_tolerance c =
    bad_tolerance _ _ _ _ _ c.judge_points.ensures _ c.in_ok-judge_points.was c.if-numbers-n.false c.if-n-eq0.false
    _ c.bad_sq_tolerance.ensures c.if-bad_sq_tolerance.true

pub returns-then-out-places_for : goal.returns-then-out-places_for
returns-then-out-places_for c =
    no_room _ _ _ _ _ c.judge_points.ensures _ c.in_ok-judge_points.was c.if-numbers-n.false c.if-n-eq0.false
    _ c.bad_sq_tolerance.ensures c.if-bad_sq_tolerance.false _ c.places_for.ensures c.if-out-places_for.true

pub returns : goal.returns
returns c =
    done _ _ _ _ _ c.judge_points.ensures _ c.in_ok-judge_points.was c.if-numbers-n.false c.if-n-eq0.false
    _ c.bad_sq_tolerance.ensures c.if-bad_sq_tolerance.false _ c.places_for.ensures c.if-out-places_for.false _ _ c.keep_above.ensures
