-- At each return the tests on the way pick a line of `counted_douglas_peucker_of`.
use Prim.Native.Nat.{ℕ, ◌/◌, ◌<◌, ◌≤◌}
use mathlib.Core.Bool.{Bool, true, false}
use mathlib.Core.List.{List}
use mathlib.Core.Path.{◌≡◌, ap, ◌∙◌}
use native.Mathlib.Omega.{arith}
use lib.Ieee.{Float, lt}
use lib.IntN.{ℤ}
use lib.ListN.{length}
use borrow.Author.Tests.{eq-eqb, ne_eqb, lt-ltb, le-ltb}
use Rattle.std.specs.Prelude.{Result, Ok, Err}
use Rattle.laws.specs.Lists.{over}
use Rattle.laws.specs.Outcome.{Outcome}
use Rattle.point.specs.Limits.{in_range, bad_sq_tolerance, places_for}
use Rattle.point.specs.Outcomes.{list_refusal, verdict}
use Rattle.point.specs.Points.{points, count}
use Rattle.point.specs.declared.refusal.Refusal.{Refusal}
use Rattle.point.specs.declared.refusal.Refusal.TheVariants.{TooFew, BadTolerance, NoRoom}
use Rattle.point.specs.inside.Written.{Handed}
use Rattle.point.proofs.Flat.{length_points}
use Rattle.point.proofs.Room.{too_short, long_enough}
use Rattle.split.specs.Tree.{marks_of, tree}
use Rattle.split.specs.Visits.{visits, counted_marks}
use Rattle.split.proofs.Claims.{a_mark_for_each_point, marks_over}
use Rattle.split.proofs.Fitting.{counted}
use Rattle.split.proofs.Shallow.{marks_are_counted}
use Rattle.reduce.specs.DouglasPeucker.{counted_douglas_peucker_of}
use Rattle.reduce.specs.Kept.{kept}
use Rattle.reduce.proofs.Judged.{refused_list, few, good}
use Rattle.reduce.proofs.Reduction.{few_points}
use Rattle.reduce.proofs.Select.{kept_over}
use Rattle.reduce.proofs.douglas_peucker.simplify_douglas_peucker_counted.Goals as goal

module _ (list : List ℤ) (tolerance : Float) (out : List ℤ) (marks : List ℕ)
    (v : Result Unit Refusal) (j : v ≡ verdict (list_refusal in_range list)) (u : Unit) (e : v ≡ Ok u) where
  none : count list ≡ 0 → record { answer = Err TooFew; out = (out, marks) } ≡ counted_douglas_peucker_of list tolerance out marks
  unfolding counted_douglas_peucker_of
  none z = rw (few list v j u e, good list v j u e, eq-eqb _ _ z)

  module _ (some : count list ≡ 0 → ⊥) (wrong : Bool) (w : wrong ≡ bad_sq_tolerance tolerance) where
    bad_tolerance : wrong ≡ true → record { answer = Err BadTolerance; out = (out, marks) } ≡ counted_douglas_peucker_of list tolerance out marks
    unfolding counted_douglas_peucker_of
    bad_tolerance g = rw (few list v j u e, good list v j u e, ne_eqb _ _ some, ← w, g)

    module _ (g : wrong ≡ false) (places : ℕ) (p : places ≡ places_for (count list)) where
      no_room : length out / 2 < places → record { answer = Err NoRoom; out = (out, marks) } ≡ counted_douglas_peucker_of list tolerance out marks
      unfolding counted_douglas_peucker_of
      no_room h = rw (few list v j u e, good list v j u e, ne_eqb _ _ some, ← w, g, ← p, too_short _ _ h)

      module _ (h : places ≤ length out / 2) where
        no_marks : length marks < count list → record { answer = Err NoRoom; out = (out, marks) } ≡ counted_douglas_peucker_of list tolerance out marks
        unfolding counted_douglas_peucker_of
        no_marks l = rw (few list v j u e, good list v j u e, ne_eqb _ _ some, ← w, g, ← p, long_enough _ _ h, lt-ltb _ _ l)

        done : count list ≤ length marks → (r : ℕ) (now : List ℕ) → counted r now ≡ counted_marks list tolerance marks → (n : ℕ) (last : List ℤ)
            → Handed (kept now (points list)) out n last
            → record { answer = Ok (record { points = n; distances = r }); out = (last, now) } ≡ counted_douglas_peucker_of list tolerance out marks
        unfolding counted_douglas_peucker_of
        done l r now s n last d =
            let o : 0 < count list = omega arith in
            let m : count list ≤ 4096 = few_points list (few list v j u e) in
            let each : length (marks_of tolerance list) ≡ count list = a_mark_for_each_point list tolerance o in
            let short : length (points list) ≤ length (marks_of tolerance list) = rw (length_points list, each) (omega arith) in
            let both = s ∙ marks_are_counted list m tolerance marks l in
            let is : now ≡ over (marks_of tolerance list) marks = ap (λ (x : Outcome ℕ (List ℕ)). x.out) both ∙ marks_over list tolerance marks o l in
            let looks : r ≡ visits (lt tolerance) (tree list) = ap (λ (x : Outcome ℕ (List ℕ)). x.answer) both in
            rw (
              few list v j u e,
              good list v j u e,
              ne_eqb _ _ some,
              ← w,
              g,
              ← p,
              long_enough _ _ h,
              le-ltb _ _ l,
              d.counted,
              d.written,
              is,
              looks,
              kept_over (marks_of tolerance list) marks (points list) short,
            )

pub returns-in_err-judge_points : goal.returns-in_err-judge_points
unfolding counted_douglas_peucker_of
returns-in_err-judge_points c =
    refused_list _ _ c.judge_points.ensures _ _ _ c.in_err-judge_points.was _ c.from_residual.ensures.1 (λ b. b)

pub returns-then-n-eq0 : goal.returns-then-n-eq0
returns-then-n-eq0 c = none _ _ _ _ _ c.judge_points.ensures _ c.in_ok-judge_points.was c.if-n-eq0.true

pub returns-then-bad_sq_tolerance : goal.returns-then-bad_sq_tolerance
returns-then-bad_sq_tolerance c =
    bad_tolerance _ _ _ _ _ c.judge_points.ensures _ c.in_ok-judge_points.was c.if-n-eq0.false _ c.bad_sq_tolerance.ensures c.if-bad_sq_tolerance.true

pub returns-then-out-places_for : goal.returns-then-out-places_for
returns-then-out-places_for c =
    no_room _ _ _ _ _ c.judge_points.ensures _ c.in_ok-judge_points.was c.if-n-eq0.false
    _ c.bad_sq_tolerance.ensures c.if-bad_sq_tolerance.false _ c.places_for.ensures c.if-out-places_for.true

pub returns-then-marks-n : goal.returns-then-marks-n
returns-then-marks-n c =
    no_marks _ _ _ _ _ c.judge_points.ensures _ c.in_ok-judge_points.was c.if-n-eq0.false
    _ c.bad_sq_tolerance.ensures c.if-bad_sq_tolerance.false _ c.places_for.ensures c.if-out-places_for.false c.if-marks-n.true

pub returns : goal.returns
returns c =
    done _ _ _ _ _ c.judge_points.ensures _ c.in_ok-judge_points.was c.if-n-eq0.false
    _ c.bad_sq_tolerance.ensures c.if-bad_sq_tolerance.false _ c.places_for.ensures c.if-out-places_for.false c.if-marks-n.false
    _ _ c.mark_waiting-distances.ensures _ _ c.keep_marked.ensures
