-- At each return the tests on the way pick a line of `areas_at_of`.
use Prim.Native.Nat.{ℕ, ◌<◌, ◌≤◌}
use mathlib.Core.Bool.{Bool, true, false}
use mathlib.Core.List.{List}
use mathlib.Core.Path.{◌≡◌, ap, ◌∙◌}
use native.Mathlib.Omega.{arith}
use lib.Ieee.{Float}
use lib.IntN.{ℤ}
use lib.ListN.{length, take}
use borrow.Author.Tests.{eq-eqb, ne_eqb, lt-ltb, le-ltb}
use Rattle.std.specs.Prelude.{Result, Ok, Err}
use Rattle.laws.specs.Lists.{over}
use Rattle.laws.specs.Outcome.{Outcome}
use Rattle.laws.proofs.Lists.{take_over_all}
use Rattle.point.specs.Limits.{in_range, bad_sq_tolerance}
use Rattle.point.specs.Outcomes.{list_refusal, verdict}
use Rattle.point.specs.Points.{points, count}
use Rattle.point.specs.declared.refusal.Refusal.{Refusal}
use Rattle.point.specs.declared.refusal.Refusal.TheVariants.{TooFew, BadTolerance, NoRoom}
use Rattle.split.specs.Tree.{marks_of}
use Rattle.split.specs.Visits.{counted_marks}
use Rattle.split.proofs.Claims.{a_mark_for_each_point, marks_over}
use Rattle.split.proofs.Fitting.{counted}
use Rattle.split.proofs.Shallow.{marks_are_counted}
use Rattle.reduce.proofs.Judged.{refused_list, few, good}
use Rattle.reduce.proofs.Reduction.{few_points}
use Rattle.areas.specs.Areas.{three_areas, ends_kept}
use Rattle.areas.specs.Calls.{areas_at_of}
use Rattle.areas.specs.declared.Areas.{Areas}
use Rattle.areas.proofs.Ends.{ends_are_kept}
use Rattle.areas.proofs.lists.areas_at.Goals as goal

module _ (list : List ℤ) (tolerance : Float) (marks : List ℕ)
    (v : Result Unit Refusal) (j : v ≡ verdict (list_refusal in_range list)) (u : Unit) (e : v ≡ Ok u) where
  few_enough : count list ≤ 4096
  few_enough = few_points list (few list v j u e)

  none : count list ≡ 0 → record { answer = Err TooFew; out = marks } ≡ areas_at_of list tolerance marks
  unfolding areas_at_of
  none z = rw (few list v j u e, good list v j u e, eq-eqb _ _ z)

  module _ (some : count list ≡ 0 → ⊥) (wrong : Bool) (w : wrong ≡ bad_sq_tolerance tolerance) where
    bad_tolerance : wrong ≡ true → record { answer = Err BadTolerance; out = marks } ≡ areas_at_of list tolerance marks
    unfolding areas_at_of
    bad_tolerance g = rw (few list v j u e, good list v j u e, ne_eqb _ _ some, ← w, g)

    module _ (g : wrong ≡ false) where
      no_marks : length marks < count list → record { answer = Err NoRoom; out = marks } ≡ areas_at_of list tolerance marks
      unfolding areas_at_of
      no_marks l = rw (few list v j u e, good list v j u e, ne_eqb _ _ some, ← w, g, lt-ltb _ _ l)

      -- what is marked is what Douglas-Peucker marks
      module _ (l : count list ≤ length marks) (looks : ℕ) (now : List ℕ) (s : counted looks now ≡ counted_marks list tolerance marks) where
        each : length (marks_of tolerance list) ≡ count list
        each = a_mark_for_each_point list tolerance (omega arith)

        laid : now ≡ over (marks_of tolerance list) marks
        laid =
            ap (λ (x : Outcome ℕ (List ℕ)). x.out) (s ∙ marks_are_counted list few_enough tolerance marks l)
            ∙ marks_over list tolerance marks (omega arith) l

        front : take (count list) now ≡ marks_of tolerance list
        front = rw (laid, ← each) (take_over_all (marks_of tolerance list) marks)

        a_mark_each : length (take (count list) now) ≡ count list
        a_mark_each = ap length front ∙ each

        both_ends : ends_kept (take (count list) now) ≡ true
        both_ends = rw front (ends_are_kept list tolerance)

        done : (r : Areas) → r ≡ three_areas (take (count list) now) (points list) → record { answer = Ok r; out = now } ≡ areas_at_of list tolerance marks
        unfolding areas_at_of
        done r is = rw (few list v j u e, good list v j u e, ne_eqb _ _ some, ← w, g, le-ltb _ _ l, is, front, laid)

pub returns-in_err-judge_points : goal.returns-in_err-judge_points
unfolding areas_at_of
returns-in_err-judge_points c =
    refused_list _ _ c.judge_points.ensures _ _ _ c.in_err-judge_points.was _ c.from_residual.ensures.1 (λ b. b)

pub returns-then-n-eq0 : goal.returns-then-n-eq0
returns-then-n-eq0 c = none _ _ _ _ c.judge_points.ensures _ c.in_ok-judge_points.was c.if-n-eq0.true

pub returns-then-bad_sq_tolerance : goal.returns-then-bad_sq_tolerance
returns-then-bad_sq_tolerance c =
    bad_tolerance _ _ _ _ c.judge_points.ensures _ c.in_ok-judge_points.was c.if-n-eq0.false _ c.bad_sq_tolerance.ensures c.if-bad_sq_tolerance.true

pub returns-then-marks-n : goal.returns-then-marks-n
returns-then-marks-n c =
    no_marks _ _ _ _ c.judge_points.ensures _ c.in_ok-judge_points.was c.if-n-eq0.false
    _ c.bad_sq_tolerance.ensures c.if-bad_sq_tolerance.false c.if-marks-n.true

pub add_up-requires : goal.add_up-requires
add_up-requires c = (
  good _ _ c.judge_points.ensures _ c.in_ok-judge_points.was,
  omega arith,
  few_points _ (few _ _ c.judge_points.ensures _ c.in_ok-judge_points.was),
  a_mark_each _ _ _ _ c.judge_points.ensures _ c.in_ok-judge_points.was c.if-n-eq0.false
      _ c.bad_sq_tolerance.ensures c.if-bad_sq_tolerance.false c.if-marks-n.false _ _ c.mark_waiting.ensures,
  both_ends _ _ _ _ c.judge_points.ensures _ c.in_ok-judge_points.was c.if-n-eq0.false
      _ c.bad_sq_tolerance.ensures c.if-bad_sq_tolerance.false c.if-marks-n.false _ _ c.mark_waiting.ensures,
)

pub returns : goal.returns
returns c =
    done _ _ _ _ c.judge_points.ensures _ c.in_ok-judge_points.was c.if-n-eq0.false
    _ c.bad_sq_tolerance.ensures c.if-bad_sq_tolerance.false c.if-marks-n.false _ _ c.mark_waiting.ensures _ c.add_up.ensures
