-- At each return the tests on the way pick a line of `counted_numbered_of`.
use Prim.Native.Nat.{ℕ, ◌<◌, ◌≤◌}
use mathlib.Core.List.{List}
use mathlib.Core.Path.{◌≡◌, ap, ◌∙◌}
use native.Mathlib.Omega.{arith}
use lib.Ieee.{Float, lt}
use lib.IntN.{ℤ}
use lib.ListN.{length}
use borrow.Author.Tests.{eq-eqb, ne_eqb, lt-ltb, le-ltb}
use Rattle.std.specs.Prelude.{Result, Ok, Err}
use Rattle.laws.specs.Lists.{over}
use Rattle.laws.specs.Outcome.{Outcome}
use Rattle.point.specs.Limits.{in_range, places_for}
use Rattle.point.specs.Outcomes.{list_refusal, verdict}
use Rattle.point.specs.Points.{count}
use Rattle.point.specs.declared.refusal.Refusal.{Refusal}
use Rattle.point.specs.declared.refusal.Refusal.TheVariants.{TooFew, NoRoom}
use Rattle.point.proofs.Room.{places_enough}
use Rattle.split.specs.Distance.{zero64}
use Rattle.split.specs.Tree.{numbers_of, tree}
use Rattle.split.specs.Visits.{visits, counted_numbers}
use Rattle.split.proofs.Claims.{numbers_over}
use Rattle.split.proofs.Fitting.{counted}
use Rattle.split.proofs.Shallow.{numbers_are_counted, numbers_look_as_often_as_at_zero}
use Rattle.reduce.specs.Numbers.{counted_numbered_of}
use Rattle.reduce.proofs.Judged.{refused_list, few, good}
use Rattle.reduce.proofs.Reduction.{few_points}
use Rattle.reduce.proofs.numbering.numbers_counted.Goals as goal

module _ (list : List ℤ) (out : List Float) (v : Result Unit Refusal) (j : v ≡ verdict (list_refusal in_range list)) (u : Unit) (e : v ≡ Ok u) where
  none : count list ≡ 0 → record { answer = Err TooFew; out = out } ≡ counted_numbered_of list out
  unfolding counted_numbered_of
  none z = rw (few list v j u e, good list v j u e, eq-eqb _ _ z)

  module _ (some : count list ≡ 0 → ⊥) (places : ℕ) (p : places ≡ places_for (count list)) where
    no_room : length out < places → record { answer = Err NoRoom; out = out } ≡ counted_numbered_of list out
    unfolding counted_numbered_of
    no_room h = rw (few list v j u e, good list v j u e, ne_eqb _ _ some, ← p, lt-ltb _ _ h)

    done : places ≤ length out → (r : ℕ) (now : List Float) → counted r now ≡ counted_numbers list out
        → record { answer = Ok (record { points = count list; distances = r }); out = now } ≡ counted_numbered_of list out
    unfolding counted_numbered_of
    done h r now s =
        let o : 0 < count list = omega arith in
        let m : count list ≤ 4096 = few_points list (few list v j u e) in
        let l : count list ≤ length out = omega (arith, places_enough (count list)) in
        let both = s ∙ numbers_are_counted list m out l in
        let is : now ≡ over (numbers_of list) out = ap (λ (x : Outcome ℕ (List Float)). x.out) both ∙ numbers_over list out o l in
        let looks : r ≡ visits (lt zero64) (tree list) =
        ap (λ (x : Outcome ℕ (List Float)). x.answer) both ∙ numbers_look_as_often_as_at_zero list (good list v j u e)
        in
        rw (few list v j u e, good list v j u e, ne_eqb _ _ some, ← p, le-ltb _ _ h, is, looks)

pub returns-in_err-judge_points : goal.returns-in_err-judge_points
unfolding counted_numbered_of
returns-in_err-judge_points c =
    refused_list _ _ c.judge_points.ensures _ _ _ c.in_err-judge_points.was _ c.from_residual.ensures.1 (λ b. b)

pub returns-then-n-eq0 : goal.returns-then-n-eq0
returns-then-n-eq0 c = none _ _ _ c.judge_points.ensures _ c.in_ok-judge_points.was c.if-n-eq0.true

pub returns-then-out-places_for : goal.returns-then-out-places_for
returns-then-out-places_for c =
    no_room _ _ _ c.judge_points.ensures _ c.in_ok-judge_points.was c.if-n-eq0.false _ c.places_for.ensures c.if-out-places_for.true

pub returns : goal.returns
returns c =
    done _ _ _ c.judge_points.ensures _ c.in_ok-judge_points.was c.if-n-eq0.false _ c.places_for.ensures c.if-out-places_for.false _ _
    c.number_waiting-distances.ensures
