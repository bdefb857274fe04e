-- At each return the tests on the way pick a line of `reduce_of`.
use Prim.Native.Nat.{ℕ, ◌*◌}
use mathlib.Core.Bool.{Bool, true, false, ◌||◌}
use mathlib.Core.List.{List}
use mathlib.Core.Option as Option
use mathlib.Core.Path.{◌≡◌}
use lib.Dec.{ltb}
use lib.Ieee.{Float}
use lib.IntN.{ℤ}
use lib.ListN.{length}
use Rattle.std.proofs.Common.{rules}
use Rattle.std.specs.Prelude.{Result, Ok, Err}
use Rattle.point.specs.Limits.{in_range, bad_tolerance, places_for}
use Rattle.point.specs.Outcomes.{list_refusal, verdict}
use Rattle.point.specs.Points.{count}
use Rattle.point.specs.declared.refusal.Refusal.{Refusal}
use Rattle.point.specs.declared.refusal.Refusal.TheVariants.{BadTolerance, NoRoom}
use Rattle.reduce.specs.Reduce.{reduce_refusal, reduction, reduce_of}
use Rattle.reduce.proofs.Judged.{refused_list, few, good}
use Rattle.reduce.proofs.both_passes.reduce.Goals as goal

module _ (list : List ℤ) (tolerance : Float) (out scratch : List ℤ) (marks : List ℕ)
    (v : Result Unit Refusal) (j : v ≡ verdict (list_refusal in_range list)) (u : Unit) (e : v ≡ Ok u)
    (wrong : Bool) (w : wrong ≡ bad_tolerance tolerance) where
  wrong_tolerance : wrong ≡ true → record { answer = Err BadTolerance; out = (out, scratch, marks) } ≡ reduce_of list tolerance out scratch marks
  unfolding reduce_of
  wrong_tolerance g = rw (few list v j u e, good list v j u e, ← w, g)

  module _ (g : wrong ≡ false) (short : Bool)
      (s : short ≡ (ltb (length out) (places_for (count list) * 2) || ltb (length scratch) (count list * 2) || ltb (length marks) (count list))) where
    no_room : short ≡ true → record { answer = Err NoRoom; out = (out, scratch, marks) } ≡ reduce_of list tolerance out scratch marks
    unfolding reduce_of
    no_room h = rw (few list v j u e, good list v j u e, ← w, g, ← s, h)

    nothing_refused : short ≡ false → reduce_refusal list tolerance out scratch marks ≡ Option.none
    nothing_refused h = rw (few list v j u e, good list v j u e, ← w, g, ← s, h)

    answered : short ≡ false → (r : Result ℕ Refusal) (last after : List ℤ) (marked : List ℕ) →
        record { answer = r; out = (last, after, marked) } ≡ reduction list tolerance out scratch marks →
        record { answer = r; out = (last, after, marked) } ≡ reduce_of list tolerance out scratch marks
    unfolding reduce_of
    answered h r last after marked o = rw (few list v j u e, good list v j u e, ← w, g, ← s, h) o

pub returns-in_err-judge_points : goal.returns-in_err-judge_points
unfolding reduce_of
returns-in_err-judge_points c =
    refused_list _ _ c.judge_points.ensures _ _ _ c.in_err-judge_points.was _ c.from_residual.ensures.1 (λ b. b)

pub returns-then-bad_tolerance : goal.returns-then-bad_tolerance
returns-then-bad_tolerance c =
    wrong_tolerance _ _ _ _ _ _ c.judge_points.ensures _ c.in_ok-judge_points.was _ c.bad_tolerance.ensures c.if-bad_tolerance.true

pub returns-then-short : goal.returns-then-short
returns-then-short c = search (no_room, rules)

pub narrow-requires : goal.narrow-requires
narrow-requires c =
    nothing_refused _ _ _ _ _ _ c.judge_points.ensures _ c.in_ok-judge_points.was _ c.bad_tolerance.ensures c.if-bad_tolerance.false
    _ c.short.ensures c.if-short.false

pub returns : goal.returns
returns c =
    answered _ _ _ _ _ _ c.judge_points.ensures _ c.in_ok-judge_points.was _ c.bad_tolerance.ensures c.if-bad_tolerance.false
    _ c.short.ensures c.if-short.false _ _ _ _ c.narrow.ensures
