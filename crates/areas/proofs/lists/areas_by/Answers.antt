-- At each return the tests on the way pick a line of `areas_by_of`.
use Prim.Native.Nat.{ℕ, ◌<◌}
use mathlib.Core.Bool.{Bool, true, false, not}
use mathlib.Core.List.{List}
use mathlib.Core.Path.{◌≡◌, sym, ap, ◌∙◌}
use native.Mathlib.Omega.{arith}
use lib.Dec.{eqb}
use lib.IntN.{ℤ}
use lib.ListN.{length}
use borrow.Author.Tests.{eq-eqb, ne_eqb, eqb-true, not-false}
use Rattle.std.specs.List.{list_all}
use Rattle.std.specs.Prelude.{Result, Ok, Err}
use Rattle.laws.proofs.Joined.{both_false}
use Rattle.point.specs.Limits.{in_range, bad_flags, is_flag}
use Rattle.point.specs.Outcomes.{list_refusal, verdict}
use Rattle.point.specs.Points.{points, count}
use Rattle.point.specs.declared.refusal.Refusal.{Refusal}
use Rattle.point.specs.declared.refusal.Refusal.TheVariants.{TooFew, BadFlags}
use Rattle.reduce.proofs.Judged.{left_with, refusal_is, few, good}
use Rattle.reduce.proofs.Reduction.{few_points}
use Rattle.areas.specs.Areas.{three_areas, ends_kept}
use Rattle.areas.specs.Calls.{areas_by_of}
use Rattle.areas.specs.declared.Areas.{Areas}
use Rattle.areas.proofs.lists.areas_by.Goals as goal

module _ (list : List ℤ) (kept : List ℕ) (v : Result Unit Refusal) (j : v ≡ verdict (list_refusal in_range list)) where
  refused : (r : Refusal) → v ≡ Err r → Err r ≡ areas_by_of list kept
  unfolding areas_by_of
  refused r e = rw (refusal_is list v j _ r e (λ b. b))

  module _ (u : Unit) (e : v ≡ Ok u) where
    none : count list ≡ 0 → Err TooFew ≡ areas_by_of list kept
    unfolding areas_by_of
    none z = rw (few list v j u e, good list v j u e, eq-eqb _ _ z)

    module _ (some : count list ≡ 0 → ⊥) (wrong : Bool) (w : wrong ≡ bad_flags (count list) kept) where
      bad_flag : wrong ≡ true → Err BadFlags ≡ areas_by_of list kept
      unfolding areas_by_of
      bad_flag g = rw (few list v j u e, good list v j u e, ne_eqb _ _ some, ← w, g)

      module _ (g : wrong ≡ false) where
        each : length kept ≡ count list
        each =
            eqb-true (length kept) (count list)
            (not-false (eqb (length kept) (count list)) (both_false (not (eqb (length kept) (count list))) (not (list_all is_flag kept)) (sym w ∙ g)).0)

        flag_there : 0 < length kept
        flag_there = omega (arith, each)

        module _ (ends : Bool) (k : ends ≡ ends_kept kept) where
          an_end_dropped : ends ≡ false → Err BadFlags ≡ areas_by_of list kept
          unfolding areas_by_of
          an_end_dropped t = rw (few list v j u e, good list v j u e, ne_eqb _ _ some, ← w, g, ← k, t)

          done : ends ≡ true → (r : Areas) → r ≡ three_areas kept (points list) → Ok r ≡ areas_by_of list kept
          unfolding areas_by_of
          done t r is = rw (few list v j u e, good list v j u e, ne_eqb _ _ some, ← w, g, ← k, t) (ap Ok is)

pub returns-in_err-judge_points : goal.returns-in_err-judge_points
returns-in_err-judge_points c = left_with _ _ c.from_residual.ensures.1 ∙ refused _ _ _ c.judge_points.ensures _ c.in_err-judge_points.was

pub returns-then-n-eq0 : goal.returns-then-n-eq0
returns-then-n-eq0 c = none _ _ _ c.judge_points.ensures _ c.in_ok-judge_points.was c.if-n-eq0.true

pub returns-then-bad_flags : goal.returns-then-bad_flags
returns-then-bad_flags c =
    bad_flag _ _ _ c.judge_points.ensures _ c.in_ok-judge_points.was c.if-n-eq0.false _ c.bad_flags.ensures c.if-bad_flags.true

pub ends_kept-requires : goal.ends_kept-requires
ends_kept-requires c =
    flag_there _ _ _ c.judge_points.ensures _ c.in_ok-judge_points.was c.if-n-eq0.false _ c.bad_flags.ensures c.if-bad_flags.false

pub returns-then-not-ends_kept : goal.returns-then-not-ends_kept
returns-then-not-ends_kept c =
    an_end_dropped _ _ _ c.judge_points.ensures _ c.in_ok-judge_points.was c.if-n-eq0.false _ c.bad_flags.ensures c.if-bad_flags.false
    _ c.ends_kept.ensures c.if-not-ends_kept.true

pub add_up-requires : goal.add_up-requires
add_up-requires c = (
  good _ _ c.judge_points.ensures _ c.in_ok-judge_points.was,
  omega arith,
  few_points _ (few _ _ c.judge_points.ensures _ c.in_ok-judge_points.was),
  each _ _ _ c.judge_points.ensures _ c.in_ok-judge_points.was c.if-n-eq0.false _ c.bad_flags.ensures c.if-bad_flags.false,
  sym c.ends_kept.ensures ∙ c.if-not-ends_kept.false,
)

pub returns : goal.returns
returns c =
    done _ _ _ c.judge_points.ensures _ c.in_ok-judge_points.was c.if-n-eq0.false _ c.bad_flags.ensures c.if-bad_flags.false
    _ c.ends_kept.ensures c.if-not-ends_kept.false _ c.add_up.ensures
