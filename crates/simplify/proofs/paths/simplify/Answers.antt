-- A refusal is handed on, and else the second pass is handed what the first one left, which is not refused.
use Prim.Native.Nat.{ℕ, ◌*◌, ◌≤◌}
use mathlib.Core.Bool.{Bool}
use mathlib.Core.List.{List}
use mathlib.Core.Path.{◌≡◌, ap, ◌∙◌}
use native.Mathlib.Omega.{arith}
use mir.Syntax.{w64}
use mir.Val.{Fits}
use lib.IntN.{ℤ}
use lib.ListN.{length, take}
use borrow.Author.Rules.{rules}
use Rattle.std.specs.Prelude.{Result, Ok, Err}
use Rattle.point.specs.Points.{points}
use Rattle.point.specs.declared.refusal.Refusal.{Refusal}
use Rattle.point.specs.Outcomes.{refusal, verdict, passed}
use Rattle.point.proofs.Flat.{points_flat}
use Rattle.point.proofs.Verdicts.{fine_is, refused_outcome}
use Rattle.simplify.specs.Staircase.{remove_staircase, staircase_of}
use Rattle.simplify.specs.Penalties.{limit_penalties, penalties_of}
use Rattle.simplify.specs.Simplify.{simplify_of}
use Rattle.simplify.proofs.Between.{second_goes_on, not_err, kept_short, middle}
use Rattle.simplify.proofs.paths.simplify.Goals as goal

-- what the first pass leaves fits its list
module _ (list : List ℤ) (clockwise : Bool) (room : ℕ) (v : Result Unit Refusal) (says : v ≡ verdict (refusal list room)) (fine : v ≡ Ok tt)
    (answer : Result ℕ Refusal) (old between : List ℤ) (first : record { answer = answer; out = between } ≡ staircase_of list clockwise old)
    (kept : ℕ) (e : answer ≡ Ok kept) (long : length between ≡ 8192) where
  short : kept * 2 ≤ 8192
  short = kept_short list clockwise v room says fine answer old between first long kept e

  fits : Fits w64 (kept * 2)
  fits = record { fits = omega (arith, short) }

  within : kept * 2 ≤ length between
  within = omega (arith, short)

module _ (list out : List ℤ) (clockwise : Bool) (v : Result Unit Refusal) (says : v ≡ verdict (refusal list (length out))) where
  refused : (r : Refusal) → v ≡ Err r → record { answer = Err r; out = out } ≡ simplify_of list clockwise out
  unfolding simplify_of
  refused r e = refused_outcome list out v says (limit_penalties (remove_staircase clockwise (points list))) r e

  -- the outcome of the second pass is that of both
  done : v ≡ Ok tt → (answer : Result ℕ Refusal) (old between : List ℤ) → record { answer = answer; out = between } ≡ staircase_of list clockwise old →
      (kept : ℕ) → answer ≡ Ok kept → length between ≡ 8192 → (r : Result ℕ Refusal) (last : List ℤ) →
      record { answer = r; out = last } ≡ penalties_of (take (kept * 2) between) out → record { answer = r; out = last } ≡ simplify_of list clockwise out
  unfolding simplify_of penalties_of
  done fine answer old between first kept e long r last second =
      let ps = remove_staircase clockwise (points list) in
      second
      ∙ ap (λ (l : List ℤ). passed l (limit_penalties (points l)) out) (middle list clockwise v (length out) says fine answer old between first long kept e)
      ∙ rw (second_goes_on list clockwise v (length out) says fine, points_flat ps, fine_is v (refusal list (length out)) says fine)

pub returns-in_err-judge : goal.returns-in_err-judge
returns-in_err-judge c =
    let e : c.from_residual.result ≡ Err c.in_err-judge.field-0.0 = search rules in
    rw e (refused _ _ _ _ c.judge.ensures _ c.in_err-judge.was)

pub returns-in_err-kept : goal.returns-in_err-kept
returns-in_err-kept c =
    absurd (not_err _ _ _ _ c.judge.ensures c.in_ok-judge.was _ _ _ c.remove_staircase.ensures (search rules) _ c.in_err-kept.was)

pub overflow_mul-between : goal.overflow_mul-between
overflow_mul-between c =
    fits _ _ _ _ c.judge.ensures c.in_ok-judge.was _ _ _ c.remove_staircase.ensures _ c.in_ok-kept.was (search rules)

pub slice_bounds-between-end : goal.slice_bounds-between-end
slice_bounds-between-end c =
    within _ _ _ _ c.judge.ensures c.in_ok-judge.was _ _ _ c.remove_staircase.ensures _ c.in_ok-kept.was (search rules)

pub slice_bounds-left-end : goal.slice_bounds-left-end
slice_bounds-left-end c =
    let h : c.in_ok-kept.kept * 2 ≤ length c.remove_staircase.new.out =
    within _ _ _ _ c.judge.ensures c.in_ok-judge.was _ _ _ c.remove_staircase.ensures _ c.in_ok-kept.was (search rules) in
    search rules

pub returns : goal.returns
returns c =
    done _ _ _ _ c.judge.ensures c.in_ok-judge.was _ _ _ c.remove_staircase.ensures _ c.in_ok-kept.was (search rules) _ _ (search rules)
