-- A refusal is handed on, and else the points that are left are.
use Prim.Native.Nat.{ℕ}
use mathlib.Core.Bool.{Bool}
use mathlib.Core.List.{List}
use mathlib.Core.Path.{◌≡◌}
use lib.IntN.{ℤ}
use lib.ListN.{length}
use borrow.Author.Rules.{rules}
use Rattle.std.specs.Prelude.{Result, Ok, Err}
use Rattle.point.specs.Points.{points}
use Rattle.point.specs.declared.refusal.Refusal.{Refusal}
use Rattle.point.specs.inside.Written.{Handed}
use Rattle.point.specs.Outcomes.{refusal, verdict}
use Rattle.point.proofs.Verdicts.{good, list_fits, refused_outcome, handed_outcome}
use Rattle.simplify.specs.Staircase.{remove_staircase, staircase_of}
use Rattle.simplify.proofs.staircase.remove_staircase.Goals as goal

module _ (list out : List ℤ) (clockwise : Bool) (v : Result Unit Refusal) (says : v ≡ verdict (refusal list (length out))) where
  refused : (r : Refusal) → v ≡ Err r → record { answer = Err r; out = out } ≡ staircase_of list clockwise out
  unfolding staircase_of
  refused r e = refused_outcome list out v says (remove_staircase clockwise (points list)) r e

  done : (n : ℕ) (last : List ℤ) → v ≡ Ok tt → Handed (remove_staircase clockwise (points list)) out n last → record { answer = Ok n; out = last } ≡ staircase_of list clockwise out
  unfolding staircase_of
  done n last e h = handed_outcome list out v says (remove_staircase clockwise (points list)) e n last h

pub returns-in_err-judge : goal.returns-in_err-judge
returns-in_err-judge c =
    let e : c.from_residual.result ≡ Err c.in_err-judge.field-0.0 = search rules in
    rw e (refused _ _ _ _ c.judge.ensures _ c.in_err-judge.was)

pub keep_outward-requires : goal.keep_outward-requires
keep_outward-requires c = search (good, list_fits, rules)

pub returns : goal.returns
unfolding staircase_of
returns c = search (done, rules)
