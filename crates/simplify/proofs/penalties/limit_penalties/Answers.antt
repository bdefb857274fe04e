-- A refusal is handed on, and else the points that are left are.
use Prim.Native.Nat.{ℕ, ◌*◌, ◌≤◌}
use mathlib.Core.List.{List}
use mathlib.Core.Path.{◌≡◌}
use native.Mathlib.Omega.{arith}
use lib.IntN.{ℤ}
use lib.ListN.{length}
use borrow.Author.Rules.{rules}
use Rattle.std.specs.Prelude.{Result, Ok, Err}
use Rattle.point.specs.Points.{points}
use Rattle.point.specs.declared.refusal.Refusal.{Refusal}
use Rattle.point.specs.inside.Written.{Handed}
use Rattle.point.specs.Outcomes.{refusal, verdict}
use Rattle.point.proofs.Flat.{length_points}
use Rattle.point.proofs.Verdicts.{good, places, refused_outcome, handed_outcome}
use Rattle.simplify.specs.Penalties.{limit_penalties, penalties_of}
use Rattle.simplify.proofs.Costly.{limit_fits}
use Rattle.simplify.proofs.penalties.limit_penalties.Goals as goal

module _ (list out : List ℤ) (v : Result Unit Refusal) (says : v ≡ verdict (refusal list (length out))) where
  refused : (r : Refusal) → v ≡ Err r → record { answer = Err r; out = out } ≡ penalties_of list out
  unfolding penalties_of
  refused r e = refused_outcome list out v says (limit_penalties (points list)) r e

  done : (n : ℕ) (last : List ℤ) → v ≡ Ok tt → Handed (limit_penalties (points list)) out n last → record { answer = Ok n; out = last } ≡ penalties_of list out
  unfolding penalties_of
  done n last e h = handed_outcome list out v says (limit_penalties (points list)) e n last h

  fits : v ≡ Ok tt → length (limit_penalties (points list)) * 2 ≤ length out
  fits e = omega (arith, places list (length out) v says e, rw (length_points list) at (limit_fits (points list)))

pub returns-in_err-judge : goal.returns-in_err-judge
returns-in_err-judge c =
    let e : c.from_residual.result ≡ Err c.in_err-judge.field-0.0 = search rules in
    rw e (refused _ _ _ c.judge.ensures _ c.in_err-judge.was)

pub keep_costly-requires : goal.keep_costly-requires
keep_costly-requires c = search (good, fits, rules)

pub returns : goal.returns
unfolding penalties_of
returns c = search (done, rules)
