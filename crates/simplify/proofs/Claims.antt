-- What follows of the contract, for its readers and its callers. Assumes nothing.
use mathlib.Core.Bool.{Bool}
use mathlib.Core.List.{List}
use mathlib.Core.Path.{◌≡◌, refl, ap}
use native.Mathlib.Omega.{arith}
use lib.IntN.{ℤ}
use lib.ListN.{length}
use Rattle.point.specs.Points.{points}
use Rattle.std.specs.Prelude.{Err}
use Rattle.point.specs.declared.refusal.Refusal.{Refusal}
use Rattle.point.proofs.Flat.{length_points}
use Rattle.point.specs.Outcomes.{Points, refusal, verdict}
use Rattle.point.proofs.Claims.{Fitting, passed_unchanged, passed_fitting}
use Rattle.point.proofs.Verdicts.{list_fits, places}
use Rattle.simplify.specs.Staircase.{remove_staircase, staircase_of}
use Rattle.simplify.proofs.Outward.{staircase_shorter, staircase_places}
use Rattle.simplify.proofs.staircase.remove_staircase.Reads.{Post as RemoveStaircase}
use Rattle.simplify.specs.Penalties.{limit_penalties, penalties_of}
use Rattle.simplify.proofs.Costly.{limit_fits}
use Rattle.simplify.proofs.penalties.limit_penalties.Reads.{Post as LimitPenalties}
use Rattle.simplify.specs.Simplify.{simplify_of}
use Rattle.simplify.proofs.paths.simplify.Reads.{Post as Simplify}
use Rattle.laws.proofs.Determined.{Determined, same}

-- ---- Each contract leaves no choice: to lists and buffers of the same contents it allows one answer, and one last content of the buffer.
-- `Post` is the contract itself, as Rattle reads it off the source, at arguments `a`, a result `r` and parameters at exit `s`.

pub remove_staircase_determined : Determined (List ℤ × Bool × List ℤ) Points RemoveStaircase
    (λ _ a. (a.0.now, a.1.0, a.1.1.0.now))
    (λ _ r s. record { answer = r; out = s.1.1.0.now })
remove_staircase_determined = same (λ x. staircase_of x.0 x.1 x.2) (λ _ a r s p. p)

pub limit_penalties_determined : Determined (List ℤ × List ℤ) Points LimitPenalties
    (λ _ a. (a.0.now, a.1.0.now))
    (λ _ r s. record { answer = r; out = s.1.0.now })
limit_penalties_determined = same (λ x. penalties_of x.0 x.1) (λ _ a r s p. p)

pub simplify_determined : Determined (List ℤ × Bool × List ℤ) Points Simplify
    (λ _ a. (a.0.now, a.1.0, a.1.1.0.now))
    (λ _ r s. record { answer = r; out = s.1.1.0.now })
simplify_determined = same (λ x. simplify_of x.0 x.1 x.2) (λ _ a r s p. p)

-- ---- what callers cite: a refusal changes nothing, what is counted fits the buffer, and the buffer keeps its length

module _ (list out : List ℤ) (clockwise : Bool) where
  pub remove_staircase_unchanged : (r : Refusal) → (staircase_of list clockwise out).answer ≡ Err r → (staircase_of list clockwise out).out ≡ out
  unfolding staircase_of
  remove_staircase_unchanged r = passed_unchanged list (remove_staircase clockwise (points list)) out r

  pub remove_staircase_fits : Fitting (staircase_of list clockwise out) out
  unfolding staircase_of
  remove_staircase_fits =
      passed_fitting list (remove_staircase clockwise (points list)) out
      (λ e. omega (arith, staircase_shorter clockwise (points list), length_points list, list_fits list (length out) (verdict (refusal list (length out))) refl (ap verdict e)))

module _ (list out : List ℤ) where
  pub limit_penalties_unchanged : (r : Refusal) → (penalties_of list out).answer ≡ Err r → (penalties_of list out).out ≡ out
  unfolding penalties_of
  limit_penalties_unchanged r = passed_unchanged list (limit_penalties (points list)) out r

  pub limit_penalties_fits : Fitting (penalties_of list out) out
  unfolding penalties_of
  limit_penalties_fits =
      passed_fitting list (limit_penalties (points list)) out
      (λ e. omega (arith, rw (length_points list) at (limit_fits (points list)), places list (length out) (verdict (refusal list (length out))) refl (ap verdict e)))

module _ (list out : List ℤ) (clockwise : Bool) where
  pub simplify_unchanged : (r : Refusal) → (simplify_of list clockwise out).answer ≡ Err r → (simplify_of list clockwise out).out ≡ out
  unfolding simplify_of
  simplify_unchanged r = passed_unchanged list (limit_penalties (remove_staircase clockwise (points list))) out r

  pub simplify_fits : Fitting (simplify_of list clockwise out) out
  unfolding simplify_of
  simplify_fits =
      passed_fitting list (limit_penalties (remove_staircase clockwise (points list))) out
      (λ e. omega (arith, limit_fits (remove_staircase clockwise (points list)), staircase_places clockwise list, places list (length out) (verdict (refusal list (length out))) refl (ap verdict e)))
