-- At each return the tests on the way pick a line of `twice_area_of`.
use mathlib.Core.Path.{◌≡◌, ap, ◌∙◌}
use mathlib.Core.List.{List}
use mir.Syntax.{w64}
use mir.Val.{SFits, of_z, to_z}
use mir.ValLaws.{to_z-of_z}
use lib.IntN.{ℤ}
use Rattle.std.proofs.Common.{rules}
use Rattle.std.specs.Prelude.{Result, Ok, Err}
use Rattle.point.specs.Limits.{in_range}
use Rattle.point.specs.Outcomes.{list_refusal, verdict}
use Rattle.point.specs.Points.{points}
use Rattle.point.specs.declared.refusal.Refusal.{Refusal}
use Rattle.reduce.proofs.Judged.{left_with, refusal_is, few, good}
use Rattle.reduce.proofs.Reduction.{few_points}
use Rattle.areas.specs.Areas.{twice_area}
use Rattle.areas.specs.Calls.{twice_area_of}
use Rattle.areas.proofs.lists.twice_area.Goals as goal

module _ (list : List ℤ) (v : Result Unit Refusal) (j : v ≡ verdict (list_refusal in_range list)) where
  refused : (r : Refusal) → v ≡ Err r → Err r ≡ twice_area_of list
  unfolding twice_area_of
  refused r e = rw (refusal_is list v j _ r e (λ b. b))

  done : (u : Unit) → v ≡ Ok u → (r : ℤ) → r ≡ twice_area (points list) → SFits w64 r → Ok (to_z w64 (of_z w64 r)) ≡ twice_area_of list
  unfolding twice_area_of
  done u e r is fits = rw (few list v j u e, good list v j u e) (ap Ok (to_z-of_z w64 r fits ∙ is))

pub returns-in_err-judge_points : goal.returns-in_err-judge_points
returns-in_err-judge_points c = left_with _ _ c.from_residual.ensures.1 ∙ refused _ _ c.judge_points.ensures _ c.in_err-judge_points.was

pub area-requires : goal.area-requires
area-requires c =
    (good _ _ c.judge_points.ensures _ c.in_ok-judge_points.was, few_points _ (few _ _ c.judge_points.ensures _ c.in_ok-judge_points.was))

pub returns : goal.returns
returns c = search (done, rules)
