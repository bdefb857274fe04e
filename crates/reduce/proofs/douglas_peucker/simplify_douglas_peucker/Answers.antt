-- It is the counted one, whose answer alone is handed on.
use Prim.Native.Nat.{ℕ}
use mathlib.Core.List.{List}
use mathlib.Core.Path.{◌≡◌, sym, ap, ◌∙◌}
use lib.Ieee.{Float}
use lib.IntN.{ℤ}
use Rattle.std.specs.Prelude.{Result}
use Rattle.point.specs.declared.refusal.Refusal.{Refusal}
use Rattle.reduce.specs.Answers.{answer_of}
use Rattle.reduce.specs.DouglasPeucker.{douglas_peucker_of, counted_douglas_peucker_of}
use Rattle.reduce.specs.declared.Counted.{Counted}
use Rattle.reduce.proofs.Judged.{left_with}
use Rattle.reduce.proofs.Uncounted.{uncounted, douglas_peucker_uncounted}
use Rattle.reduce.proofs.douglas_peucker.simplify_douglas_peucker.Goals as goal

handed_on : (list : List ℤ) (tolerance : Float) (out : List ℤ) (marks : List ℕ) (c : Result Counted Refusal) (last : List ℤ) (now : List ℕ) (r : Result ℕ Refusal)
    → record { answer = c; out = (last, now) } ≡ counted_douglas_peucker_of list tolerance out marks → r ≡ answer_of c
    → record { answer = r; out = (last, now) } ≡ douglas_peucker_of list tolerance out marks
handed_on list tolerance out marks c last now r e a = rw a (ap uncounted e ∙ douglas_peucker_uncounted list tolerance out marks)

pub returns-in_err-simplify_douglas_peucker_counted : goal.returns-in_err-simplify_douglas_peucker_counted
returns-in_err-simplify_douglas_peucker_counted c =
    handed_on _ _ _ _ _ _ _ _ c.simplify_douglas_peucker_counted.ensures
    (left_with _ _ c.from_residual.ensures.1 ∙ sym (ap answer_of c.in_err-simplify_douglas_peucker_counted.was))

pub returns : goal.returns
returns c = handed_on _ _ _ _ _ _ _ _ c.simplify_douglas_peucker_counted.ensures (sym (ap answer_of c.in_ok-simplify_douglas_peucker_counted.was))
