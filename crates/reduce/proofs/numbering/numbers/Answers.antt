-- It is the counted one, whose answer alone is handed on.
use Prim.Native.Nat.{ℕ}
use mathlib.Core.List.{List}
use mathlib.Core.Path.{◌≡◌, sym, ap, ◌∙◌}
use lib.Ieee.{Float}
use lib.IntN.{ℤ}
use Rattle.std.specs.Prelude.{Result}
use Rattle.point.specs.declared.refusal.Refusal.{Refusal}
use Rattle.reduce.specs.Answers.{answer_of}
use Rattle.reduce.specs.Numbers.{numbered_of, counted_numbered_of}
use Rattle.reduce.specs.declared.Counted.{Counted}
use Rattle.reduce.proofs.Judged.{left_with}
use Rattle.reduce.proofs.Uncounted.{uncounted, numbers_uncounted}
use Rattle.reduce.proofs.numbering.numbers.Goals as goal

handed_on : (list : List ℤ) (out : List Float) (c : Result Counted Refusal) (last : List Float) (r : Result ℕ Refusal)
    → record { answer = c; out = last } ≡ counted_numbered_of list out → r ≡ answer_of c
    → record { answer = r; out = last } ≡ numbered_of list out
handed_on list out c last r e a = rw a (ap uncounted e ∙ numbers_uncounted list out)

pub returns-in_err-numbers_counted : goal.returns-in_err-numbers_counted
returns-in_err-numbers_counted c =
    handed_on _ _ _ _ _ c.numbers_counted.ensures
    (left_with _ _ c.from_residual.ensures.1 ∙ sym (ap answer_of c.in_err-numbers_counted.was))

pub returns : goal.returns
returns c = handed_on _ _ _ _ _ c.numbers_counted.ensures (sym (ap answer_of c.in_ok-numbers_counted.was))
