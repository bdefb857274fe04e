-- Of the first rows, `counter` of them, the padding is cleared, and the row after them begins at `next`.
use Rattle.pbm.proofs.Clearing.{Clearing}
use Rattle.pbm.proofs.raw.clear_padding.Given as goal

abbrev pub invariant-loop : goal.invariant-loop
invariant-loop l = Clearing l.fn.chart l.fn.part l.row l.padding l.part l.next l.counter
