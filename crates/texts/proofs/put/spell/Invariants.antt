-- The digits of `rest` that are left to put, and what stands behind them, are what is to stand there in the end.
use Rattle.std.proofs.Common.{◌≡◌, ◌++◌, drop, length}
use Rattle.texts.specs.Text.{low_digits}
use Rattle.texts.proofs.put.spell.Given as goal

abbrev pub invariant-loop-i : goal.invariant-loop-i
invariant-loop-i l = low_digits l.base l.i l.rest ++ drop l.i l.out ≡ low_digits l.base (length l.out) l.n
