-- None stands before `i`, and the rest decides.
use Rattle.std.proofs.Common.{◌≡◌, ◌+◌, drop}
use Rattle.words.specs.Line.{up_to}
use Rattle.words.proofs.line.up_to.Given as goal

abbrev pub invariant-loop-i : goal.invariant-loop-i
invariant-loop-i l = up_to l.b l.s ≡ l.i + up_to l.b (drop l.i l.s)
