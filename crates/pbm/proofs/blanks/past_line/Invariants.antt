-- What is left behind the line's end is the same from `i` on.
use Rattle.std.proofs.Common.{◌≡◌, drop}
use Rattle.pbm.specs.Header.{past_line}
use Rattle.pbm.proofs.blanks.past_line.Given as goal

abbrev pub invariant-loop-i : goal.invariant-loop-i
invariant-loop-i l = past_line (drop l.from l.file) ≡ past_line (drop l.i l.file)
