-- What is left behind the bytes from `i` on is what is left of all.
use Rattle.std.proofs.Common.{◌≡◌, false, drop}
use Rattle.pbm.specs.Header.{behind}
use Rattle.pbm.proofs.blanks.behind.Given as goal

abbrev pub invariant-loop-i : goal.invariant-loop-i
invariant-loop-i l = behind false (drop l.from l.file) ≡ behind l.comment (drop l.i l.file)
