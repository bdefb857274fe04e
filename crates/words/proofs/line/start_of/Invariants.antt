-- The word is the one at place `left` of what stands from `i` on.
use Rattle.std.proofs.Common.{◌≡◌, drop}
use Rattle.words.specs.Line.{word_of}
use Rattle.words.proofs.line.start_of.Given as goal

abbrev pub invariant-loop-i : goal.invariant-loop-i
invariant-loop-i l = word_of l.line l.k ≡ word_of (drop l.i l.line) l.left
