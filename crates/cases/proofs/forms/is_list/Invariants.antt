-- The next value begins in the word.
use Rattle.std.proofs.Common.{◌≤◌, length}
use Rattle.cases.proofs.forms.is_list.Given as goal

abbrev pub invariant-loop : goal.invariant-loop
invariant-loop g l = l.at ≤ length l.word
