-- What was read has room, and the next value begins in the text or right behind it.
use Rattle.std.proofs.Common.{◌+◌, ◌≤◌, length}
use Rattle.cases.proofs.lists.values_at.Given as goal

abbrev pub invariant-loop-i : goal.invariant-loop-i
invariant-loop-i g l = (l.n ≤ length l.to) × (l.at ≤ length l.text + 1)
