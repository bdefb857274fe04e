-- `answer_all` is safe: the buffers stay as long as they were.
use Rattle.std.proofs.Common.{◌≡◌, length}
use Rattle.cases.proofs.answer_all.Given as goal

abbrev pub invariant-loop : goal.invariant-loop
invariant-loop l = (length l.input ≡ length l.initial.input) × (length l.output ≡ length l.initial.output)
