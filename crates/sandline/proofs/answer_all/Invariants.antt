-- `answer_all` is safe: what a step asks for lies in its buffers.
use Rattle.std.proofs.Common.{◌≤◌, ◌≡◌, length}
use Rattle.sandline.proofs.answer_all.Given as goal

abbrev pub invariant-loop : goal.invariant-loop
invariant-loop l =
    (length l.input ≡ length l.initial.input) × (length l.output ≡ length l.initial.output) × (l.state.waiting ≤ length l.output)
