-- `survey` is safe and ends: the buffers stay as long as they were, and each read brings bytes or is the last.
use Rattle.std.proofs.Common.{◌≡◌, ◌+◌, ◌-◌, ◌≤◌, length}
use Rattle.chart.specs.Pixels.{one}
use Rattle.survey.proofs.survey.Given as goal

abbrev pub invariant-loop-input : goal.invariant-loop-input
invariant-loop-input l =
    (length l.input ≡ length l.initial.input) × (length l.output ≡ length l.initial.output) × (l.held ≤ length l.initial.input)

abbrev pub decreases-loop-input : goal.decreases-loop-input
decreases-loop-input l = length l.initial.input - l.held + one l.more
