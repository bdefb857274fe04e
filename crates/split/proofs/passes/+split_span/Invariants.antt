-- The falling number of `split_span`: the length of the span.
use Rattle.std.proofs.Common.{◌-◌}
use Rattle.split.proofs.passes.+split_span.Given as goal

abbrev pub decreases-split_span : goal.decreases-split_span
decreases-split_span g l = l.last - l.first
