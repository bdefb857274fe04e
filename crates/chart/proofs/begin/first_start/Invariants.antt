-- The rows before this one are blank.
use Rattle.std.proofs.Common.{◌≡◌, ◌-◌}
use Rattle.chart.specs.Start.{first_in_rows}
use Rattle.chart.proofs.begin.first_start.Given as goal

abbrev pub invariant-loop-y : goal.invariant-loop-y
invariant-loop-y l = first_in_rows l.chart l.pixels 0 l.chart.height ≡ first_in_rows l.chart l.pixels l.y (l.chart.height - l.y)
