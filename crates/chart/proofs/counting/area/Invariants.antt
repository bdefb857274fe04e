-- The rows before this one are counted.
use Rattle.std.proofs.Common.{◌≡◌}
use Rattle.chart.specs.Area.{rows_area}
use Rattle.chart.proofs.counting.area.Given as goal

abbrev pub invariant-loop-y : goal.invariant-loop-y
invariant-loop-y l = l.set ≡ rows_area l.chart l.pixels l.y
