-- The row is blank before this byte.
use Rattle.std.proofs.Common.{◌≡◌, ◌-◌, ◌*◌}
use Rattle.chart.specs.Start.{first_in_row}
use Rattle.chart.proofs.begin.first_in_row.Given as goal

abbrev pub invariant-loop-i : goal.invariant-loop-i
invariant-loop-i l = first_in_row l.chart l.pixels 0 l.y l.chart.width ≡ first_in_row l.chart l.pixels (l.i * 8) l.y (l.chart.width - l.i * 8)
