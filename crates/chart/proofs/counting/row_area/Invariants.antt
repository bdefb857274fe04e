-- The bytes before this one are counted.
use Rattle.std.proofs.Common.{◌≡◌, ◌*◌}
use Rattle.chart.specs.Area.{row_area}
use Rattle.chart.proofs.counting.row_area.Given as goal

abbrev pub invariant-loop-byte : goal.invariant-loop-byte
invariant-loop-byte l = l.set ≡ row_area l.chart l.pixels (l.byte-index * 8) l.y
