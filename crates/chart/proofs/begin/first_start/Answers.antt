use Rattle.std.proofs.Common.{rules}
use Rattle.chart.proofs.Rows.{good}
use Rattle.chart.proofs.begin.Starts.{next_row}
use Rattle.chart.proofs.begin.first_start.Goals as goal

pub first_in_row-requires : goal.first_in_row-requires
first_in_row-requires c = search (good, rules)

pub loop-y-preserved : goal.loop-y-preserved
loop-y-preserved c = search (next_row, rules)
