use Rattle.std.proofs.Common.{rules}
use Rattle.chart.proofs.Rows.{counted_more}
use Rattle.chart.proofs.counting.row_area.Goals as goal

pub loop-byte-preserved : goal.loop-byte-preserved
loop-byte-preserved c =
    let l = c.loop-byte in
    counted_more c.args.chart c.args.pixels.now c.args.y l.byte-index l.set l.invariant c.row_bytes.result _ c.ones-set.result c.row_bytes.ensures (search rules) c.ones-set.ensures
