-- The first `i` bytes of the chart stand in `pixels`, `x` is the column at which the next one begins, and from `at` on stand the digits behind those
-- of these bytes.
use Rattle.pbm.proofs.Packing.{Packing}
use Rattle.pbm.proofs.plain.pack_rows.Given as goal

abbrev pub invariant-loop-i : goal.invariant-loop-i
invariant-loop-i l = Packing l.chart l.file l.from l.fn.pixels l.bytes l.pixels l.at l.x l.i
