use Rattle.std.proofs.Common.{arith}
use Rattle.walker.proofs.course.Counting.{count_on}
use Rattle.walker.proofs.course.count.Goals as goal

pub loop-at-preserved : goal.loop-at-preserved
loop-at-preserved c =
    let l = c.loop-at in
    count_on c.args.chart c.args.pixels.now c.args.clockwise c.args.start c.args.way c.requires.0 l.at l.points l.invariant c.run-at.result c.run-at.ensures
    c.is_on.result c.is_on.ensures (omega arith) c.if-is_on.false
