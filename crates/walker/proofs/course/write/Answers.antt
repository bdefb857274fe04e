use Rattle.std.proofs.Common.{rules}
use Rattle.walker.proofs.course.Writing.{write_first, write_last, write_on}
use Rattle.walker.proofs.course.write.Goals as goal

pub loop-chart-init : goal.loop-chart-init
loop-chart-init c = search (write_first, rules)

pub returns-then-is_on : goal.returns-then-is_on
returns-then-is_on c = search (write_last, rules)

pub loop-chart-preserved : goal.loop-chart-preserved
loop-chart-preserved c =
    let l = c.loop-chart in
    write_on c.args.chart c.args.pixels.now c.args.clockwise c.args.start c.args.way c.args.out.now c.requires.0 c.requires.2 l.out l.pen l.i l.invariant
    c.run-pen.result c.run-pen.ensures c.is_on.result c.is_on.ensures c.put-in-loop-chart.new.out (search rules) c.if-is_on.false
