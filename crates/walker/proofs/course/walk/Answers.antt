use Rattle.std.proofs.Common.{rules}
use Rattle.walker.proofs.course.Returns.{full_out, done_out}
use Rattle.walker.proofs.course.walk.Goals as goal

pub returns-then-out-points : goal.returns-then-out-points
returns-then-out-points c =
    full_out c.args.chart c.args.pixels.now c.args.clockwise c.args.start c.args.out.now _ _ c.bad_chart.ensures c.in_range.ensures c.if-bad_chart.false c.if-not-in_range.false
    c.in_ok-way.way (search rules) c.in_ok-points.points (search rules) c.if-out-points.true

pub returns : goal.returns
returns c =
    done_out c.args.chart c.args.pixels.now c.args.clockwise c.args.start c.args.out.now _ _ c.bad_chart.ensures c.in_range.ensures c.if-bad_chart.false c.if-not-in_range.false
    c.in_ok-way.way (search rules) c.in_ok-points.points (search rules) c.if-out-points.false c.write.new.out c.write.ensures
