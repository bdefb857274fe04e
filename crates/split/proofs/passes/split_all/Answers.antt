-- What `split_all` leaves to show: the stores of the whole call are the answer, laid over the start of the buffer. Assumes nothing.
use Rattle.split.proofs.Buffers.{all_laid}
use Rattle.split.proofs.Passing.{no_values}
use Rattle.split.proofs.passes.split_all.Goals as goal

pub returns : goal.returns
returns g c =
    let laws = c.requires.laws in
    all_laid c.args.points.now _ (g.P.Pass.rules.values c.args.pass) (laws.sized c.args.pass) (no_values _ laws c.args.pass) c.args.out.now c.split_span.new.out c.if-n-eq0.false c.if-out-n.false
    (rw (c.cell.ensures, c.cell-2.ensures) at c.split_span.ensures)
