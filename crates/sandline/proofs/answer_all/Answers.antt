-- `answer_all` lends on what a step asks for: it lies in the buffers, and so does what waits. Assumes nothing.
use Rattle.std.proofs.Common.{◌∙◌}
use Rattle.frames.proofs.Parts.{part_length}
use Rattle.lines.proofs.Claims.{answer_waits, write_fits, write_waits, read_fits, read_waits}
use Rattle.sandline.proofs.answer_all.Goals as goal
use Rattle.sandline.proofs.answer_all.Goals.{in-Line, in-Write+else-not-write, in-Read+in-Some}

pub slice_bounds-write-end : goal.slice_bounds-write-end
slice_bounds-write-end c = write_fits _ _ _ _ _ c.loop.invariant.2 _ _ _ _ c.step.ensures c.step.auto.input c.step.auto.output _ c.in-Write.is

pub slice_bounds-write-end-in-Write : goal.slice_bounds-write-end-in-Write
slice_bounds-write-end-in-Write c =
    part_length _ _ (write_fits _ _ _ _ _ c.loop.invariant.2 _ _ _ _ c.step.ensures c.step.auto.input c.step.auto.output _ c.in-Write.is)

pub slice_bounds-read-count : goal.slice_bounds-read-count
slice_bounds-read-count c = read_fits _ _ _ _ _ c.loop.invariant.2 _ _ _ _ c.step.ensures c.step.auto.input c.step.auto.output _ c.in-Read.is

pub slice_bounds-read-start : goal.slice_bounds-read-start
slice_bounds-read-start c = read_fits _ _ _ _ _ c.loop.invariant.2 _ _ _ _ c.step.ensures c.step.auto.input c.step.auto.output _ c.in-Read.is

pub loop-preserved : goal.loop-preserved
loop-preserved c = (
  c.match-step.auto.input ∙ c.step.auto.input ∙ c.loop.invariant.0,
  c.step.auto.output ∙ c.loop.invariant.1,
  elim c.match-step.branch [
    | in-Line w ↦ rw w.state-is (answer_waits _ _ _ _ _ c.loop.invariant.2 _ _ _ _ c.step.ensures c.step.auto.input c.step.auto.output _ _ w.in-Line.is)
    | in-Write+else-not-write w ↦
        rw w.state-is (write_waits _ _ _ _ _ c.loop.invariant.2 _ _ _ _ c.step.ensures c.step.auto.input c.step.auto.output _ w.in-Write.is)
    | in-Read+in-Some w ↦
        read_waits _ _ _ _ _ c.loop.invariant.2 _ _ _ _ c.step.ensures c.step.auto.input c.step.auto.output _ _ _ (w.state-is ∙ w.fed-state.ensures) w.in-Read.is
  ],
)
