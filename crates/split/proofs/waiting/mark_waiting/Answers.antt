-- What `mark_waiting` leaves to show: the marks keep the laws of a pass, and are what it comes to. Assumes nothing.
use Rattle.split.specs.Buffers.{laid_marks}
use Rattle.split.specs.Tree.{marks_of}
use Rattle.split.specs.Visits.{counted_marks}
use Rattle.split.specs.inside.Passes.{counted_over}
use Rattle.split.proofs.Pieces.{marking_laws}
use Rattle.split.proofs.waiting.mark_waiting.Goals as goal

pub walk_all-requires : goal.walk_all-requires
walk_all-requires c = record { laws = marking_laws; good = tt }

pub returns : goal.returns
unfolding counted_marks laid_marks marks_of counted_over
returns c = c.walk_all.ensures
