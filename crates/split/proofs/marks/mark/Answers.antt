-- What `mark` leaves to show: the marks keep the laws of a pass, and are what it comes to. Assumes nothing.
use Rattle.split.specs.Buffers.{laid_marks}
use Rattle.split.specs.Tree.{marks_of}
use Rattle.split.proofs.Pieces.{marking_laws}
use Rattle.split.proofs.marks.mark.Goals as goal

pub split_all-requires : goal.split_all-requires
split_all-requires c = record { laws = marking_laws; good = tt }

pub returns : goal.returns
unfolding laid_marks marks_of
returns c = c.split_all.ensures
