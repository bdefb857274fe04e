-- What `number_waiting` leaves to show: the numbers keep the laws of a pass, and are what it comes to. Assumes nothing.
use lib.Ieee.{of_bits}
use Rattle.split.specs.Buffers.{laid_numbers}
use Rattle.split.specs.Tree.{numbers_of}
use Rattle.split.specs.Visits.{counted_numbers}
use Rattle.split.specs.inside.Passes.{counted_over}
use Rattle.split.proofs.Pieces.{numbering_laws}
use Rattle.split.proofs.Spans.{infinite}
use Rattle.split.proofs.waiting.number_waiting.Goals as goal

pub walk_all-requires : goal.walk_all-requires
walk_all-requires c = record { laws = numbering_laws; good = unfold of_bits in infinite }

pub returns : goal.returns
unfolding counted_numbers laid_numbers numbers_of counted_over of_bits
returns c = c.walk_all.ensures
