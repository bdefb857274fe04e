-- What `number` leaves to show: the numbers keep the laws of a pass, and are what it comes to. Assumes nothing.
use lib.Ieee.{of_bits}
use Rattle.split.specs.Buffers.{laid_numbers}
use Rattle.split.specs.Tree.{numbers_of}
use Rattle.split.proofs.Pieces.{numbering_laws}
use Rattle.split.proofs.Spans.{infinite}
use Rattle.split.proofs.numbers.number.Goals as goal

pub split_all-requires : goal.split_all-requires
split_all-requires c = record { laws = numbering_laws; good = unfold of_bits in infinite }

pub returns : goal.returns
unfolding laid_numbers numbers_of of_bits
returns c = c.split_all.ensures
