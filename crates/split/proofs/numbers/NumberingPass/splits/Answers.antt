-- What `splits` leaves to show. Assumes nothing.
use Rattle.std.proofs.Common.{refl}
use lib.Ieee.{ne}
use Rattle.split.proofs.numbers.NumberingPass.splits.Goals as goal

pub returns : goal.returns
unfolding ne
returns c = refl
