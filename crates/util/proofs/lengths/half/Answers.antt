-- Its literal is that of the definition: antt computes both.
use mathlib.Core.Path.{refl}
use Rattle.std.specs.Float.Ieee.{of_bits, of_int}
use Rattle.util.proofs.lengths.half.Goals as goal

pub returns : goal.returns
unfolding of_bits of_int
returns c = refl
