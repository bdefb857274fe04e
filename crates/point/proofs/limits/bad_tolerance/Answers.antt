-- Its limits are those of the definition: antt computes both.
use mathlib.Core.Bool.{not}
use mathlib.Core.Path.{ap}
use Rattle.std.specs.Float.Ieee.{of_bits, of_int}
use Rattle.point.proofs.limits.bad_tolerance.Goals as goal

pub returns : goal.returns
unfolding of_bits of_int
returns c = ap not c.within.ensures
