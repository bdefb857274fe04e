-- Its limits are those of the definition: antt computes both.
use Rattle.std.specs.Float.Ieee.{of_bits, of_int, neg}
use Rattle.point.proofs.limits.F64Ranged.in_range.Goals as goal

pub returns : goal.returns
unfolding of_bits of_int neg
returns c = c.within.ensures
