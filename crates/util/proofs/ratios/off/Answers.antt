-- Its literals are those of the definition: antt computes both.
use Rattle.std.specs.Float.Ieee.{of_bits, of_int}
use Rattle.laws.proofs.Joined.{or_itself, or_second}
use Rattle.util.specs.Ratios.{off}
use Rattle.util.proofs.ratios.off.Goals as goal

pub returns-then-mu : goal.returns-then-mu
unfolding off of_bits of_int
returns-then-mu c = or_itself _ _ c.if-mu.true

pub returns-else-mu : goal.returns-else-mu
unfolding off of_bits of_int
returns-else-mu c = or_second _ _ c.if-mu.false
