-- The limits are those of the definition: antt computes both.
use Rattle.std.specs.Float.Ieee.{of_bits, of_int}
use Rattle.smooth.proofs.refusals.bad_settings.Goals as goal

pub returns-then-not-within : goal.returns-then-not-within
unfolding of_bits of_int
returns-then-not-within c = rw (← c.within.ensures, c.if-not-within.true)

pub returns-else-not-within : goal.returns-else-not-within
unfolding of_bits of_int
returns-else-not-within c = rw (← c.within.ensures, c.if-not-within.false, c.within-else-not-within.ensures)
