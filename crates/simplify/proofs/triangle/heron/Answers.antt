-- Its operations are those of the definition.
use mathlib.Core.Path.{ap}
use lib.Ieee.{Float, binary64, of_bits, of_int, mul, div}
use Rattle.simplify.proofs.triangle.heron.Goals as goal

pub returns : goal.returns
unfolding of_bits of_int
returns c = ap (λ (area : Float). div binary64 (mul binary64 area area) c.args.l3) c.sqrt-area.ensures
