-- The law of a root by halves.
use Rattle.std.proofs.Common.{rules}
use Rattle.by_halves.proofs.ByHalves.{root_small, left_small, square_small, longer}
use Rattle.by_halves.proofs.whole.lengthen.Goals as goal

pub lowered-requires : goal.lowered-requires
lowered-requires c = search (root_small, left_small, square_small, rules)

pub returns : goal.returns
returns c = search (longer, rules)
