-- Half the exponent is the field, and the nearest whole root the digits.
use Rattle.std.proofs.Common.{rules}
use Rattle.sqrt.proofs.nearest.Normal.{root_bits_lem}
use Rattle.sqrt.proofs.root.normal_root.Goals as goal

pub returns : goal.returns
returns c = search (root_bits_lem, rules)
