-- Half the exponent is the field, and the nearest whole root the digits.
use Rattle.std.proofs.Common.{◌+◌, ◌/◌, ◌%◌, ◌^◌, ◌∙◌, arith}
use Rattle.sqrt.proofs.nearest.Normal.{root_bits_lem, root_of_normal}
use Rattle.by_halves.proofs.normal_root.Goals as goal

pub returns : goal.returns
returns c =
    let b = c.args.b in
    let root = c.rounded_root in
    root_bits_lem (2 ^ 52 + b % 2 ^ 52) (b / 2 ^ 52 + 1021) (omega arith) (omega arith)
    root.result root.ensures.0 root.ensures.1 (omega arith)
    ∙ root_of_normal b (omega arith) (omega arith)
