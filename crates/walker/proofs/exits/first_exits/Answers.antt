use Rattle.std.proofs.Common.{rules}
use Rattle.walker.proofs.exits.Words.{right_first, first_exits}
use Rattle.walker.proofs.exits.first_exits.Goals as goal

pub returns-then-clockwise : goal.returns-then-clockwise
unfolding right_first
returns-then-clockwise c = search (first_exits, rules)

pub returns : goal.returns
unfolding right_first
returns c = search (first_exits, rules)
