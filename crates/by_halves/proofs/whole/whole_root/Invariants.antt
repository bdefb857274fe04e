-- With k bits still to try, the root is found but for less than 2 ^ k.
use Rattle.std.proofs.Common.{◌+◌, ◌^◌, ◌≤◌}
use Rattle.sqrt.specs.inside.Whole.{Found}
use Rattle.by_halves.proofs.whole.whole_root.Given as goal

abbrev pub invariant-loop-k : goal.invariant-loop-k
invariant-loop-k l = (l.root + 2 ^ l.k ≤ 2 ^ 14) × Found l.n l.root l.left (2 ^ l.k)
