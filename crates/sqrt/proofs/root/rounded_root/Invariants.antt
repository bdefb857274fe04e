-- The bits are tried down to `bit`.
use Rattle.std.proofs.Common.{◌+◌, ◌*◌, ◌^◌, ◌≤◌}
use Rattle.sqrt.proofs.whole.BitByBit.{Tried}
use Rattle.sqrt.proofs.root.rounded_root.Given as goal

abbrev pub invariant-loop-bit : goal.invariant-loop-bit
invariant-loop-bit l = (l.twice + 2 * l.bit ≤ 2 ^ 54) × Tried (l.n * 2 ^ 52) l.twice l.left l.bit

abbrev pub decreases-loop-bit : goal.decreases-loop-bit
decreases-loop-bit l = l.bit
