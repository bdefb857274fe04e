-- The first i values are put.
use Rattle.std.proofs.Common.{◌≡◌, take}
use Rattle.laws.specs.Lists.{over}
use Rattle.requests.specs.Frame.{values_of}
use Rattle.requests.proofs.two_bytes.decode.Given as goal

abbrev pub invariant-loop-i : goal.invariant-loop-i
invariant-loop-i l = l.to ≡ over (take l.i (values_of l.bytes)) l.fn.to
