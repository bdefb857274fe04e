-- The first `n` bytes are stored.
use Rattle.std.proofs.Common.{◌≡◌, take}
use Rattle.laws.specs.Lists.{over}
use Rattle.words.proofs.Pairs.{values}
use Rattle.words.proofs.bytes.write_bytes.Given as goal

abbrev pub invariant-loop-n : goal.invariant-loop-n
invariant-loop-n l = l.to ≡ over (take l.n (values l.word)) l.fn.to
