-- The first bytes are copied, and the others stand as they stood.
use Rattle.std.proofs.Common.{◌≡◌, ◌++◌, take, drop}
use Rattle.texts.proofs.put.copy.Given as goal

abbrev pub invariant-loop-i : goal.invariant-loop-i
invariant-loop-i l = l.part ≡ take l.i l.text ++ drop l.i l.initial.part
