-- What is still to be stored completes the whole.
use Prim.Native.Nat.{◌-◌}
use mathlib.Core.Path.{◌≡◌}
use lib.Seq.{sets}
use Rattle.corners.specs.inside.Places.{same_flags}
use Rattle.corners.proofs.outline.Outline.fill.Given as goal

abbrev pub invariant-loop-j : goal.invariant-loop-j
invariant-loop-j l =
    sets l.fn.flags l.i (same_flags l.self.closed l.self.m l.turned l.i (l.k - l.i)) ≡ sets l.flags l.j (same_flags l.self.closed l.self.m l.turned l.j (l.k - l.j))
