-- The flags of the first points are written, and the rest is as it was; from there on goes a run of `p`, to this position at the least.
use Prim.Native.Nat.{◌≤◌}
use mathlib.Core.Path.{◌≡◌}
use lib.ListN.{take}
use Rattle.laws.specs.Lists.{over}
use Rattle.corners.specs.Corners.{corners_of}
use Rattle.corners.specs.inside.Places.{Run}
use Rattle.corners.proofs.outline.Outline.write.Given as goal

abbrev pub invariant-loop-k : goal.invariant-loop-k
invariant-loop-k l =
    (l.i ≤ l.k)
    × (l.self.m ≤ l.k → l.self.m ≤ l.i)
    × (l.flags ≡ over (take l.i (corners_of l.self.points.now l.angle.pair l.self.closed)) l.fn.flags)
    × Run l.self.points.now l.self.closed l.self.m l.i l.k l.from l.p
