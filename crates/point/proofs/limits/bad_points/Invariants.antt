-- What is said so far is what the values before this one say.
use Rattle.std.proofs.Common.{◌≡◌, take}
use Rattle.std.specs.List.{list_all}
use Rattle.point.proofs.limits.bad_points.Given as goal

abbrev pub invariant-loop-value : goal.invariant-loop-value
invariant-loop-value g l = l.fine ≡ list_all g.C.Ranged.fits (take l.value-index l.points)
