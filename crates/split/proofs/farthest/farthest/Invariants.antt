-- The loop of `farthest`: what is left to pass gives the farthest of all.
use Rattle.std.proofs.Common.{◌-◌, ◌≡◌}
use Rattle.split.specs.Farthest.{distance_in, farther, farthest}
use Rattle.split.proofs.farthest.farthest.Given as goal

abbrev pub invariant-loop-i : goal.invariant-loop-i
invariant-loop-i l = farther (distance_in l.points l.first l.last) (l.last - l.i) l.i l.far ≡ farthest l.points l.first l.last
