-- What is kept of the positions from this one on, after `last`, completes what is kept of all.
use Prim.Native.Nat.{◌<◌}
use Rattle.point.specs.Points.{points}
use Rattle.point.specs.inside.Written.{Left}
use Rattle.simplify.specs.Penalties.{limit_penalties}
use Rattle.simplify.proofs.Costly.{costly_from}
use Rattle.simplify.proofs.penalties.keep_many.Given as goal

abbrev pub invariant-loop-i : goal.invariant-loop-i
invariant-loop-i l = (l.last < l.i) × Left (limit_penalties (points l.points)) l.fn.out l.kept (costly_from (points l.points) l.i l.last) l.out
