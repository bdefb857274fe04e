-- The turn at a point: none where it is equal to the one before it or behind it, and else judged by the pair. Assumes nothing.
use mathlib.Core.Bool.{true, false}
use mathlib.Core.Path.{◌≡◌}
use Rattle.point.specs.declared.PointI32.{PointI32}
use Rattle.point.specs.Points.{same_point}
use Rattle.corners.specs.declared.Pair.{Pair}
use Rattle.corners.specs.Corners.{vector, sharp, turns}

module _ (pair : Pair) (from p to : PointI32) where
  pub alike_before : same_point p from ≡ true → false ≡ turns pair from p to
  unfolding turns
  alike_before e = rw e

  module _ (e : same_point p from ≡ false) where
    pub alike_behind : same_point p to ≡ true → false ≡ turns pair from p to
    unfolding turns
    alike_behind f = rw (e, f)

    pub both_differ : same_point p to ≡ false → sharp pair (vector from p) (vector p to) ≡ turns pair from p to
    unfolding turns
    both_differ f = rw (e, f)
