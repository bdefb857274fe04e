-- What the radial pass keeps of the points from `k` on, after `prev`, completes what it keeps of all; and `prev` lies within the limits.
use Rattle.std.proofs.Common.{◌-◌, ℕ, List, drop}
use lib.Ieee.{Float}
use lib.IntN.{ℤ}
use Rattle.point.specs.Points.{points, count, point_at}
use Rattle.point.specs.declared.PointI32.{PointI32}
use Rattle.point.specs.inside.Near.{Near}
use Rattle.point.specs.inside.Written.{Left}
use Rattle.reduce.specs.Radial.{radial, radial_from}
use Rattle.reduce.proofs.radial.keep_far.Given as goal

-- what is still to be written
unfoldable pub rest : List ℤ → Float → PointI32 → ℕ → List PointI32
rest list tolerance prev k = radial_from tolerance (point_at list (count list - 1)) prev (drop k (points list))

abbrev pub whole : List ℤ → Float → List PointI32
whole list tolerance = radial tolerance (points list)

abbrev pub invariant-loop-k : goal.invariant-loop-k
invariant-loop-k l = Near l.prev × Left (whole l.points l.tolerance) l.initial.out l.kept (rest l.points l.tolerance l.prev l.k) l.out
