-- What stays of the points from this position on completes what stays of all; and `before` is the point before them in the list.
use Prim.Native.Nat.{ℕ, ◌-◌}
use mathlib.Core.Bool.{Bool}
use mathlib.Core.List.{List}
use mathlib.Core.Path.{◌≡◌}
use lib.IntN.{ℤ}
use lib.ListN.{drop}
use Rattle.point.specs.Points.{points, point_at}
use Rattle.point.specs.declared.PointI32.{PointI32}
use Rattle.point.specs.inside.Written.{Left}
use Rattle.simplify.specs.Staircase.{staircase_from, remove_staircase}
use Rattle.simplify.proofs.staircase.keep_outward.Given as goal

-- what is still to be written
unfoldable pub rest : List ℤ → Bool → ℕ → List PointI32
rest list clockwise i = staircase_from clockwise (point_at list (i - 1)) (drop i (points list))

abbrev pub invariant-loop-i : goal.invariant-loop-i
invariant-loop-i l =
    (l.before ≡ point_at l.points (l.i - 1))
    × Left (remove_staircase l.clockwise (points l.points)) l.fn.out l.kept (rest l.points l.clockwise l.i) l.out
