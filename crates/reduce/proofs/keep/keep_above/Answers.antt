-- The first point is written, then those between, then the last.
use Prim.Native.Nat.{ℕ, ◌+◌, ◌-◌, ◌*◌, ◌<◌, ◌≤◌}
use mathlib.Core.List.{List, [], ◌∷◌}
use mathlib.Core.Path.{◌≡◌, ap, ◌∙◌}
use native.Mathlib.Omega.{arith}
use lib.Ieee.{Float}
use lib.IntN.{ℤ}
use lib.ListN.{length, drop, set}
use borrow.Author.Rules.{rules}
use Rattle.point.specs.Limits.{places_for}
use Rattle.point.specs.Points.{points, count, point_at}
use Rattle.point.specs.declared.PointI32.{PointI32}
use Rattle.point.specs.inside.Written.{Handed, Left}
use Rattle.point.proofs.Flat.{length_points, points_at}
use Rattle.point.proofs.Room.{places_enough}
use Rattle.point.proofs.Written.{begun_with, from_before, taken, ended}
use Rattle.reduce.specs.Kept.{kept}
use Rattle.reduce.specs.Zoom.{marks_by}
use Rattle.reduce.specs.inside.Place.{placed}
use Rattle.reduce.proofs.Select.{kept_fits, kept_first}
use Rattle.reduce.proofs.keep.keep_above.Goals as goal

abbrev whole : List ℤ → List Float → Float → List PointI32
whole list numbers tolerance = kept (marks_by tolerance numbers) (points list)

module _ (list : List ℤ) (numbers : List Float) (tolerance : Float) (some : 0 < count list) (old : List ℤ) (room : places_for (count list) * 2 ≤ length old) where
  abbrev others : List PointI32
  others = drop 1 (whole list numbers tolerance)

  module _ (each : length numbers ≡ count list) where
    -- the first point is kept
    opened : whole list numbers tolerance ≡ point_at list 0 ∷ others
    opened =
        kept_first tolerance numbers (points list) (point_at list 0) (omega (arith, length_points list)) (omega (arith, length_points list))
        ∙ ap (λ (p : PointI32). p ∷ others) (points_at list 0 (point_at list 0) (omega arith))

    module _ (begun : List ℤ) (put : begun ≡ placed list 0 0 old) where
      started : Left (whole list numbers tolerance) begun 1 others begun
      unfolding placed
      started =
          rw (put, opened)
          (begun_with (point_at list 0) others old
          (omega (arith, kept_fits (marks_by tolerance numbers) (points list), ap places_for (length_points list), ap length opened)))

      finished : (kept : ℕ) (out end : List ℤ) → Left (whole list numbers tolerance) begun kept (point_at list (count list - 1) ∷ []) out →
          end ≡ placed list (count list - 1) kept out → Handed (whole list numbers tolerance) old (kept + 1) end
      unfolding placed
      finished kept out end l s =
          let all : Handed (point_at list 0 ∷ others) (set (set old 0 (point_at list 0).x) 1 (point_at list 0).y) (kept + 1) end
          = rw (← s, put, opened) at (ended (taken l)) in
          rw opened (from_before (point_at list 0) others old all)

pub copy_between-kept-requires : goal.copy_between-kept-requires
copy_between-kept-requires c = (search rules, search rules, omega (arith, places_enough (count c.args.points.now)), search started)

pub returns : goal.returns
returns c = search (finished, rules)
