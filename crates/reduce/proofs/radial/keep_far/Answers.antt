use Prim.Native.Nat.{ℕ, ◌+◌, ◌-◌, ◌*◌, ◌<◌, ◌≤◌}
use mathlib.Core.Bool.{true, false}
use mathlib.Core.List.{List, ◌∷◌}
use mathlib.Core.Path.{◌≡◌, sym, ap, subst, ◌∙◌}
use native.Mathlib.Omega.{arith}
use lib.Ieee.{Float, lt}
use lib.IntN.{ℤ}
use lib.ListN.{length, set, get_or}
use borrow.Author.Rules.{rules}
use Rattle.laws.specs.Lists.{over}
use Rattle.point.specs.Limits.{bad_points, in_range}
use Rattle.point.specs.Points.{flat, points, count, point_at}
use Rattle.point.specs.declared.PointI32.{PointI32}
use Rattle.point.proofs.Claims.{whole_points}
use Rattle.point.proofs.Near.{limit_x, limit_y}
use Rattle.point.specs.inside.Near.{Near}
use Rattle.point.specs.inside.Written.{onto, Handed, Left}
use Rattle.point.proofs.Flat.{length_points, flat_points, points_at}
use Rattle.point.proofs.Written.{begun_with, from_before, passed, taken, rest_fits, completed}
use Rattle.reduce.specs.Radial.{sq_dist, radial, radial_end}
use Rattle.reduce.proofs.radial.Far.{radial_shorter, radial_whole, radial_first, far, near, none_left}
use Rattle.reduce.proofs.radial.keep_far.Invariants.{rest, whole}
use Rattle.reduce.proofs.radial.keep_far.Goals.{then-tolerance-get_sq_dist, else-tolerance-get_sq_dist}
use Rattle.reduce.proofs.radial.keep_far.Goals as goal

module _ (list : List ℤ) (good : bad_points list ≡ false) where
  -- a point of the list lies within the limits
  limited : (p : PointI32) (k : ℕ) → p ≡ point_at list k → Near p
  limited p k e = record { across = limit_x list good p k e; down = limit_y list good p k e }

  -- up to two points are copied
  copied : (tolerance : Float) (old last : List ℤ) → last ≡ over list old → count list ≤ 2 → Handed (radial tolerance (points list)) old (count list) last
  copied tolerance old last e h =
      rw (radial_whole tolerance (points list) (rw (length_points list) h))
      (record { counted = sym (length_points list); written = e ∙ ap (λ (l : List ℤ). over l old) (sym (flat_points list (whole_points in_range list good))) })

module _ (list : List ℤ) (tolerance : Float) where
  whole_fits : (old : List ℤ) → length list ≤ length old → length (whole list tolerance) * 2 ≤ length old
  whole_fits old h = omega (arith, radial_shorter tolerance (points list), length_points list)

  -- past the last point only the end is left
  ends : (prev last : PointI32) (k : ℕ) → count list ≤ k → last ≡ point_at list (count list - 1) → rest list tolerance prev k ≡ radial_end last prev
  unfolding rest
  ends prev last k h e = rw e (none_left tolerance (point_at list (count list - 1)) prev (points list) k prev (rw (length_points list) h))

  -- the first point is kept
  module _ (first : PointI32) (e : first ≡ point_at list 0) (many : 2 < count list) where
    opened : whole list tolerance ≡ first ∷ rest list tolerance first 1
    unfolding rest
    opened =
        radial_first tolerance (points list) first (rw (length_points list) many)
        ∙ rw (length_points list, points_at list 0 first (omega arith), points_at list (count list - 1) first (omega arith), e)

    module _ (old begun : List ℤ) (put : begun ≡ set (set old 0 first.x) 1 first.y) where
      started : length list ≤ length old → Left (whole list tolerance) begun 1 (rest list tolerance first 1) begun
      started h = rw (put, opened) (begun_with first (rest list tolerance first 1) old (omega (arith, whole_fits old h, ap length opened)))

      finished : (kept k : ℕ) (out : List ℤ) (prev last : PointI32) (n : ℕ) (end : List ℤ) →
          Left (whole list tolerance) begun kept (rest list tolerance prev k) out → count list ≤ k → last ≡ point_at list (count list - 1) →
          n ≡ kept + length (radial_end last prev) → end ≡ onto (kept * 2) (flat (radial_end last prev)) out → Handed (whole list tolerance) old n end
      finished kept k out prev last n end l h f g i =
          let done : Handed (first ∷ rest list tolerance first 1) (set (set old 0 first.x) 1 first.y) n end
          = rw (put, opened) at (completed (passed l (ends prev last k h f)) g i) in
          rw opened (from_before first (rest list tolerance first 1) old done)

  -- a turn
  module _ (old : List ℤ) (kept k : ℕ) (out : List ℤ) (prev : PointI32) (l : Left (whole list tolerance) old kept (rest list tolerance prev k) out) where
    module _ (p : PointI32) (d : Float) (h : k < count list) (e : p ≡ point_at list k) (f : d ≡ sq_dist p prev) where
      at : get_or (points list) k p ≡ p
      at = points_at list k p h ∙ sym e

      is_far : lt tolerance d ≡ true → rest list tolerance prev k ≡ p ∷ rest list tolerance p (k + 1)
      unfolding rest
      is_far t =
          subst (λ (q : PointI32). lt tolerance (sq_dist q prev) ≡ true → rest list tolerance prev k ≡ q ∷ rest list tolerance q (k + 1)) at
          (far tolerance (point_at list (count list - 1)) prev (points list) k p (rw (length_points list) h)) (sym (ap (lt tolerance) f) ∙ t)

      kept_one : lt tolerance d ≡ true → (now : List ℤ) → now ≡ set (set out (kept * 2) p.x) (kept * 2 + 1) p.y →
          Left (whole list tolerance) old (kept + 1) (rest list tolerance p (k + 1)) now
      kept_one t now g = rw g (taken (passed l (is_far t)))

      dropped_one : lt tolerance d ≡ false → Left (whole list tolerance) old kept (rest list tolerance prev (k + 1)) out
      unfolding rest
      dropped_one t =
          passed l (subst (λ (q : PointI32). lt tolerance (sq_dist q prev) ≡ false → rest list tolerance prev k ≡ rest list tolerance prev (k + 1)) at
          (near tolerance (point_at list (count list - 1)) prev (points list) k p (rw (length_points list) h)) (sym (ap (lt tolerance) f) ∙ t))

    last_fits : (last : PointI32) → count list ≤ k → last ≡ point_at list (count list - 1) → (kept + length (radial_end last prev)) * 2 ≤ length out
    last_fits last h e = rest_fits (passed l (ends prev last k h e))

pub returns-then-n-le2 : goal.returns-then-n-le2
returns-then-n-le2 c = search (copied, rules)

pub loop-k-init : goal.loop-k-init
loop-k-init c = (search (limited, rules), search (started, rules))

pub get_sq_dist-requires : goal.get_sq_dist-requires
get_sq_dist-requires c = (search (limited, rules), c.loop-k.invariant.0)

pub loop-k-preserved : goal.loop-k-preserved
loop-k-preserved c = elim c.if-tolerance-get_sq_dist.branch [
  | then-tolerance-get_sq_dist w ↦ rw (w.kept-is, w.prev-is, w.out-is) (search (limited, rules), search (kept_one, rules))
  | else-tolerance-get_sq_dist w ↦
      rw (w.kept-is, w.prev-is, w.out-is) (c.loop-k.invariant.0, dropped_one _ _ _ _ _ _ _ c.loop-k.invariant.1 _ _ (search rules) c.point_at-p.ensures c.get_sq_dist.ensures (search rules))
]

pub with_last-requires : goal.with_last-requires
with_last-requires c = search (last_fits, rules)

pub returns : goal.returns
returns c = search (finished, rules)
