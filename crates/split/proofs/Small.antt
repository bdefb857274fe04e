-- Of points with coordinates of i32 every distance is a number with the sign +, never a NaN. So the numbers split at the distances above 0, and
-- look as often as Douglas-Peucker does at the squared tolerance 0. Assumes nothing.
use Prim.Native.Nat.{ℕ, suc, ◌+◌, ◌-◌, ◌*◌, ◌≤◌, ◌<◌}
use mathlib.Core.Bool.{Bool, true, false, not, ◌&&◌}
use mathlib.Core.List.{List}
use mathlib.Core.Path.{◌≡◌, refl, ap, ◌∙◌}
use native.Mathlib.Nat.{le_refl, le_trans}
use native.Mathlib.Omega.{arith}
use lib.Dec.{lit≤}
use lib.IntN.{ℤ, pos, nat_abs}
use lib.Ieee.{Float, lt}
use lib.ListN.{get_or}
use Rattle.laws.proofs.Compare.{eq_is}
use Rattle.laws.proofs.Finite.{nonneg_number}
use Rattle.laws.proofs.Order.{AtLeastZero, at_least_zero}
use Rattle.point.specs.Limits.{bad_points}
use Rattle.point.specs.Points.{point_at, count}
use Rattle.point.proofs.Claims.{coordinates_fit}
use Rattle.split.specs.Distance.{zero64}
use Rattle.split.specs.Farthest.{distance_in, farthest}
use Rattle.split.specs.inside.Spans.{Distance}
use Rattle.split.specs.Tree.{span_tree, tree}
use Rattle.split.specs.Visits.{visits, nonzero}
use Rattle.split.proofs.Distances.{Small, distance_nonneg, distance_fits}
use Rattle.split.proofs.Folds.{far, farther_any}
use Rattle.split.proofs.Spans.{zero_distance, below_zero}
use Rattle.split.proofs.Trees.{Each, each_map, by_spans, middle, reach, split_inside}
use Rattle.split.proofs.Visited.{visits_alike}

-- the points of a span are those of an i32, ends too
pub record SmallSpan (points : List ℤ) (first last : ℕ) : Type 0 where
  pub small : (k : ℕ) → first ≤ k → k ≤ last → Small (point_at points k)

pub at_least : {x : Float} → Distance x → AtLeastZero x
at_least p = at_least_zero p.nonneg

-- ---- the distances of a span, and of its tree

module _ (points : List ℤ) where
  pub span_part : {f l : ℕ} (f' l' : ℕ) → SmallSpan points f l → f ≤ f' → l' ≤ l → SmallSpan points f' l'
  span_part f' l' s p q = record { small = λ k a b. s.small k (omega arith) (omega arith) }

  pub span_distance : {f l : ℕ} → SmallSpan points f l → (k : ℕ) → f ≤ k → k ≤ l → Distance (distance_in points f l k)
  span_distance {f} {l} s k p q = record {
    nonneg =
        distance_nonneg (point_at points k) (point_at points f) (point_at points l)
        (s.small k p q) (s.small f (le_refl f) (omega arith)) (s.small l (omega arith) (le_refl l));
    fitting = distance_fits (point_at points k) (point_at points f) (point_at points l);
  }

  pub split_distance : (f l : ℕ) → suc f < l → SmallSpan points f l → Distance (reach points f l)
  unfolding farthest
  split_distance f l o s =
      let d = distance_in points f l in
      farther_any d Distance (l - suc (suc f)) (suc (suc f)) (far (suc f) (d (suc f)))
      (λ i p q. span_distance s i (omega arith) (omega arith)) (span_distance s (suc f) (omega arith) (omega arith))

  pub span_distances : (f l : ℕ) → SmallSpan points f l → Each Distance (span_tree points f l)
  unfolding Each
  span_distances =
      by_spans points (λ f l t. SmallSpan points f l → Each Distance t) (λ f l h s. tt)
      (λ f l o below above p q s.
      let i = split_inside points f l o in (
        split_distance f l o s,
        p (span_part f (middle points f l) s (omega arith) (omega arith)),
        q (span_part (middle points f l) l s (omega arith) (omega arith)),
      ))

-- ---- a distance is above 0 exactly if it is not 0

above_zero : (b : Bool) → not (not false && not b) ≡ b
above_zero true = refl
above_zero false = refl

nonzero_above : (d : Float) → Distance d → nonzero d ≡ lt zero64 d
nonzero_above d p =
    ap not (eq_is d zero64 (nonneg_number p.nonneg) (nonneg_number zero_distance.nonneg)) ∙ ap (λ (b : Bool). not (not b && not (lt zero64 d))) (below_zero d p.nonneg)
    ∙ above_zero (lt zero64 d)

-- of a list that document 01 takes
pub visits_at_zero : (points : List ℤ) → bad_points points ≡ false → visits nonzero (tree points) ≡ visits (lt zero64) (tree points)
unfolding tree
visits_at_zero points good =
    visits_alike nonzero (lt zero64) (tree points)
    (each_map (tree points) nonzero_above (span_distances points 0 (count points - 1) (record { small = λ k a b. record { small_x = fits (k * 2); small_y = fits (k * 2 + 1) } })))
  where
    fits : (k : ℕ) → nat_abs (get_or points k (pos 0)) ≤ 2147483648
    fits k = le_trans (coordinates_fit points good k) (lit≤ tt)
