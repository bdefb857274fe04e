-- What `farthest` leaves to show. Assumes nothing.
use Rattle.std.proofs.Common.{rules, ◌≡◌, ℕ, suc, ◌+◌, ◌-◌, ◌<◌, ◌≤◌, List, ap, ◌∙◌}
use native.Mathlib.Numerals.{add-one}
use native.Mathlib.Omega.{arith}
use Rattle.std.specs.Prelude.{ℤ, Float}
use Rattle.point.specs.Points.{point_at}
use Rattle.split.specs.declared.distance.Segment.{Segment}
use Rattle.split.specs.declared.farthest.Far.{Far}
use Rattle.split.specs.Distance.{from_segment, sq_seg_dist}
use Rattle.split.specs.Farthest.{distance_in, farther_of, farther, farthest}
use Rattle.split.specs.inside.Spans.{line_of, FoundInside}
use Rattle.split.proofs.Folds.{far}
use Rattle.split.proofs.Trees.{split_inside}
use Rattle.split.proofs.farthest.farthest.Goals as goal

module _ (points : List ℤ) (first last : ℕ) where
  -- a distance is worked out from the segment between the ends
  from_line : (k : ℕ) (s : Segment) (d : Float) → s ≡ line_of points first last → d ≡ from_segment (point_at points k) s → d ≡ distance_in points first last k
  unfolding sq_seg_dist line_of
  from_line k s d r h = h ∙ ap (from_segment (point_at points k)) r

  begun : (s : Segment) (d : Float) → s ≡ line_of points first last → d ≡ from_segment (point_at points (first + 1)) s →
      farther (distance_in points first last) (last - (first + 2)) (first + 2) (far (first + 1) d) ≡ farthest points first last
  unfolding farthest
  begun s d r h =
      let two : first + 2 ≡ suc (suc first) = omega arith in
      ap (λ (x : Float). farther (distance_in points first last) (last - (first + 2)) (first + 2) (far (first + 1) x)) (from_line (first + 1) s d r h)
      ∙ ap (λ (k : ℕ). farther (distance_in points first last) (last - (first + 2)) (first + 2) (far k (distance_in points first last k))) (add-one first)
      ∙ ap (λ (k : ℕ). farther (distance_in points first last) (last - k) k (far (suc first) (distance_in points first last (suc first)))) two

  module _ (i : ℕ) (best : Far) (inv : farther (distance_in points first last) (last - i) i best ≡ farthest points first last) where
    one_passed : (s : Segment) (d : Float) (next : Far) → s ≡ line_of points first last → d ≡ from_segment (point_at points i) s
        → next ≡ farther_of best (far i d) → i < last
        → farther (distance_in points first last) (last - (i + 1)) (i + 1) next ≡ farthest points first last
    unfolding farther
    one_passed s d next r h n l =
        let z : suc (last - (i + 1)) ≡ last - i = omega arith in
        ap (λ (b : Far). farther (distance_in points first last) (last - (i + 1)) (i + 1) b) (n ∙ ap (λ (x : Float). farther_of best (far i x)) (from_line i s d r h))
        ∙ ap (λ (k : ℕ). farther (distance_in points first last) (last - (i + 1)) k (farther_of best (far i (distance_in points first last i)))) (add-one i)
        ∙ ap (λ (m : ℕ). farther (distance_in points first last) m i best) z ∙ inv

    all_passed : last ≤ i → first + 1 < last → FoundInside points first last best
    unfolding farther
    all_passed h o =
        let z : 0 ≡ last - i = omega arith in
        let f : best ≡ farthest points first last = ap (λ (m : ℕ). farther (distance_in points first last) m i best) z ∙ inv in
        let k = split_inside points first last (omega arith) in
        record { is = f; after_first = rw f k.0; before_last = rw f k.1 }

ruleset laws = (begun, one_passed, all_passed, rules)

pub loop-i-init : goal.loop-i-init
loop-i-init c = search laws

pub loop-i-preserved : goal.loop-i-preserved
loop-i-preserved c = search laws

pub returns : goal.returns
returns c = search laws
