-- The first point of a list that differs from p: equal ones are passed over, in front and at the end, and one that differs is it. Of a part of
-- a list that is given by positions it is at the first position whose point differs. Assumes nothing.
use Prim.Native.Nat.{ℕ, zero, suc, ◌+◌, ◌-◌, ◌<◌, ◌≤◌}
use mathlib.Core.Bool.{Bool, true, false}
use mathlib.Core.List.{List, [], ◌∷◌, ◌++◌, append_assoc, reverse, reverse-cons, reverse-append}
use mathlib.Core.Path.{◌≡◌, refl, sym, ap, ◌∙◌}
use native.Mathlib.Omega.{arith}
use lib.IntN.{ℤ, pos}
use lib.ListN.{length, take, drop, get_or}
use lib.Seq.{slice, slice-cons, slice_empty, take-suc, drop-append-le, length-take-le}
use Rattle.std.specs.Prelude.{if◌then◌else◌}
use Rattle.point.specs.declared.PointI32.{PointI32}
use Rattle.point.specs.Points.{count, points, point_at, same_point}
use Rattle.point.proofs.Flat.{length_points, points_at}
use Rattle.point.specs.Limits.{bad_points}
use Rattle.point.specs.inside.Near.{Near}
use Rattle.point.proofs.Near.{limit_x, limit_y}
use Rattle.point.proofs.SamePoint.{test_same}
use Rattle.corners.specs.Corners.{first_other, nearest}
use Rattle.corners.specs.inside.Places.{FirstOther}

-- ---- one point of a list

module _ (p q : PointI32) (qs : List PointI32) where
  pub passed : q ≡ p → first_other p (q ∷ qs) ≡ first_other p qs
  unfolding first_other
  passed e = rw (test_same p q (sym e))

  pub found : same_point p q ≡ false → first_other p (q ∷ qs) ≡ q
  unfolding first_other
  found e = rw e

-- p itself at the end of a list
pub passed_last : (p : PointI32) (qs : List PointI32) → first_other p (qs ++ (p ∷ [])) ≡ first_other p qs
unfolding first_other
passed_last p [] = passed p p [] refl
passed_last p (q ∷ qs) = ap (λ (r : PointI32). if same_point p q then r else q) (passed_last p qs)

-- p itself on a side of p
module _ (p : PointI32) (side other : List PointI32) where
  pub own_near : (closed : Bool) → nearest closed p (p ∷ side) other ≡ nearest closed p side other
  unfolding nearest
  own_near closed = passed p p (side ++ (if closed then reverse other else [])) refl

  pub own_far : (closed : Bool) → nearest closed p side (p ∷ other) ≡ nearest closed p side other
  unfolding nearest
  own_far true =
      ap (λ (l : List PointI32). first_other p (side ++ l)) (reverse-cons p other)
      ∙ ap (first_other p) (sym (append_assoc side (reverse other) (p ∷ [])))
      ∙ passed_last p (side ++ reverse other)
  own_far false = refl

-- a twin q of p on the other side: for both of them the nearest are the same
pub twin : (closed : Bool) (p q : PointI32) (side other : List PointI32) → q ≡ p → nearest closed q (p ∷ side) other ≡ nearest closed p side (q ∷ other)
twin closed p q side other e =
    ap (λ (r : PointI32). nearest closed r (p ∷ side) other) e
    ∙ own_near p side other closed
    ∙ sym (own_far p side other closed)
    ∙ ap (λ (r : PointI32). nearest closed p side (r ∷ other)) (sym e)

-- ---- a part of a list by positions

-- what is read where no point is
abbrev pub origin : PointI32
origin = record { x = pos 0; y = pos 0 }

module _ (list : List ℤ) where
  pub slice_at : (f t : ℕ) → f < t → t ≤ count list → slice f t (points list) ≡ point_at list f ∷ slice (suc f) t (points list)
  slice_at f t h k =
      slice-cons f t (points list) origin h (rw (length_points list) k)
      ∙ ap (λ (q : PointI32). q ∷ slice (suc f) t (points list)) (points_at list f origin (omega arith))

  -- the last first
  pub reverse_slice : (f t : ℕ) → f ≤ t → t < count list → reverse (slice f (suc t) (points list)) ≡ point_at list t ∷ reverse (slice f t (points list))
  reverse_slice f t h k =
      let short : t ≤ length (points list) = rw (length_points list) (omega arith) in
      let enough : f ≤ length (take t (points list)) = rw (length-take-le t (points list) short) h in
      ap (λ (l : List PointI32). reverse (drop f l)) (take-suc (points list) t origin (rw (length_points list) k))
      ∙ ap reverse (drop-append-le f (take t (points list)) (get_or (points list) t origin ∷ []) enough)
      ∙ reverse-append (slice f t (points list)) (get_or (points list) t origin ∷ [])
      ∙ ap (λ (q : PointI32). q ∷ reverse (slice f t (points list))) (points_at list t origin k)

  module _ (p : PointI32) (t : ℕ) (fits : t ≤ count list) (wrap : List PointI32) where
    -- equal points in front
    passed_over : (n f : ℕ) → f + n ≤ t → ((j : ℕ) → f ≤ j → j < f + n → point_at list j ≡ p) →
        first_other p (slice f t (points list) ++ wrap) ≡ first_other p (slice (f + n) t (points list) ++ wrap)
    passed_over zero f h same =
        let e : f ≡ f + 0 = omega arith in
        ap (λ (k : ℕ). first_other p (slice k t (points list) ++ wrap)) e
    passed_over (suc n) f h same =
        let e : suc f + n ≡ f + suc n = omega arith in
        ap (λ (l : List PointI32). first_other p (l ++ wrap)) (slice_at f t (omega arith) fits)
        ∙ passed p (point_at list f) (slice (suc f) t (points list) ++ wrap) (same f (omega arith) (omega arith))
        ∙ passed_over n (suc f) (omega arith) (λ j g k. same j (omega arith) (omega arith))
        ∙ ap (λ (k : ℕ). first_other p (slice k t (points list) ++ wrap)) e

    module _ (f r : ℕ) (h : f ≤ t) (o : FirstOther list p f t r) where
      up_to_it : first_other p (slice f t (points list) ++ wrap) ≡ first_other p (slice r t (points list) ++ wrap)
      up_to_it =
          let e : f + (r - f) ≡ r = omega (arith, o.since h) in
          passed_over (r - f) f (omega (arith, e, o.up_to)) (λ j g k. o.alike j g (omega (arith, e)))
          ∙ ap (λ (k : ℕ). first_other p (slice k t (points list) ++ wrap)) e

      pub found_at : r < t → first_other p (slice f t (points list) ++ wrap) ≡ point_at list r
      found_at k =
          up_to_it
          ∙ ap (λ (l : List PointI32). first_other p (l ++ wrap)) (slice_at r t k fits)
          ∙ found p (point_at list r) (slice (suc r) t (points list) ++ wrap) (o.other k)

      pub not_found : t ≤ r → first_other p (slice f t (points list) ++ wrap) ≡ first_other p wrap
      not_found k =
          let e : r ≡ t = omega (arith, o.up_to) in
          up_to_it
          ∙ ap (λ (n : ℕ). first_other p (slice n t (points list) ++ wrap)) e
          ∙ ap (λ (l : List PointI32). first_other p (l ++ wrap)) (slice_empty t (points list))

-- a point of a list that is not refused is within the limits
pub near_at : (list : List ℤ) → bad_points list ≡ false → (p : PointI32) (k : ℕ) → p ≡ point_at list k → Near p
near_at list good p k e = record { across = limit_x list good p k e; down = limit_y list good p k e }
