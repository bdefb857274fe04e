-- A list without two equal neighbours: the nearest that differ are the neighbours themselves, so that a corner is one by the rule before request
-- 2/13 too. Assumes nothing.
use Prim.Native.Nat.{ℕ, zero, suc, ◌+◌, ◌-◌, ◌<◌, ◌≤◌}
use mathlib.Core.Bool.{Bool, true, false, not, ◌&&◌, ◌||◌, or-true, true≢false}
use mathlib.Core.List.{List, [], ◌++◌, reverse, reverse-reverse}
use mathlib.Core.Path.{◌≡◌, refl, sym, ap, ap₂, ◌∙◌}
use native.Mathlib.Omega.{arith}
use lib.Dec.{eqb}
use lib.IntN.{ℤ}
use lib.ListN.{length, take, get_or}
use lib.Seq.{slice, slice_empty, ext_get_or}
use borrow.Author.Tests.{eqb-true, eqb-false}
use Rattle.std.specs.Prelude.{if◌then◌else◌}
use Rattle.point.specs.declared.PointI32.{PointI32}
use Rattle.point.specs.Points.{count, seen, points, point_at, same_point}
use Rattle.point.proofs.Room.{seen_few}
use Rattle.point.proofs.SamePoint.{test_other}
use Rattle.corners.specs.declared.Pair.{Pair}
use Rattle.corners.specs.Corners.{sharp, first_other, nearest, turns, is_corner, flag, corners_of}
use Rattle.corners.specs.Neighbours.{before, behind, into, out_of, is_end_at, is_corner_at, flags_from, neighbours_of}
use Rattle.corners.specs.inside.Places.{back, ahead}
use Rattle.corners.proofs.Flagged.{one_each, corner_at, end_at}
use Rattle.corners.proofs.Judged.{both_differ}
use Rattle.corners.proofs.Others.{found, slice_at, reverse_slice}

module _ (list : List ℤ) (closed : Bool) (m : ℕ) (e : m ≡ seen (count list) closed) where
  -- a neighbour: it is what the search finds, and it differs
  record Neighbour (i r : ℕ) (q : PointI32) : Type 0 where
    is_at : q ≡ point_at list r
    differs : same_point (point_at list i) (point_at list r) ≡ false

  few : m ≤ count list
  few = seen_few closed m (count list) e

  -- no point is equal to the next, nor on a closed list the last that is looked at to the first
  module _ (next : (k : ℕ) → suc k < m → point_at list k ≡ point_at list (suc k) → ⊥)
      (wrap : closed ≡ true → 0 < m → point_at list (m - 1) ≡ point_at list 0 → ⊥) where
    more_than_one : 0 < m → closed ≡ true → 1 < m
    more_than_one h c = go (eqb m 1) refl
      where
        go : (t : Bool) → eqb m 1 ≡ t → 1 < m
        go true f = let g : m - 1 ≡ 0 = omega (arith, eqb-true m 1 f) in absurd (wrap c h (ap (point_at list) g))
        go false f = omega (arith, eqb-false m 1 f)

    module _ (i : ℕ) (h : i < m) where
      after_one : (j : ℕ) → i ≡ suc j → Neighbour i j (nearest closed (point_at list i) (back list i) (ahead list m i))
      unfolding nearest
      after_one j f =
          let d : same_point (point_at list i) (point_at list j) ≡ false = test_other (point_at list i) (point_at list j) (λ s. next j (omega arith) (sym s ∙ ap (point_at list) f)) in
          record {
            is_at =
                ap (λ (k : ℕ). nearest closed (point_at list i) (back list k) (ahead list m i)) f
                ∙ ap (λ (l : List PointI32). nearest closed (point_at list i) l (ahead list m i)) (reverse_slice list 0 j (omega arith) (omega (arith, few)))
                ∙ found (point_at list i) (point_at list j) (back list j ++ (if closed then reverse (ahead list m i) else [])) d;
            differs = d;
          }

      after_last : i ≡ 0 → closed ≡ true → Neighbour i (m - 1) (nearest closed (point_at list i) (back list i) (ahead list m i))
      unfolding nearest
      after_last f c =
          let many : 1 < m = more_than_one (omega arith) c in
          let g : m ≡ suc (m - 1) = omega arith in
          let d : same_point (point_at list i) (point_at list (m - 1)) ≡ false =
          test_other (point_at list i) (point_at list (m - 1)) (λ s. wrap c (omega arith) (sym s ∙ ap (point_at list) f)) in
          record {
            is_at =
                ap₂ (λ (k : ℕ) (b : Bool). first_other (point_at list i) (back list k ++ (if b then reverse (ahead list m k) else []))) f c
                ∙ ap (λ (k : ℕ). first_other (point_at list i) (reverse (slice 1 k (points list)))) g
                ∙ ap (first_other (point_at list i)) (reverse_slice list 1 (m - 1) (omega arith) (omega (arith, few)))
                ∙ found (point_at list i) (point_at list (m - 1)) (reverse (slice 1 (m - 1) (points list))) d;
            differs = d;
          }

      before_one : suc i < m → Neighbour i (suc i) (nearest closed (point_at list i) (ahead list m i) (back list i))
      unfolding nearest
      before_one l =
          let d : same_point (point_at list i) (point_at list (suc i)) ≡ false = test_other (point_at list i) (point_at list (suc i)) (next i l) in
          record {
            is_at =
                ap (λ (l : List PointI32). nearest closed (point_at list i) l (back list i)) (slice_at list (suc i) m l few)
                ∙ found (point_at list i) (point_at list (suc i)) (ahead list m (suc i) ++ (if closed then reverse (back list i) else [])) d;
            differs = d;
          }

      before_first : suc i ≡ m → closed ≡ true → Neighbour i 0 (nearest closed (point_at list i) (ahead list m i) (back list i))
      unfolding nearest
      before_first f c =
          let many : 1 < m = more_than_one (omega arith) c in
          let g : m - 1 ≡ i = omega arith in
          let d : same_point (point_at list i) (point_at list 0) ≡ false =
          test_other (point_at list i) (point_at list 0) (λ s. wrap c (omega arith) (ap (point_at list) g ∙ s)) in
          record {
            is_at =
                ap₂ (λ (k : ℕ) (b : Bool). first_other (point_at list i) (slice k m (points list) ++ (if b then reverse (back list i) else []))) f c
                ∙ ap₂ (λ (l r : List PointI32). first_other (point_at list i) (l ++ r)) (slice_empty m (points list)) (reverse-reverse (take i (points list)))
                ∙ ap (first_other (point_at list i)) (slice_at list 0 i (omega arith) (omega (arith, few)))
                ∙ found (point_at list i) (point_at list 0) (slice 1 i (points list)) d;
            differs = d;
          }

      module _ (inner : (not closed && is_end_at m i) ≡ false) where
        it_wraps : is_end_at m i ≡ true → closed ≡ true
        it_wraps t = go closed (sym (ap (λ (b : Bool). not closed && b) t) ∙ inner)
          where
            go : (c : Bool) → (not c && true) ≡ false → c ≡ true
            go true f = refl
            go false f = absurd (true≢false f)

        the_one_before : Neighbour i (before m i) (nearest closed (point_at list i) (back list i) (ahead list m i))
        the_one_before = go (eqb i 0) refl
          where
            go : (t : Bool) → eqb i 0 ≡ t → Neighbour i (before m i) (nearest closed (point_at list i) (back list i) (ahead list m i))
            go true f = rw f (after_last (eqb-true i 0 f) (it_wraps (rw f)))
            go false f = rw f (after_one (i - 1) (omega (arith, eqb-false i 0 f)))

        the_one_behind : Neighbour i (behind m i) (nearest closed (point_at list i) (ahead list m i) (back list i))
        the_one_behind = go (eqb (suc i) m) refl
          where
            go : (t : Bool) → eqb (suc i) m ≡ t → Neighbour i (behind m i) (nearest closed (point_at list i) (ahead list m i) (back list i))
            go true f = rw f (before_first (eqb-true (suc i) m f) (it_wraps (ap (λ (b : Bool). eqb i 0 || b) f ∙ or-true (eqb i 0))))
            go false f = rw f (before_one (omega (arith, eqb-false (suc i) m f)))

        judged_alike : (pair : Pair) → turns pair (nearest closed (point_at list i) (back list i) (ahead list m i)) (point_at list i) (nearest closed (point_at list i) (ahead list m i) (back list i))
            ≡ sharp pair (into list m i) (out_of list m i)
        unfolding into out_of
        judged_alike pair =
            ap₂ (λ (p q : PointI32). turns pair p (point_at list i) q) the_one_before.is_at the_one_behind.is_at
            ∙ sym (both_differ pair (point_at list (before m i)) (point_at list i) (point_at list (behind m i)) the_one_before.differs the_one_behind.differs)

      pub as_neighbours : (pair : Pair) → is_corner pair closed (back list i) (point_at list i) (ahead list m i) ≡ is_corner_at list pair closed m i
      unfolding is_corner is_corner_at
      as_neighbours pair = go (not closed && is_end_at m i) refl
        where
          go : (t : Bool) → (not closed && is_end_at m i) ≡ t → is_corner pair closed (back list i) (point_at list i) (ahead list m i) ≡ is_corner_at list pair closed m i
          go true f =
              ap (λ (b : Bool). (not closed && b) || turns pair (nearest closed (point_at list i) (back list i) (ahead list m i)) (point_at list i) (nearest closed (point_at list i) (ahead list m i) (back list i)))
              (end_at list pair closed m e i h)
              ∙ (rw f)
          go false f =
              ap (λ (b : Bool). (not closed && b) || turns pair (nearest closed (point_at list i) (back list i) (ahead list m i)) (point_at list i) (nearest closed (point_at list i) (ahead list m i) (back list i)))
              (end_at list pair closed m e i h)
              ∙ ap (λ (b : Bool). (not closed && is_end_at m i) || b) (judged_alike f pair)

-- ---- the flags by that rule

module _ (list : List ℤ) (pair : Pair) (closed : Bool) (m : ℕ) where
  length_from : (i n : ℕ) → length (flags_from list pair closed m i n) ≡ n
  unfolding flags_from
  length_from i zero = refl
  length_from i (suc n) = ap suc (length_from (suc i) n)

  flag_from : (i n k : ℕ) → k < n → get_or (flags_from list pair closed m i n) k 0 ≡ flag (is_corner_at list pair closed m (i + k))
  unfolding flags_from
  flag_from i zero k h = absurd (omega arith)
  flag_from i (suc n) zero h = let f : i ≡ i + 0 = omega arith in ap (λ (j : ℕ). flag (is_corner_at list pair closed m j)) f
  flag_from i (suc n) (suc k) h =
      let f : suc i + k ≡ i + suc k = omega arith in
      flag_from (suc i) n k (omega arith) ∙ ap (λ (j : ℕ). flag (is_corner_at list pair closed m j)) f

module _ (list : List ℤ) (pair : Pair) (closed : Bool) where
  pub flag_by_flag : ((i : ℕ) → i < seen (count list) closed →
      is_corner pair closed (back list i) (point_at list i) (ahead list (seen (count list) closed) i) ≡ is_corner_at list pair closed (seen (count list) closed) i) →
      corners_of list pair closed ≡ neighbours_of list pair closed
  unfolding neighbours_of
  flag_by_flag same =
      let m = seen (count list) closed in
      let long : length (corners_of list pair closed) ≡ m = one_each list pair closed m refl in
      ext_get_or 0 (corners_of list pair closed) (neighbours_of list pair closed) (long ∙ sym (length_from list pair closed m 0 m)) (λ i h.
      let k : i < m = rw (← long) h in
      let z : i ≡ 0 + i = omega arith in
      corner_at list pair closed m refl i k
      ∙ ap flag (same i k ∙ ap (λ (j : ℕ). is_corner_at list pair closed m j) z)
      ∙ sym (flag_from list pair closed m 0 m i k))
