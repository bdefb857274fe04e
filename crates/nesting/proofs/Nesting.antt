-- The theorems on numbers and zooms: what the planner may rely on. They are about the definitions of `split`, and the last is about those of
-- the calls. The others hold of every list of points with coordinates of i32, and so of every list that document 01 takes (`in_i32`); a
-- tolerance is any float below +infinity, and so any that document 01 takes (`below_infinity`). Assumes nothing.
use Prim.Native.Nat.{ℕ, suc, ◌+◌, ◌-◌, ◌*◌, ◌≤◌, ◌<◌}
use mathlib.Core.Bool.{Bool, true, false, not, true≢false}
use mathlib.Core.List.{List, [], ◌∷◌, ◌++◌}
use mathlib.Core.Logic.{◌⊎◌, inl, inr}
use mathlib.Core.Path.{◌≡◌, refl, sym, ap, subst, ◌∙◌}
use native.Mathlib.Nat.{le_refl, le_trans, zero-add}
use native.Mathlib.Omega.{arith}
use lib.Dec.{ltb, lit≤}
use lib.IntN.{ℤ, pos, nat_abs}
use lib.Ieee.{Float, nan, inf, fin, is_nan, lt, le}
use lib.ListN.{length, get_or, get_or-map, get_or-eq_default}
use borrow.Author.Tests.{ltb-true, ltb-false, eq-eqb, ne_eqb, le-ltb, not-true, not-false}
use Rattle.laws.proofs.Compare.{le_is}
use Rattle.laws.proofs.Finite.{Below, below_number, nonneg_number, infinity_nonneg}
use Rattle.laws.specs.inside.Finite.{NonNeg}
use Rattle.laws.proofs.Order.{AtLeastZero, at_least_zero}
use Rattle.laws.proofs.Ranges.{between_below}
use Rattle.point.specs.Limits.{too_many, bad_points, bad_sq_tolerance, within}
use Rattle.point.specs.Points.{count, point_at}
use Rattle.point.proofs.Claims.{coordinates_fit}
use Rattle.split.specs.Distance.{sq_seg_dist}
use Rattle.split.specs.Farthest.{distance_in, farthest}
use Rattle.split.specs.Tree.{framed, span_tree, tree, cut, down, marks_of, numbers_of}
use Rattle.split.proofs.Distances.{Small, distance_below, distance_nonneg}
use Rattle.split.proofs.Framed.{framed_many, framed_one}
use Rattle.nesting.proofs.Tolerances.{lower_keeps}
use Rattle.split.proofs.Trees.{Each, each_map, split_inside}
use Rattle.split.proofs.Small.{SmallSpan, at_least, span_distances}
use Rattle.nesting.proofs.Farthest.{split_greatest, split_earliest}
use Rattle.split.proofs.Claims.{a_mark_for_each_point, a_number_for_each_point}
use Rattle.reduce.specs.DouglasPeucker.{douglas_peucker_of}
use Rattle.reduce.specs.Kept.{short_for}
use Rattle.reduce.specs.Zoom.{marks_by, mark, zoom_of}
use Rattle.nesting.proofs.Ends.{by_ends, by_end}
use Rattle.nesting.proofs.Kept.{marked, kept_by_number, down_any, AllIn, all_at, Bit, cut_bits}
use Rattle.nesting.proofs.Framed.{framed_map, framed_all}
use Rattle.nesting.proofs.Neighbours.{whole, span_between}

-- ---- what document 01 takes

-- coordinates of i32
abbrev pub InI32 : List ℤ → Type 0
InI32 points = (k : ℕ) → nat_abs (get_or points k (pos 0)) ≤ 2147483648

pub in_i32 : (points : List ℤ) → bad_points points ≡ false → InI32 points
in_i32 points good k = le_trans (coordinates_fit points good k) (lit≤ tt)

finite_below : {k : ℕ} (x : Float) → Below k x → lt x (inf false) ≡ true
unfolding lt
finite_below nan h = absurd h.at_most
finite_below (inf s) h = absurd h.at_most
finite_below (fin s m e) h = refl

module _ (t : Float) (good : bad_sq_tolerance t ≡ false) where
  in_range_lem : Below 32 t
  in_range_lem = between_below 32 (pos 0) (pos 4294967296) t (not-false (within _ t _) good) tt

  pub below_infinity : lt t (inf false) ≡ true
  below_infinity = finite_below t in_range_lem

  pub no_nan : is_nan t ≡ false
  no_nan = below_number in_range_lem

-- ---- parts of the proofs

not_below_nan : (t : Float) → lt t nan ≡ false
unfolding lt
not_below_nan nan = refl
not_below_nan (inf s) = refl
not_below_nan (fin s m e) = refl

pub is_kept : (b : Bool) → mark b ≡ 1 → b ≡ true
is_kept true e = refl
is_kept false e = let z : ◌≡◌ {A = ℕ} 0 1 = e in absurd (omega arith)

-- a position is kept or dropped: its mark is 0 or 1
pub marks_are_0_or_1 : (points : List ℤ) (t : Float) (k : ℕ) → (get_or (marks_of t points) k 0 ≡ 0) ⊎ (get_or (marks_of t points) k 0 ≡ 1)
unfolding marks_of
marks_are_0_or_1 points t k = all_at Bit (framed points 1 (cut t (tree points))) 0 (framed_all points Bit 1 (cut t (tree points)) (inr refl) (cut_bits t (tree points))) (inl refl) k

infinity : AtLeastZero (inf false)
infinity = at_least_zero infinity_nonneg

-- two kept neighbours of a dropped position, by marks that are 1 for each kept and 0 for each dropped one: none between them is kept, and near their
-- segment it lies
pub record KeptNeighbours (points : List ℤ) (t : Float) (marks : List ℕ) (k : ℕ) : Type 0 where
  pub before : ℕ
  pub after : ℕ
  pub comes_before : before < k
  pub comes_after : k < after
  pub is_a_point : after < count points
  pub before_kept : get_or marks before 0 ≡ 1
  pub after_kept : get_or marks after 0 ≡ 1
  pub none_kept_between : (j : ℕ) → before < j → j < after → get_or marks j 0 ≡ 0
  pub within_tolerance : lt t (sq_seg_dist (point_at points k) (point_at points before) (point_at points after)) ≡ false

-- past the last point no mark is 1
kept_is_a_point : (points : List ℤ) (t : Float) (j : ℕ) → 0 < count points → get_or (marks_of t points) j 0 ≡ 1 → j < count points
kept_is_a_point points t j some e = go (ltb j (count points)) refl
  where
    go : (b : Bool) → ltb j (count points) ≡ b → j < count points
    go true h = ltb-true j (count points) h
    go false h =
        let past : length (marks_of t points) ≤ j = omega (arith, ltb-false j (count points) h, a_mark_for_each_point points t some) in
        let z : ◌≡◌ {A = ℕ} 0 1 = sym (get_or-eq_default (marks_of t points) 0 past) ∙ e in
        absurd (omega arith)

module _ (points : List ℤ) (i32 : InI32 points) where
  small_span : (f l : ℕ) → SmallSpan points f l
  small_span f l = record { small = λ k p q. record { small_x = i32 (k * 2); small_y = i32 (k * 2 + 1) } }

  tree_distances : Each AtLeastZero (tree points)
  unfolding tree
  tree_distances = each_map (tree points) (λ x p. at_least p) (span_distances points 0 (count points - 1) (small_span 0 (count points - 1)))

  -- ---- Every squared distance that is computed is finite and not negative: never a NaN, never -0.

  pub distances_are_finite : (first last k : ℕ) → Below 203 (distance_in points first last k) × NonNeg (distance_in points first last k)
  distances_are_finite first last k =
      let p : Small (point_at points k) = (small_span k k).small k (le_refl k) (le_refl k) in
      let a : Small (point_at points first) = (small_span first first).small first (le_refl first) (le_refl first) in
      let b : Small (point_at points last) = (small_span last last).small last (le_refl last) (le_refl last) in
      (distance_below (point_at points k) (point_at points first) (point_at points last) p a b, distance_nonneg (point_at points k) (point_at points first) (point_at points last) p a b)

  -- ---- A span is split inside, where the computed distance is greatest, at the earliest of equals.

  pub split_at_the_earliest_greatest : (first last : ℕ) → suc first < last
      → ((first < (farthest points first last).index) × ((farthest points first last).index < last))
      × ((k : ℕ) → first < k → k < last → lt (farthest points first last).distance (distance_in points first last k) ≡ false)
      × ((k : ℕ) → first < k → k < (farthest points first last).index → lt (distance_in points first last k) (farthest points first last).distance ≡ true)
  split_at_the_earliest_greatest first last o =
      (split_inside points first last o, split_greatest points first last o (small_span first last), split_earliest points first last o (small_span first last))

  -- ---- One number per point decides at every tolerance: a point is kept exactly when the tolerance is below its number.

  pub numbers_decide_every_tolerance : (t : Float) → lt t (inf false) ≡ true → marks_of t points ≡ marked t (numbers_of points)
  unfolding marks_of numbers_of
  numbers_decide_every_tolerance t h =
      ap (framed points 1) (kept_by_number t (inf false) (tree points) infinity tree_distances h)
      ∙ ap (λ (e : ℕ). framed points e (marked t (down (inf false) (tree points)))) (sym (ap mark h))
      ∙ sym (framed_map points (λ v. mark (lt t v)) (inf false) (down (inf false) (tree points)))

  -- position by position; past the last point there is neither mark nor number
  pub kept_exactly_below_its_number : (t : Float) → lt t (inf false) ≡ true → (k : ℕ) → get_or (marks_of t points) k 0 ≡ mark (lt t (get_or (numbers_of points) k nan))
  kept_exactly_below_its_number t h k =
      ap (λ (m : List ℕ). get_or m k 0) (numbers_decide_every_tolerance t h)
      ∙ ap (λ (d : ℕ). get_or (marked t (numbers_of points)) k d) (sym (ap mark (not_below_nan t)))
      ∙ get_or-map (λ v. mark (lt t v)) (numbers_of points) k nan

  -- ---- Zooms nest: every point that is kept at a tolerance is kept at every lower one.

  pub zooms_nest : (s t : Float) → lt s (inf false) ≡ true → lt t (inf false) ≡ true → lt t s ≡ false
      → (k : ℕ) → get_or (marks_of t points) k 0 ≡ 1 → get_or (marks_of s points) k 0 ≡ 1
  zooms_nest s t hs ht l k e =
      kept_exactly_below_its_number s hs k ∙ ap mark (lower k (is_kept (lt t (get_or (numbers_of points) k nan)) (sym (kept_exactly_below_its_number t ht k) ∙ e)))
    where
      one_lower : (v : Float) → AtLeastZero v → lt t v ≡ true → lt s v ≡ true
      one_lower v p h = lower_keeps s t p infinity hs l h

      all_lower : AllIn (λ v. lt t v ≡ true → lt s v ≡ true) (numbers_of points)
      all_lower =
          unfold numbers_of in framed_all points (λ v. lt t v ≡ true → lt s v ≡ true) (inf false) (down (inf false) (tree points)) (one_lower (inf false) infinity)
          (down_any (λ v. lt t v ≡ true → lt s v ≡ true) (inf false) (tree points) (one_lower (inf false) infinity) (each_map (tree points) one_lower tree_distances))

      lower : (k : ℕ) → lt t (get_or (numbers_of points) k nan) ≡ true → lt s (get_or (numbers_of points) k nan) ≡ true
      lower k = all_at (λ v. lt t v ≡ true → lt s v ≡ true) (numbers_of points) nan all_lower (λ h. absurd (true≢false (sym h ∙ not_below_nan t))) k

  -- ---- Every dropped point lies within the tolerance of the segment between its kept neighbours.

  -- of any tolerance at all: a NaN is below nothing, so all lies within it, and within a negative one lies nothing, so nothing is dropped

  pub dropped_points_are_near : (t : Float) (k : ℕ) → k < count points → get_or (marks_of t points) k 0 ≡ 0 → KeptNeighbours points t (marks_of t points) k
  dropped_points_are_near t k h e = go (ltb 1 (count points)) refl
    where
      go : (b : Bool) → ltb 1 (count points) ≡ b → KeptNeighbours points t (marks_of t points) k
      go true c =
          let o : 1 < count points = ltb-true 1 (count points) c in
          let w : marks_of t points ≡ whole points t (span_tree points 0 (count points - 1)) = many o in
          let b = (span_between points t 0 (count points - 1)).1 (small_span 0 (count points - 1)) (omega arith) k (omega arith) (subst (λ (m : List ℕ). get_or m k 0 ≡ 0) w e) in
          let high_one : get_or (marks_of t points) b.high 0 ≡ 1 = ap (λ (m : List ℕ). get_or m b.high 0) w ∙ b.high_kept in
          record {
            before = b.low;
            after = b.high;
            comes_before = b.low_first;
            comes_after = b.high_after;
            is_a_point = kept_is_a_point points t b.high (omega arith) high_one;
            before_kept = ap (λ (m : List ℕ). get_or m b.low 0) w ∙ b.low_kept;
            after_kept = high_one;
            none_kept_between = λ j p q. ap (λ (m : List ℕ). get_or m j 0) w ∙ b.none_between j p q;
            within_tolerance = rw (zero-add b.low, zero-add b.high, zero-add k) at b.near;
          }
        where
          many : 1 < count points → marks_of t points ≡ whole points t (span_tree points 0 (count points - 1))
          many o = unfold marks_of tree in framed_many points 1 (cut t (tree points)) o
      go false c = absurd (none (ltb-false 1 (count points) c))
        where
          none : count points ≤ 1 → ⊥
          none l =
              let z : 0 ≡ k = omega arith in
              let one : get_or (marks_of t points) 0 0 ≡ 1 = (unfold marks_of in ap (λ (m : List ℕ). get_or m 0 0) (framed_one points 1 (cut t (tree points)) l)) in
              let y : ◌≡◌ {A = ℕ} 0 1 = sym (subst (λ (j : ℕ). get_or (marks_of t points) j 0 ≡ 0) (sym z) e) ∙ one in
              omega arith

-- ---- the same of what document 01 takes

module _ (points : List ℤ) (good : bad_points points ≡ false) where
  -- a point is kept exactly when the tolerance is below its number
  pub numbers_decide_in_range : (t : Float) → bad_sq_tolerance t ≡ false → marks_of t points ≡ marked t (numbers_of points)
  numbers_decide_in_range t h = numbers_decide_every_tolerance points (in_i32 points good) t (below_infinity t h)

  -- a point that is kept at a tolerance is kept at every lower one
  pub zooms_nest_in_range : (s t : Float) → bad_sq_tolerance s ≡ false → bad_sq_tolerance t ≡ false → le s t ≡ true
      → (k : ℕ) → get_or (marks_of t points) k 0 ≡ 1 → get_or (marks_of s points) k 0 ≡ 1
  zooms_nest_in_range s t hs ht l =
      zooms_nest points (in_i32 points good) s t (below_infinity s hs) (below_infinity t ht) (not-true (lt t s) (sym (le_is s t (no_nan s hs) (no_nan t ht)) ∙ l))

  -- a dropped point lies at most as far as the tolerance from the segment between its kept neighbours
  pub dropped_points_are_near_in_range : (t : Float) → bad_sq_tolerance t ≡ false → (k : ℕ) → k < count points → get_or (marks_of t points) k 0 ≡ 0
      → (n : KeptNeighbours points t (marks_of t points) k) × (le (sq_seg_dist (point_at points k) (point_at points n.before) (point_at points n.after)) t ≡ true)
  dropped_points_are_near_in_range t g k h e =
      let n : KeptNeighbours points t (marks_of t points) k = dropped_points_are_near points (in_i32 points good) t k h e in
      let d : Float = sq_seg_dist (point_at points k) (point_at points n.before) (point_at points n.after) in
      (n, le_is d t (nonneg_number (distances_are_finite points (in_i32 points good) n.before n.after k).1) (no_nan t g) ∙ ap not n.within_tolerance)

module _ (list : List ℤ) (tolerance : Float) (good : bad_points list ≡ false) (fine : bad_sq_tolerance tolerance ≡ false) where
  -- the marks by the numbers are those of Douglas-Peucker
  marks_by_numbers : marks_by tolerance (numbers_of list) ≡ marks_of tolerance list
  marks_by_numbers = go (ltb 1 (count list)) refl ∙ sym (numbers_decide_in_range list good tolerance fine)
    where
      below : lt tolerance (inf false) ≡ true
      below = below_infinity tolerance fine

      inside : List Float
      inside = down (inf false) (tree list)

      go : (t : Bool) → ltb 1 (count list) ≡ t → marks_by tolerance (numbers_of list) ≡ marked tolerance (numbers_of list)
      go true e =
          let ends : numbers_of list ≡ inf false ∷ (inside ++ (inf false ∷ [])) = (unfold numbers_of in framed_many list (inf false) inside (ltb-true 1 (count list) e)) in
          rw ends (by_ends tolerance inside (inf false) below)
      go false e =
          let end : numbers_of list ≡ inf false ∷ [] = (unfold numbers_of in framed_one list (inf false) inside (ltb-false 1 (count list) e)) in
          rw end (by_end tolerance (inf false) below)

  -- ---- For every list of 1 to 4,096 points in range, and every squared tolerance in range, `zoom` by the list's numbers answers what
  -- Douglas-Peucker answers, and leaves the same in the buffer.

  pub zoom_is_douglas_peucker : too_many (length list) ≡ false → 0 < count list → (out : List ℤ) (marks : List ℕ) → count list ≤ length marks →
      zoom_of list (numbers_of list) tolerance out
      ≡ record { answer = (douglas_peucker_of list tolerance out marks).answer; out = (douglas_peucker_of list tolerance out marks).out.0 }
  unfolding zoom_of douglas_peucker_of
  zoom_is_douglas_peucker few some out marks l = go (short_for (count list) out) refl
    where
      go : (t : Bool) → short_for (count list) out ≡ t → zoom_of list (numbers_of list) tolerance out
          ≡ record { answer = (douglas_peucker_of list tolerance out marks).answer; out = (douglas_peucker_of list tolerance out marks).out.0 }
      go true e = rw (few, good, eq-eqb _ _ (a_number_for_each_point list some), ne_eqb (count list) 0 (λ z. omega arith), fine, e)
      go false e = rw (few, good, eq-eqb _ _ (a_number_for_each_point list some), ne_eqb (count list) 0 (λ z. omega arith), fine, e, le-ltb _ _ l, marks_by_numbers)
