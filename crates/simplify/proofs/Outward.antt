-- `remove_staircase` keeps the first point, looks at those after it one by one, and keeps the last; so it keeps no more points than it is
-- handed, and two of more than one; and what it keeps lies within the limits. Assumes nothing.
use Prim.Native.Nat.{ℕ, suc, ◌+◌, ◌%◌, ◌<◌, ◌≤◌}
use mathlib.Core.Bool.{Bool, true, false, ◌&&◌}
use mathlib.Core.List.{List, [], ◌∷◌}
use mathlib.Core.Path.{◌≡◌, refl, sym, ap, ◌∙◌}
use native.Mathlib.Numerals.{add-one}
use native.Mathlib.Omega.{arith}
use lib.IntN.{ℤ}
use lib.ListN.{length, drop, get_or, drop_of_length-le}
use lib.Seq.{drop-cons}
use borrow.Author.Tests.{eq-eqb}
use Rattle.laws.proofs.Joined.{both_true}
use Rattle.std.specs.List.{list_all}
use Rattle.point.specs.Limits.{in_range, bad_list, bad_points, places_for}
use Rattle.point.specs.Points.{flat, points, count}
use Rattle.point.specs.declared.PointI32.{PointI32}
use Rattle.point.proofs.Claims.{whole_points, all_fine}
use Rattle.point.proofs.Flat.{length_flat, length_points, flat_points}
use Rattle.point.proofs.Room.{places_many}
use Rattle.simplify.specs.Staircase.{stays, staircase_from, remove_staircase}

module _ (clockwise : Bool) where
  -- ---- a point is looked at

  module _ (before p q : PointI32) (ps : List PointI32) where
    stayed : stays clockwise before p q ≡ true → staircase_from clockwise before (p ∷ q ∷ ps) ≡ p ∷ staircase_from clockwise p (q ∷ ps)
    unfolding staircase_from
    stayed e = rw (e, staircase_from)

    gone : stays clockwise before p q ≡ false → staircase_from clockwise before (p ∷ q ∷ ps) ≡ staircase_from clockwise p (q ∷ ps)
    unfolding staircase_from
    gone e = rw (e, staircase_from)

    -- what holds in both cases
    looked_at : (Q : List PointI32 → Type 0) → Q (p ∷ staircase_from clockwise p (q ∷ ps)) → Q (staircase_from clockwise p (q ∷ ps)) →
        Q (staircase_from clockwise before (p ∷ q ∷ ps))
    looked_at Q with_it without = go (stays clockwise before p q) refl
      where
        go : (t : Bool) → stays clockwise before p q ≡ t → Q (staircase_from clockwise before (p ∷ q ∷ ps))
        go true e = rw (stayed e) with_it
        go false e = rw (gone e) without

  -- ---- how many points are kept

  from_shorter : (before : PointI32) (ps : List PointI32) → length (staircase_from clockwise before ps) ≤ length ps
  unfolding staircase_from
  from_shorter before [] = omega arith
  from_shorter before (p ∷ []) = omega arith
  from_shorter before (p ∷ q ∷ ps) =
      looked_at before p q ps (λ l. length l ≤ suc (suc (length ps))) (omega (arith, from_shorter p (q ∷ ps))) (omega (arith, from_shorter p (q ∷ ps)))

  from_some : (before p : PointI32) (ps : List PointI32) → 0 < length (staircase_from clockwise before (p ∷ ps))
  unfolding staircase_from
  from_some before p [] = omega arith
  from_some before p (q ∷ ps) = looked_at before p q ps (λ l. 0 < length l) (omega arith) (from_some p q ps)

  pub staircase_none : (ps : List PointI32) → length ps ≡ 0 → remove_staircase clockwise ps ≡ []
  unfolding remove_staircase
  staircase_none [] h = refl
  staircase_none (p ∷ ps) h = absurd (omega arith)

  staircase_one : (p : PointI32) → remove_staircase clockwise (p ∷ []) ≡ p ∷ []
  unfolding remove_staircase
  staircase_one p = refl

  pub staircase_shorter : (ps : List PointI32) → length (remove_staircase clockwise ps) ≤ length ps
  unfolding remove_staircase
  staircase_shorter [] = omega arith
  staircase_shorter (p ∷ ps) = omega (arith, from_shorter p ps)

  pub staircase_two : (ps : List PointI32) → 1 < length ps → 1 < length (remove_staircase clockwise ps)
  unfolding remove_staircase
  staircase_two [] h = absurd (omega arith)
  staircase_two (p ∷ []) h = absurd (omega arith)
  staircase_two (p ∷ q ∷ ps) h = omega (arith, from_some p q ps)

  -- ---- they lie within the limits

  -- a point before two lists
  led : (p : PointI32) (xs ys : List ℤ) → list_all in_range (p.x ∷ p.y ∷ xs) ≡ true → (list_all in_range xs ≡ true → list_all in_range ys ≡ true) →
      list_all in_range (p.x ∷ p.y ∷ ys) ≡ true
  led p xs ys h f =
      let x = both_true (in_range p.x) (in_range p.y && list_all in_range xs) h in
      let y = both_true (in_range p.y) (list_all in_range xs) x.1 in
      rw (x.0, y.0) (f y.1)

  after_point : (p : PointI32) (xs : List ℤ) → list_all in_range (p.x ∷ p.y ∷ xs) ≡ true → list_all in_range xs ≡ true
  after_point p xs h = (both_true (in_range p.y) (list_all in_range xs) (both_true (in_range p.x) (in_range p.y && list_all in_range xs) h).1).1

  from_within : (before : PointI32) (ps : List PointI32) → list_all in_range (flat ps) ≡ true → list_all in_range (flat (staircase_from clockwise before ps)) ≡ true
  unfolding staircase_from flat
  from_within before [] h = h
  from_within before (p ∷ []) h = h
  from_within before (p ∷ q ∷ ps) h =
      looked_at before p q ps (λ l. list_all in_range (flat l) ≡ true)
      (led p (flat (q ∷ ps)) (flat (staircase_from clockwise p (q ∷ ps))) h (from_within p (q ∷ ps)))
      (from_within p (q ∷ ps) (after_point p (flat (q ∷ ps)) h))

  pub staircase_within : (ps : List PointI32) → list_all in_range (flat ps) ≡ true → list_all in_range (flat (remove_staircase clockwise ps)) ≡ true
  unfolding remove_staircase flat
  staircase_within [] h = h
  staircase_within (p ∷ ps) h = led p (flat ps) (flat (staircase_from clockwise p ps)) h (from_within p ps)

  -- ---- and so for what is handed in as values

  pub staircase_good : (list : List ℤ) → bad_points list ≡ false → bad_points (flat (remove_staircase clockwise (points list))) ≡ false
  unfolding bad_list
  staircase_good list h =
      let e : list_all in_range (flat (points list)) ≡ true = rw (flat_points list (whole_points in_range list h)) (all_fine in_range list h) in
      let even : length (flat (remove_staircase clockwise (points list))) % 2 ≡ 0 = omega (arith, length_flat (remove_staircase clockwise (points list))) in
      rw (eq-eqb _ _ even, staircase_within (points list) e)

  pub staircase_places : (list : List ℤ) → places_for (length (remove_staircase clockwise (points list))) ≤ places_for (count list)
  staircase_places list = rw (← length_points list) (fewer (points list))
    where
      fewer : (ps : List PointI32) → places_for (length (remove_staircase clockwise ps)) ≤ places_for (length ps)
      fewer [] = rw (staircase_none [] refl) (omega arith)
      fewer (p ∷ []) = rw (staircase_one p) (omega arith)
      fewer (p ∷ q ∷ ps) =
          let two : 1 < length (remove_staircase clockwise (p ∷ q ∷ ps)) = staircase_two (p ∷ q ∷ ps) (omega arith) in
          rw (places_many (length (remove_staircase clockwise (p ∷ q ∷ ps))) two, places_many (length (p ∷ q ∷ ps)) (omega arith)) (staircase_shorter (p ∷ q ∷ ps))

  -- ---- position by position

  pub staircase_first : (ps : List PointI32) (d : PointI32) → 0 < length ps →
      remove_staircase clockwise ps ≡ get_or ps 0 d ∷ staircase_from clockwise (get_or ps 0 d) (drop 1 ps)
  unfolding remove_staircase
  staircase_first [] d h = absurd (omega arith)
  staircase_first (p ∷ ps) d h = refl

  module _ (before : PointI32) (ps : List PointI32) (i : ℕ) (d : PointI32) where
    two_left : i + 1 < length ps → drop i ps ≡ get_or ps i d ∷ get_or ps (i + 1) d ∷ drop (i + 2) ps
    two_left h =
        let k : i < length ps = omega arith in
        let e : i + 2 ≡ suc (i + 1) = omega arith in
        drop-cons ps i d k ∙ ap (λ (l : List PointI32). get_or ps i d ∷ l) (ap (λ (n : ℕ). drop n ps) (sym (add-one i)) ∙ drop-cons ps (i + 1) d h)
        ∙ ap (λ (n : ℕ). get_or ps i d ∷ get_or ps (i + 1) d ∷ drop n ps) (sym e)

    one_left : i + 1 < length ps → drop (i + 1) ps ≡ get_or ps (i + 1) d ∷ drop (i + 2) ps
    one_left h = let e : i + 2 ≡ suc (i + 1) = omega arith in drop-cons ps (i + 1) d h ∙ ap (λ (n : ℕ). get_or ps (i + 1) d ∷ drop n ps) (sym e)

    pub outward : i + 1 < length ps → stays clockwise before (get_or ps i d) (get_or ps (i + 1) d) ≡ true →
        staircase_from clockwise before (drop i ps) ≡ get_or ps i d ∷ staircase_from clockwise (get_or ps i d) (drop (i + 1) ps)
    outward h e = rw (two_left h, one_left h) (stayed before (get_or ps i d) (get_or ps (i + 1) d) (drop (i + 2) ps) e)

    pub inward : i + 1 < length ps → stays clockwise before (get_or ps i d) (get_or ps (i + 1) d) ≡ false →
        staircase_from clockwise before (drop i ps) ≡ staircase_from clockwise (get_or ps i d) (drop (i + 1) ps)
    inward h e = rw (two_left h, one_left h) (gone before (get_or ps i d) (get_or ps (i + 1) d) (drop (i + 2) ps) e)

    pub last_stays : i < length ps → length ps ≤ i + 1 → staircase_from clockwise before (drop i ps) ≡ get_or ps i d ∷ []
    unfolding staircase_from
    last_stays h k =
        let l : length ps ≤ suc i = omega arith in
        rw (drop-cons ps i d h, drop_of_length-le ps l)
