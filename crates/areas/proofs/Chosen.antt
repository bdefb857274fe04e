-- On the way along a list of which some points are kept: what was added up of the kept points and of the gaps, and what the points ahead still add,
-- is what the whole list has; and at its end, which is kept, no gap is open. Assumes nothing.
use Prim.Native.Nat.{ℕ, ◌+◌, ◌*◌, ◌-◌, ◌<◌, ◌≤◌}
use mathlib.Core.Bool.{true, false, false≢true}
use mathlib.Core.List.{List, [], ◌∷◌}
use mathlib.Core.Path.{◌≡◌, refl, sym, ap, subst, ◌∙◌}
use native.Mathlib.Numerals.{add-one}
use native.Mathlib.Omega.{arith}
use lib.Dec.{eqb}
use lib.IntN.{ℤ, pos, neg_ℤ, nat_abs, ◌+ℤ◌, ◌-ℤ◌}
use lib.ListN.{length, get_or, drop}
use lib.Seq.{drop-cons}
use borrow.Author.Tests.{eq-eqb, ne_eqb}
use Rattle.laws.proofs.Integers.{abs_add_le, abs_sub_le}
use Rattle.laws.proofs.Ring.{P, N, eq_pn, add_pn, sub_pn, neg_pn}
use Rattle.point.specs.Limits.{bad_points}
use Rattle.point.specs.Points.{count, points, point_at}
use Rattle.point.specs.declared.PointI32.{PointI32}
use Rattle.point.specs.inside.Near.{Near}
use Rattle.reduce.specs.Kept.{select}
use Rattle.reduce.proofs.Select.{selected, unselected, no_points}
use Rattle.areas.specs.Areas.{edge, back_to, twice_area, up_to_kept, gaps, area_of_all, three_areas, ends_kept}
use Rattle.areas.specs.declared.Areas.{Areas}
use Rattle.areas.specs.inside.Added.{Small, edge_added, chord_added, closing_added}
use Rattle.areas.proofs.Cuts.{up_to_it, past_it, gap_begins, no_gap_begins, nothing_left, no_gap_left}
use Rattle.areas.proofs.Edges.{to_itself, walked_back}
use Rattle.areas.proofs.Ends.{first_kept, last_kept}
use Rattle.areas.proofs.Ways.{Along, first, ahead, next, none_ahead, near_at, small_edge, from_nothing, one_more, begun, near_prev, passed, ended}

-- ---- sums: an edge of the open gap; its last edge, and then its chord; and at the end

in_the_gap : (a e r g : ℤ) → a +ℤ e +ℤ (r +ℤ g) ≡ a +ℤ (e +ℤ r +ℤ g)
in_the_gap a e r g =
    eq_pn (a +ℤ e +ℤ (r +ℤ g)) (a +ℤ (e +ℤ r +ℤ g))
    (omega (arith, add_pn (a +ℤ e) (r +ℤ g), add_pn a e, add_pn r g, add_pn a (e +ℤ r +ℤ g), add_pn (e +ℤ r) g, add_pn e r))

closes_the_gap : (a e c b r : ℤ) → b ≡ neg_ℤ c → a +ℤ e -ℤ c +ℤ r ≡ a +ℤ (e +ℤ b +ℤ r)
closes_the_gap a e c b r back =
    eq_pn (a +ℤ e -ℤ c +ℤ r) (a +ℤ (e +ℤ b +ℤ r))
    (omega (
      arith,
      ap P back,
      ap N back,
      neg_pn c,
      add_pn (a +ℤ e -ℤ c) r,
      sub_pn (a +ℤ e) c,
      add_pn a e,
      add_pn a (e +ℤ b +ℤ r),
      add_pn (e +ℤ b) r,
      add_pn e b,
    ))

no_gap_open : (a z : ℤ) → z ≡ pos 0 → a +ℤ (z +ℤ pos 0) ≡ a
no_gap_open a z none = eq_pn (a +ℤ (z +ℤ pos 0)) a (omega (arith, ap P none, ap N none, add_pn a (z +ℤ pos 0), add_pn z (pos 0)))

module _ (list : List ℤ) (marks : List ℕ) where
  abbrev to_come : ℕ → List ℕ
  to_come i = drop i marks

  -- what the points ahead add to the kept ones, and to the gaps
  abbrev kept_ahead : ℕ → PointI32 → ℤ
  kept_ahead i from = back_to (first list) from (select (to_come i) (ahead list i))

  abbrev gaps_ahead : ℕ → PointI32 → PointI32 → ℤ
  gaps_ahead i from prev = back_to from prev (up_to_kept (to_come i) (ahead list i)) +ℤ area_of_all (gaps (to_come i) (ahead list i))

  -- `from` is the last point that was kept, and `prev` the last that was passed
  pub record Chosen (i : ℕ) (prev from : PointI32) (sums : Areas) : Type 0 where
    pub along : Along list i prev sums.whole
    pub kept_left : sums.kept +ℤ kept_ahead i from ≡ twice_area (select marks (points list))
    pub gaps_left : sums.gaps +ℤ gaps_ahead i from prev ≡ area_of_all (gaps marks (points list))
    pub kept_small : nat_abs sums.kept ≤ i * 536805378
    pub gaps_small : nat_abs sums.gaps ≤ i * 1073610756
    pub near_from : Near from
    pub kept_is : eqb (get_or marks (i - 1) 0) 0 ≡ false → prev ≡ from

  -- ---- what the next point adds

  module _ (each : length marks ≡ count list) (i : ℕ) (h : i < count list) where
    abbrev p : PointI32
    p = point_at list i

    abbrev m : ℕ
    m = get_or marks i 0

    here : to_come i ≡ m ∷ to_come (i + 1)
    here = drop-cons marks i 0 (omega (arith, each)) ∙ ap (λ (k : ℕ). m ∷ to_come k) (sym (add-one i))

    module _ (kept : eqb m 0 ≡ false) where
      kept_next : (from : PointI32) → kept_ahead i from ≡ edge from p +ℤ kept_ahead (i + 1) p
      unfolding back_to
      kept_next from = rw (here, next list i h, selected m (to_come (i + 1)) p (ahead list (i + 1)) kept)

      gap_next : (from prev : PointI32) → gaps_ahead i from prev ≡ edge prev p +ℤ edge p from +ℤ gaps_ahead (i + 1) p p
      unfolding back_to
      gap_next from prev =
          rw (here, next list i h, up_to_it m (to_come (i + 1)) p (ahead list (i + 1)) kept, gap_begins m (to_come (i + 1)) p (ahead list (i + 1)) kept)

    module _ (dropped : eqb m 0 ≡ true) where
      kept_same : (from : PointI32) → kept_ahead i from ≡ kept_ahead (i + 1) from
      kept_same from = rw (here, next list i h, unselected m (to_come (i + 1)) p (ahead list (i + 1)) dropped)

      gap_goes_on : (from prev : PointI32) → gaps_ahead i from prev
          ≡ edge prev p +ℤ back_to from p (up_to_kept (to_come (i + 1)) (ahead list (i + 1))) +ℤ area_of_all (gaps (to_come (i + 1)) (ahead list (i + 1)))
      unfolding back_to
      gap_goes_on from prev =
          rw (here, next list i h, past_it m (to_come (i + 1)) p (ahead list (i + 1)) dropped, no_gap_begins m (to_come (i + 1)) p (ahead list (i + 1)) dropped)

  -- ---- the way

  module _ (good : bad_points list ≡ false) (each : length marks ≡ count list) (ends : ends_kept marks ≡ true) where
    pub chosen_begun : 0 < count list → (p : PointI32) → p ≡ first list → Chosen 1 p p (record { whole = pos 0; kept = pos 0; gaps = pos 0 })
    unfolding twice_area
    chosen_begun some p e =
        let kept : eqb (get_or marks 0 0) 0 ≡ false = first_kept marks ends in
        record {
          along = begun list p e;
          kept_left = rw e (from_nothing (kept_ahead 1 (first list)) ∙ sym (ap twice_area (selected_first some kept)));
          gaps_left = rw e (from_nothing (gaps_ahead 1 (first list) (first list)) ∙ sym (gaps_first some kept));
          kept_small = omega arith;
          gaps_small = omega arith;
          near_from = near_at list good p 0 e;
          kept_is = λ t. refl;
        }
      where
        selected_first : 0 < count list → eqb (get_or marks 0 0) 0 ≡ false → select marks (points list) ≡ first list ∷ select (to_come 1) (ahead list 1)
        selected_first some kept = rw (here each 0 some, next list 0 some) (selected (get_or marks 0 0) (to_come 1) (first list) (ahead list 1) kept)

        gaps_first : 0 < count list → eqb (get_or marks 0 0) 0 ≡ false → area_of_all (gaps marks (points list)) ≡ gaps_ahead 1 (first list) (first list)
        gaps_first some kept = rw (here each 0 some, next list 0 some) (gap_begins (get_or marks 0 0) (to_come 1) (first list) (ahead list 1) kept)

    module _ (i : ℕ) (prev from : PointI32) (sums : Areas) (c : Chosen i prev from sums) where
      module _ (h : i < count list) (p : PointI32) (is : p ≡ point_at list i) (step : Areas) (e : step ≡ edge_added sums prev p) where
        near : Near p
        near = near_at list good p i is

        on_the_edge : nat_abs (edge prev p) ≤ 536805378
        on_the_edge = small_edge prev p (near_prev list good i prev sums.whole c.along) near

        -- it is not kept
        pub point_dropped : get_or marks i 0 ≡ 0 → Chosen (i + 1) p from step
        point_dropped d =
            let drop : eqb (get_or marks i 0) 0 ≡ true = eq-eqb _ _ d in
            let here : i + 1 - 1 ≡ i = omega arith in
            record {
              along = rw e (passed list good i prev sums.whole c.along h p is (sums.whole +ℤ edge prev p) refl);
              kept_left = rw e (ap (λ (z : ℤ). sums.kept +ℤ z) (sym (kept_same each i h drop from)) ∙ c.kept_left);
              gaps_left =
                  rw (e, is)
                  (in_the_gap sums.gaps (edge prev (point_at list i)) (back_to from (point_at list i) (up_to_kept (to_come (i + 1)) (ahead list (i + 1))))
                  (area_of_all (gaps (to_come (i + 1)) (ahead list (i + 1))))
                  ∙ ap (λ (z : ℤ). sums.gaps +ℤ z) (sym (gap_goes_on each i h drop from prev)) ∙ c.gaps_left);
              kept_small = rw e (omega (arith, c.kept_small));
              gaps_small = rw e (omega (arith, abs_add_le sums.gaps (edge prev p) c.gaps_small on_the_edge));
              near_from = c.near_from;
              kept_is = λ t. absurd (false≢true (sym t ∙ rw here drop));
            }

        -- it is kept: a chord closes the gap
        pub point_kept : (get_or marks i 0 ≡ 0 → ⊥) → (all : Areas) → all ≡ chord_added step from p → Chosen (i + 1) p p all
        point_kept n all f =
            let kept : eqb (get_or marks i 0) 0 ≡ false = ne_eqb _ _ n in
            let chord : nat_abs (edge from p) ≤ 536805378 = small_edge from p c.near_from near in
            record {
              along = rw (f, e) (passed list good i prev sums.whole c.along h p is (sums.whole +ℤ edge prev p) refl);
              kept_left =
                  rw (f, e, is)
                  (one_more sums.kept (edge from (point_at list i)) (kept_ahead (i + 1) (point_at list i))
                  ∙ ap (λ (z : ℤ). sums.kept +ℤ z) (sym (kept_next each i h kept from)) ∙ c.kept_left);
              gaps_left =
                  rw (f, e, is)
                  (closes_the_gap sums.gaps (edge prev (point_at list i)) (edge from (point_at list i)) (edge (point_at list i) from)
                  (gaps_ahead (i + 1) (point_at list i) (point_at list i)) (walked_back from (point_at list i))
                  ∙ ap (λ (z : ℤ). sums.gaps +ℤ z) (sym (gap_next each i h kept from prev)) ∙ c.gaps_left);
              kept_small = rw (f, e) (omega (arith, abs_add_le sums.kept (edge from p) c.kept_small chord));
              gaps_small =
                  rw (f, e)
                  (omega (arith, abs_sub_le (sums.gaps +ℤ edge prev p) (edge from p) (abs_add_le sums.gaps (edge prev p) c.gaps_small on_the_edge) chord));
              near_from = near;
              kept_is = λ t. refl;
            }

      -- at the end the last point is kept
      pub chosen_ended : i ≤ count list → count list ≤ i → (p : PointI32) → p ≡ first list → (r : Areas) → r ≡ closing_added sums prev p → r ≡ three_areas marks (points list)
      unfolding three_areas back_to area_of_all
      chosen_ended most done p is r e =
          let at : length marks - 1 ≡ i - 1 = omega (arith, each) in
          let same : prev ≡ from = c.kept_is (rw (← at) (last_kept marks ends)) in
          let none : ahead list i ≡ [] = none_ahead list i (omega arith) in
          let whole : sums.whole +ℤ edge prev p ≡ twice_area (points list) =
          ended list good i prev sums.whole c.along (omega arith) (sums.whole +ℤ edge prev p) (ap (λ (q : PointI32). sums.whole +ℤ edge prev q) is) in
          let kept : sums.kept +ℤ edge prev p ≡ twice_area (select marks (points list)) =
          rw (same, is) (subst (λ (ps : List PointI32). sums.kept +ℤ back_to (first list) from ps ≡ twice_area (select marks (points list)))
          (ap (select (to_come i)) none ∙ no_points (to_come i)) c.kept_left) in
          let opened : sums.gaps +ℤ gaps_ahead i from prev ≡ sums.gaps +ℤ (edge prev from +ℤ pos 0) =
          rw (none, nothing_left (to_come i), no_gap_left (to_come i)) in
          let gap : sums.gaps ≡ area_of_all (gaps marks (points list)) =
          sym (no_gap_open sums.gaps (edge prev from) (ap (λ (q : PointI32). edge q from) same ∙ to_itself from)) ∙ sym opened ∙ c.gaps_left in
          e ∙ rw (← whole, ← kept, ← gap)

module _ (list : List ℤ) (marks : List ℕ) (i : ℕ) (prev from : PointI32) (sums : Areas) (c : Chosen list marks i prev from sums) where
  pub room_for_an_edge : i ≤ 4096 → Small sums
  room_for_an_edge few = record { whole = omega (arith, c.along.small); kept = omega (arith, c.kept_small); gaps = omega (arith, c.gaps_small) }

  pub near_last : bad_points list ≡ false → Near prev
  near_last good = near_prev list good i prev sums.whole c.along
