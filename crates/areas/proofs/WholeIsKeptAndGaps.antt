-- How much sand did the zoom take? What a zoom keeps of a bank, and the gaps between the points that it keeps, are the whole bank: twice the area of
-- a list of points is twice that of the kept points and the signed sum over the gaps together. `whole_is_kept_and_gaps` says so for every list and
-- every choice of its points with both ends (document 02, 3/13), and `at_every_tolerance` for what a reduction keeps.
--
-- Why: every edge of the list lies in one gap, so the gaps add up all edges, and take off all chords; a chord is an edge of the kept points; and the
-- edge from the last point to the first, which closes the list, closes the kept points too. Assumes nothing.
use Prim.Native.Nat.{ℕ, suc, ◌-◌, ◌<◌}
use mathlib.Core.Bool.{Bool, true, false, false≢true}
use mathlib.Core.List.{List, [], ◌∷◌}
use mathlib.Core.Path.{◌≡◌, refl, sym, ap, ◌∙◌}
use native.Mathlib.Omega.{arith}
use lib.Dec.{eqb}
use lib.Ieee.{Float}
use lib.IntN.{ℤ, pos, neg_ℤ, ◌+ℤ◌}
use lib.ListN.{length, get_or}
use Rattle.laws.proofs.Ring.{P, N, eq_pn, add_pn, neg_pn}
use Rattle.point.specs.Points.{count, points}
use Rattle.point.specs.declared.PointI32.{PointI32}
use Rattle.point.proofs.Flat.{length_points}
use Rattle.reduce.specs.Kept.{select}
use Rattle.reduce.proofs.Select.{selected, unselected}
use Rattle.split.specs.Tree.{marks_of}
use Rattle.split.proofs.Claims.{a_mark_for_each_point}
use Rattle.areas.specs.Areas.{edge, back_to, twice_area, up_to_kept, gaps, area_of_all, ends_kept}
use Rattle.areas.proofs.Cuts.{up_to_it, past_it, gap_begins, no_gap_begins}
use Rattle.areas.proofs.Edges.{to_itself, walked_back}
use Rattle.areas.proofs.Ends.{first_kept, last_kept, ends_are_kept}

-- ---- on the way along a list: `prev` is the last point that was passed, `from` the last of these that is kept, and `first` the first of the list

-- The last of the marks that are left keeps its point; where none is left, the last point that was passed was kept.
abbrev Ends : PointI32 → PointI32 → List ℕ → Type 0
Ends from prev [] = prev ≡ from
Ends from prev (m ∷ marks) = eqb (get_or (m ∷ marks) (length marks) 0) 0 ≡ false

-- one point further, which is not kept, or is
passed : (from prev p : PointI32) (m : ℕ) (marks : List ℕ) → eqb m 0 ≡ true → Ends from prev (m ∷ marks) → Ends from p marks
passed from prev p m [] e end = absurd (false≢true (sym end ∙ e))
passed from prev p m (k ∷ marks) e end = end

reached : (from prev p : PointI32) (m : ℕ) (marks : List ℕ) → Ends from prev (m ∷ marks) → Ends p p marks
reached from prev p m [] end = refl
reached from prev p m (k ∷ marks) end = end

-- an edge more: of the open gap; or its last, and then its chord, walked back, closes it, and is an edge of the kept points
edge_more : (e s u g : ℤ) → e +ℤ (s +ℤ (u +ℤ g)) ≡ s +ℤ (e +ℤ u +ℤ g)
edge_more e s u g =
    eq_pn (e +ℤ (s +ℤ (u +ℤ g))) (s +ℤ (e +ℤ u +ℤ g))
    (omega (arith, add_pn e (s +ℤ (u +ℤ g)), add_pn s (u +ℤ g), add_pn u g, add_pn s (e +ℤ u +ℤ g), add_pn (e +ℤ u) g, add_pn e u))

gap_closed : (e c b s r : ℤ) → b ≡ neg_ℤ c → e +ℤ (s +ℤ r) ≡ c +ℤ s +ℤ (e +ℤ b +ℤ r)
gap_closed e c b s r back =
    eq_pn (e +ℤ (s +ℤ r)) (c +ℤ s +ℤ (e +ℤ b +ℤ r))
    (omega (arith, ap P back, ap N back, neg_pn c, add_pn e (s +ℤ r), add_pn s r, add_pn (c +ℤ s) (e +ℤ b +ℤ r), add_pn c s, add_pn (e +ℤ b) r, add_pn e b))

-- at the end, where nothing is open
closed : (e z : ℤ) → z ≡ pos 0 → e ≡ e +ℤ (z +ℤ pos 0)
closed e z none = eq_pn e (e +ℤ (z +ℤ pos 0)) (omega (arith, ap P none, ap N none, add_pn e (z +ℤ pos 0), add_pn z (pos 0)))

-- What is left of the whole is what is left of the kept points, of the gap that is open, and the gaps behind it.
pub what_is_left : (first from prev : PointI32) (marks : List ℕ) (ps : List PointI32) → length marks ≡ length ps → Ends from prev marks →
    back_to first prev ps ≡ back_to first from (select marks ps) +ℤ (back_to from prev (up_to_kept marks ps) +ℤ area_of_all (gaps marks ps))
unfolding back_to select up_to_kept gaps area_of_all
what_is_left first from prev [] [] e end =
    ap (λ (p : PointI32). edge p first) end ∙ closed (edge from first) (edge prev from) (ap (λ (p : PointI32). edge p from) end ∙ to_itself from)
what_is_left first from prev [] (p ∷ ps) e end = absurd (omega arith)
what_is_left first from prev (m ∷ marks) [] e end = absurd (omega arith)
what_is_left first from prev (m ∷ marks) (p ∷ ps) e end =
    by (eqb m 0) refl (λ t. what_is_left first from p marks ps (omega arith) (passed from prev p m marks t end))
    (what_is_left first p p marks ps (omega arith) (reached from prev p m marks end))
  where
    by : (t : Bool) → eqb m 0 ≡ t →
        (eqb m 0 ≡ true → back_to first p ps ≡ back_to first from (select marks ps) +ℤ (back_to from p (up_to_kept marks ps) +ℤ area_of_all (gaps marks ps))) →
        back_to first p ps ≡ back_to first p (select marks ps) +ℤ (back_to p p (up_to_kept marks ps) +ℤ area_of_all (gaps marks ps)) →
        edge prev p +ℤ back_to first p ps
        ≡ back_to first from (select (m ∷ marks) (p ∷ ps))
        +ℤ (back_to from prev (up_to_kept (m ∷ marks) (p ∷ ps)) +ℤ area_of_all (gaps (m ∷ marks) (p ∷ ps)))
    by true t on ok =
        rw (on t, unselected m marks p ps t, past_it m marks p ps t, no_gap_begins m marks p ps t)
        (edge_more (edge prev p) (back_to first from (select marks ps)) (back_to from p (up_to_kept marks ps)) (area_of_all (gaps marks ps)))
    by false t on ok =
        rw (ok, selected m marks p ps t, up_to_it m marks p ps t, gap_begins m marks p ps t)
        (gap_closed (edge prev p) (edge from p) (edge p from) (back_to first p (select marks ps))
        (back_to p p (up_to_kept marks ps) +ℤ area_of_all (gaps marks ps)) (walked_back from p))

-- ---- the theorem

-- For every list of points, and every choice of these with both ends: a mark for each, and neither the first nor the last is 0.
pub whole_is_kept_and_gaps : (marks : List ℕ) (ps : List PointI32) → length marks ≡ length ps → ends_kept marks ≡ true →
    twice_area ps ≡ twice_area (select marks ps) +ℤ area_of_all (gaps marks ps)
unfolding twice_area
whole_is_kept_and_gaps [] [] e ends = absurd (false≢true (unfold ends_kept in ends))
whole_is_kept_and_gaps [] (p ∷ ps) e ends = absurd (omega arith)
whole_is_kept_and_gaps (m ∷ marks) [] e ends = absurd (omega arith)
whole_is_kept_and_gaps (m ∷ marks) (p ∷ ps) e ends =
    rw (selected m marks p ps (first_kept (m ∷ marks) ends), gap_begins m marks p ps (first_kept (m ∷ marks) ends))
    (what_is_left p p p marks ps (omega arith) (reached p p p m marks (rw (← minus_one (length marks)) (last_kept (m ∷ marks) ends))))
  where
    minus_one : (n : ℕ) → suc n - 1 ≡ n
    minus_one n = omega arith

-- What Douglas-Peucker keeps of a list, at every squared tolerance: its marks have both ends.
pub at_every_tolerance : (list : List ℤ) (tolerance : Float) → 0 < count list →
    twice_area (points list) ≡ twice_area (select (marks_of tolerance list) (points list)) +ℤ area_of_all (gaps (marks_of tolerance list) (points list))
at_every_tolerance list tolerance some =
    whole_is_kept_and_gaps (marks_of tolerance list) (points list)
    (a_mark_for_each_point list tolerance some ∙ sym (length_points list)) (ends_are_kept list tolerance)
