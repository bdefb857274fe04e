-- The walk by places is the walk of the definition; and what is known of a run from a place on an exit. Assumes nothing.
use Prim.Native.Nat.{ℕ, zero, suc, ◌+◌, ◌≤◌, ◌<◌}
use mathlib.Core.Bool.{Bool, true, false}
use mathlib.Core.List.{List, [], ◌∷◌}
use mathlib.Core.Option.{Option, some, none}
use mathlib.Core.Path.{◌≡◌, refl, sym, ap, ◌∙◌}
use native.Mathlib.Omega.{arith}
use lib.Dec.{ltb, lit<}
use Rattle.point.specs.Points.{same_point}
use Rattle.point.specs.declared.PointI32.{PointI32}
use Rattle.chart.specs.Pixels.{pixel_at, around_of, bad_chart}
use Rattle.chart.specs.declared.Chart.{Chart}
use Rattle.walker.specs.Walk.{Pixels, Way, up, right, down, left, Walker, moved, Run, ends, nowhere, run, Walk, closed, no_way, stuck, after, follow}
use Rattle.walker.specs.inside.Course.{exit_in, OnEdge, ran_on, point, went_on}
use Rattle.walker.specs.declared.run.Place.{Place}
use Rattle.walker.proofs.exits.Tables.{way_no, exit_in_lem}
use Rattle.walker.proofs.WayBack.{Along, along_stood, stood}
use Rattle.walker.proofs.ShortRuns.{room_most, on_lattice, OnLattice}
use Rattle.walker.proofs.run.Runs.{placed, Ran, ran}

-- the way of a number
way_of : (n : ℕ) → n < 4 → (d : Way) × (way_no d ≡ n)
way_of zero h = (up, refl)
way_of (suc zero) h = (right, refl)
way_of (suc (suc zero)) h = (down, refl)
way_of (suc (suc (suc zero))) h = (left, refl)
way_of (suc (suc (suc (suc n)))) h = absurd (omega arith)

way_small : (d : Way) → way_no d < 4
way_small up = lit< tt
way_small right = lit< tt
way_small down = lit< tt
way_small left = lit< tt

-- what is judged after a run that ended at q, where `more` is the rest of the walk
abbrev pub judged : PointI32 → Place → Walk → Walk
judged start q more = elim (ltb 1000000 q.steps) as (λ _. Walk) [
  | true ↦ stuck
  | false ↦ elim (same_point (point q) start) as (λ _. Walk) [ true ↦ closed (point q ∷ []) | false ↦ after (point q) more ]
]

pub followed : (set : Pixels) (cw : Bool) (start : PointI32) (n : ℕ) (w : Walker) (d : Way) (v : Walker) (e : Way) → run set cw 600 (moved w d) d ≡ ends v e →
    follow set cw start (suc n) w d ≡ judged start (placed v e) (follow set cw start n v e)
unfolding follow
followed set cw start n w d v e h = ap (λ (o : Run). elim o as (λ _. Walk) [ nowhere ↦ no_way | ends v e ↦ judged start (placed v e) (follow set cw start n v e) ]) h

pub went_on_lem : (c : Chart) (pixels : List ℕ) (cw : Bool) (start : PointI32) (n : ℕ) (p q : Place) → ran_on c pixels cw 600 p ≡ some q →
    went_on c pixels cw start (suc n) p ≡ judged start q (went_on c pixels cw start n q)
unfolding went_on
went_on_lem c pixels cw start n p q e = ap (λ (o : Option Place). elim o as (λ _. Walk) [ none ↦ no_way | some q ↦ judged start q (went_on c pixels cw start n q) ]) e

module _ (c : Chart) (pixels : List ℕ) where
  pub on_edge : (w : Walker) (d : Way) → Along (pixel_at c pixels) w d → OnEdge c pixels (placed w d)
  on_edge w d h = record { way = way_small d; edge = exit_in_lem c pixels w.curr d ∙ h.edge }

  -- a place on an exit is that of a walker
  pub edge_walker : (p : Place) → OnEdge c pixels p → (d : Way) × (placed (stood (point p) p.steps) d ≡ p) × Along (pixel_at c pixels) (stood (point p) p.steps) d
  edge_walker p h =
      let t = way_of p.way h.way in (
        t.0,
        λ i. record { x = p.x; y = p.y; way = t.1 i; steps = p.steps },
        along_stood (pixel_at c pixels) (point p) p.steps t.0
            (sym (exit_in_lem c pixels (point p) t.0) ∙ ap (exit_in (around_of c pixels p.x p.y)) t.1 ∙ h.edge),
      )

  -- a place on an exit is on the lattice
  pub edge_lattice : bad_chart c pixels ≡ false → (p : Place) → OnEdge c pixels p → OnLattice (point p)
  edge_lattice good p h = let t = edge_walker p h in on_lattice c pixels good (point p) t.0 t.2.edge

  module _ (cw : Bool) (good : bad_chart c pixels ≡ false) where
    pub whole_run : (w : Walker) (d : Way) → Along (pixel_at c pixels) w d → Ran c pixels cw 600 w d
    whole_run w d h = ran c pixels cw good 600 w d h (omega (arith, room_most w.curr d (on_lattice c pixels good w.curr d h.edge)))

    -- the run from a place on an exit ends at such a place
    pub record Ends (p : Place) : Type 0 where
      pub last : Place
      pub runs : ran_on c pixels cw 600 p ≡ some last
      pub on : OnEdge c pixels last
      pub longer : p.steps < last.steps
      pub at_most : last.steps ≤ p.steps + 512

    pub run_ends : (p : Place) → OnEdge c pixels p → Ends p
    run_ends p h =
        let t = edge_walker p h in
        let w = stood (point p) p.steps in
        let r = whole_run w t.0 t.2 in
        record {
          last = placed r.last r.way;
          runs = ap (ran_on c pixels cw 600) (sym t.1) ∙ r.by_place;
          on = on_edge r.last r.way r.along;
          longer = r.longer;
          at_most = omega (arith, r.at_most, room_most (point p) t.0 (edge_lattice good p h));
        }

    -- ---- the walk

    pub follow_is : (start : PointI32) (n : ℕ) (w : Walker) (d : Way) → Along (pixel_at c pixels) w d →
        follow (pixel_at c pixels) cw start n w d ≡ went_on c pixels cw start n (placed w d)
    follow_is start zero w d h = unfold follow went_on in refl
    follow_is start (suc n) w d h =
        let r = whole_run w d h in
        followed (pixel_at c pixels) cw start n w d r.last r.way r.by_walker
        ∙ ap (judged start (placed r.last r.way)) (follow_is start n r.last r.way r.along)
        ∙ sym (went_on_lem c pixels cw start n (placed w d) (placed r.last r.way) r.by_place)
