-- A run by places is the run of the definition: from a place on an exit both end, at the same point, within 512 steps. Assumes nothing.
use Prim.Native.Nat.{ℕ, zero, suc, ◌+◌, ◌≤◌, ◌<◌}
use mathlib.Core.Bool.{Bool, true, false, true≢false}
use mathlib.Core.List.{List}
use mathlib.Core.Option.{Option, some, none}
use mathlib.Core.Path.{◌≡◌, refl, sym, ap, subst, ◌∙◌}
use native.Mathlib.Numerals.{add-one}
use native.Mathlib.Omega.{arith}
use lib.Dec.{eqb}
use lib.IntN.{pos, negsuc, ◌+ℤ◌, +ℤ_idr}
use Rattle.chart.specs.Pixels.{pixel_at, around_of, bad_chart}
use Rattle.chart.specs.declared.Chart.{Chart}
use Rattle.walker.specs.Walk.{Pixels, Way, up, right, down, left, Walker, ahead, same_way, moved, taken, Run, ends, nowhere, run}
use Rattle.walker.specs.inside.Course.{across, downward, stepped, turned, next, onward, ran_on, goes_on}
use Rattle.walker.specs.declared.run.Place.{Place}
use Rattle.walker.proofs.AllCases.{at_w2, same, same_eq}
use Rattle.walker.proofs.exits.Tables.{way_no}
use Rattle.walker.proofs.WayBack.{Along, along_on}
use Rattle.walker.proofs.ShortRuns.{room, room_falls}

-- where a walker stands that is about to go in a direction
abbrev pub placed : Walker → Way → Place
placed w d = record { x = w.curr.x; y = w.curr.y; way = way_no d; steps = w.steps }

pub placed_moved : (w : Walker) (d : Way) → placed (moved w d) d ≡ stepped (placed w d)
unfolding across downward
placed_moved w up = λ i. record { x = sym (+ℤ_idr w.curr.x) i; y = w.curr.y +ℤ negsuc 0; way = 0; steps = sym (add-one w.steps) i }
placed_moved w right = λ i. record { x = w.curr.x +ℤ pos 1; y = sym (+ℤ_idr w.curr.y) i; way = 1; steps = sym (add-one w.steps) i }
placed_moved w down = λ i. record { x = sym (+ℤ_idr w.curr.x) i; y = w.curr.y +ℤ pos 1; way = 2; steps = sym (add-one w.steps) i }
placed_moved w left = λ i. record { x = w.curr.x +ℤ negsuc 0; y = sym (+ℤ_idr w.curr.y) i; way = 3; steps = sym (add-one w.steps) i }

-- ways are the same where their numbers are
same_number : (d k : Way) → eqb (way_no k) (way_no d) ≡ same_way d k
same_number d k = same_eq _ _ (at_w2 (λ d k. same (eqb (way_no k) (way_no d)) (same_way d k)) tt d k)

pub same_way_lem : (d k : Way) → same_way d k ≡ true → k ≡ d
same_way_lem up up e = refl
same_way_lem up right e = absurd (true≢false (sym e))
same_way_lem up down e = absurd (true≢false (sym e))
same_way_lem up left e = absurd (true≢false (sym e))
same_way_lem right up e = absurd (true≢false (sym e))
same_way_lem right right e = refl
same_way_lem right down e = absurd (true≢false (sym e))
same_way_lem right left e = absurd (true≢false (sym e))
same_way_lem down up e = absurd (true≢false (sym e))
same_way_lem down right e = absurd (true≢false (sym e))
same_way_lem down down e = refl
same_way_lem down left e = absurd (true≢false (sym e))
same_way_lem left up e = absurd (true≢false (sym e))
same_way_lem left right e = absurd (true≢false (sym e))
same_way_lem left down e = absurd (true≢false (sym e))
same_way_lem left left e = refl

-- one step of a run, by the exit that is found
pub walker_step : (set : Pixels) (cw : Bool) (n : ℕ) (w : Walker) (d k : Way) (s : Bool) → taken set cw w ≡ some k → same_way d k ≡ s →
    run set cw (suc n) w d ≡ (elim s as (λ _. Run) [ true ↦ run set cw n (moved w d) d | false ↦ ends w k ])
unfolding run
walker_step set cw n w d k s e f =
    ap (λ (o : Option Way). elim o as (λ _. Run) [
      | none ↦ nowhere
      | some e ↦ elim (same_way d e) as (λ _. Run) [ true ↦ run set cw n (moved w d) d | false ↦ ends w e ]
    ]) e
    ∙ ap (λ (b : Bool). elim b as (λ _. Run) [ true ↦ run set cw n (moved w d) d | false ↦ ends w k ]) f

place_step : (c : Chart) (pixels : List ℕ) (cw : Bool) (n : ℕ) (p q : Place) (way : ℕ) (s : Bool) → q ≡ stepped p → next c pixels cw q ≡ way → eqb way q.way ≡ s →
    ran_on c pixels cw (suc n) p ≡ (elim s as (λ _. Option Place) [ true ↦ ran_on c pixels cw n q | false ↦ some (turned q way) ])
unfolding ran_on
place_step c pixels cw n p q way s e f g =
    ap (λ (r : Place). goes_on c pixels cw n r (next c pixels cw r)) (sym e)
    ∙ ap (goes_on c pixels cw n q) f
    ∙ ap (λ (b : Bool). elim b as (λ _. Option Place) [ true ↦ ran_on c pixels cw n q | false ↦ some (turned q way) ]) g

module _ (c : Chart) (pixels : List ℕ) (cw : Bool) where
  -- a run of at most n steps that both follow to its end
  pub record Ran (n : ℕ) (w : Walker) (d : Way) : Type 0 where
    pub last : Walker
    pub way : Way
    pub by_walker : run (pixel_at c pixels) cw n (moved w d) d ≡ ends last way
    pub by_place : ran_on c pixels cw n (placed w d) ≡ some (placed last way)
    pub along : Along (pixel_at c pixels) last way
    pub longer : w.steps < last.steps
    pub at_most : last.steps ≤ w.steps + room w.curr d

  module _ (good : bad_chart c pixels ≡ false) where
    pub ran : (n : ℕ) (w : Walker) (d : Way) → Along (pixel_at c pixels) w d → room w.curr d < n → Ran n w d
    ran zero w d h k = absurd (omega arith)
    ran (suc n) w d h k = turn (same_way d t.0) refl (ran n (moved w d) d)
      where
        t : (k : Way) × (taken (pixel_at c pixels) cw (moved w d) ≡ some k)
            × (way_no k ≡ onward (around_of c pixels (ahead w.curr d).x (ahead w.curr d).y) cw (way_no d)) × Along (pixel_at c pixels) (moved w d) k
        t = along_on c pixels cw w d h

        nearer : suc (room (ahead w.curr d) d) ≡ room w.curr d
        nearer = room_falls c pixels good w.curr d h.edge

        found : next c pixels cw (placed (moved w d) d) ≡ way_no t.0
        found = unfold next in sym t.2

        turn : (s : Bool) → same_way d t.0 ≡ s → (Along (pixel_at c pixels) (moved w d) d → room (ahead w.curr d) d < n → Ran n (moved w d) d) → Ran (suc n) w d
        turn true e more =
            let r = more (subst (Along (pixel_at c pixels) (moved w d)) (same_way_lem d t.0 e) t.3) (omega (arith, nearer)) in
            record {
              last = r.last;
              way = r.way;
              by_walker = walker_step (pixel_at c pixels) cw n (moved w d) d t.0 true t.1 e ∙ r.by_walker;
              by_place = place_step c pixels cw n (placed w d) (placed (moved w d) d) (way_no t.0) true (placed_moved w d) found (same_number d t.0 ∙ e) ∙ r.by_place;
              along = r.along;
              longer = omega (arith, r.longer);
              at_most = omega (arith, r.at_most, nearer);
            }
        turn false e more = record {
          last = moved w d;
          way = t.0;
          by_walker = walker_step (pixel_at c pixels) cw n (moved w d) d t.0 false t.1 e;
          by_place = place_step c pixels cw n (placed w d) (placed (moved w d) d) (way_no t.0) false (placed_moved w d) found (same_number d t.0 ∙ e);
          along = t.3;
          longer = omega arith;
          at_most = omega (arith, nearer);
        }
