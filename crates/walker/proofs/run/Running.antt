-- The loop of `run`, over plain values: where it stands is on the lattice, what is left of the run gives the whole, and a turn keeps both.
-- Assumes nothing.
use Prim.Native.Nat.{ℕ, zero, suc, ◌+◌, ◌-◌, ◌*◌, ◌/◌, ◌%◌, ◌^◌, ◌≤◌, ◌<◌}
use mathlib.Core.Bool.{Bool, true, false}
use mathlib.Core.List.{List}
use mathlib.Core.Option.{Option, some, none}
use mathlib.Core.Path.{◌≡◌, refl, sym, ap, ap₂, subst, subst⁻¹, ◌∙◌}
use native.Mathlib.Omega.{arith}
use mir.Syntax.{w32}
use mir.Val.{SFits, of_z, to_z}
use mir.ValLaws.{to_z-of_z}
use lib.Dec.{ltb}
use lib.IntN.{ℤ, nat_abs, ◌+ℤ◌}
use borrow.Author.Tests.{eq-eqb, ne_eqb, ltb-true, ltb-false}
use Rattle.laws.proofs.Integers.{sfits_abs, abs_add}
use Rattle.laws.proofs.Ring.{abs_pn}
use Rattle.chart.specs.Pixels.{bad_chart, around_of}
use Rattle.chart.specs.declared.Chart.{Chart}
use Rattle.chart.proofs.FourPixels.{around_lt}
use Rattle.walker.specs.Walk.{moved}
use Rattle.walker.specs.inside.Course.{OnEdge, ExitsAfter, across, downward, stepped, turned, next, onward, ran_on, goes_on, point}
use Rattle.walker.specs.declared.run.Place.{Place}
use Rattle.walker.proofs.WayBack.{stood, along_on}
use Rattle.walker.proofs.run.Runs.{placed, placed_moved}
use Rattle.walker.proofs.course.Follow.{edge_walker, edge_lattice, on_edge, run_ends}

pub around_small : (c : Chart) (pixels : List ℕ) (x y : ℤ) (m : ℕ) → m ≡ around_of c pixels x y → m < 16
around_small c pixels x y m e = omega (arith, around_lt c pixels x y)

-- a step along an exit leads to another
on_next : (c : Chart) (pixels : List ℕ) (cw : Bool) (p : Place) → OnEdge c pixels p → OnEdge c pixels (turned (stepped p) (next c pixels cw (stepped p)))
unfolding next
on_next c pixels cw p h =
    let t = edge_walker c pixels p h in
    let w = stood (point p) p.steps in
    let s = along_on c pixels cw w t.0 t.2 in
    subst (OnEdge c pixels)
    (ap (turned (placed (moved w t.0) t.0)) s.2 ∙ ap (λ (q : Place). turned q (next c pixels cw q)) (placed_moved w t.0 ∙ ap stepped t.1))
    (on_edge c pixels (moved w t.0) s.0 s.3)

-- a place on an exit has small coordinates
pub small : (c : Chart) (pixels : List ℕ) → bad_chart c pixels ≡ false → (p : Place) → OnEdge c pixels p → (nat_abs p.x ≤ 512) × (nat_abs p.y ≤ 512)
small c pixels good p h =
    let l = edge_lattice c pixels good p h in
    (omega (arith, l.across.0, l.across.1, abs_pn p.x), omega (arith, l.along.0, l.along.1, abs_pn p.y))

-- what is left where the same exit was found, where another was, and after a step more
module _ (c : Chart) (pixels : List ℕ) (cw : Bool) (n : ℕ) (p : Place) where
  goes_same : (way : ℕ) → way ≡ p.way → goes_on c pixels cw n p way ≡ ran_on c pixels cw n p
  goes_same way e = ap (λ (b : Bool). elim b as (λ _. Option Place) [ true ↦ ran_on c pixels cw n p | false ↦ some (turned p way) ]) (eq-eqb way p.way e)

  goes_else : (way : ℕ) → (way ≡ p.way → ⊥) → goes_on c pixels cw n p way ≡ some (turned p way)
  goes_else way e = ap (λ (b : Bool). elim b as (λ _. Option Place) [ true ↦ ran_on c pixels cw n p | false ↦ some (turned p way) ]) (ne_eqb way p.way e)

  goes_on_lem : goes_on c pixels cw n (stepped p) (next c pixels cw (stepped p)) ≡ ran_on c pixels cw (suc n) p
  unfolding ran_on
  goes_on_lem = refl

ran_none : (c : Chart) (pixels : List ℕ) (cw : Bool) (p : Place) → ran_on c pixels cw 0 p ≡ none
unfolding ran_on
ran_none c pixels cw p = refl

-- a step is short
across_small : (way : ℕ) → way < 4 → nat_abs (across way) ≤ 1
unfolding across
across_small zero h = omega arith
across_small (suc zero) h = omega arith
across_small (suc (suc zero)) h = omega arith
across_small (suc (suc (suc zero))) h = omega arith
across_small (suc (suc (suc (suc n)))) h = absurd (omega arith)

downward_small : (way : ℕ) → way < 4 → nat_abs (downward way) ≤ 1
unfolding downward
downward_small zero h = omega arith
downward_small (suc zero) h = omega arith
downward_small (suc (suc zero)) h = omega arith
downward_small (suc (suc (suc zero))) h = omega arith
downward_small (suc (suc (suc (suc n)))) h = absurd (omega arith)

-- what the code adds to a coordinate, by its bits
bits_of : (a b : ℤ) → nat_abs b ≤ 1 → a ≡ b → to_z w32 (of_z w32 a) ≡ b
bits_of a b k e = to_z-of_z w32 a (sfits_abs (omega (arith, ap nat_abs e))) ∙ e

sum_fits : (z b : ℤ) → nat_abs z ≤ 512 → nat_abs b ≤ 1 → SFits w32 (z +ℤ b)
sum_fits z b h k = sfits_abs (omega (arith, abs_add z b))

-- ---- where the loop stands

abbrev at : ℤ → ℤ → ℕ → ℕ → Place
at x y way steps = record { x = x; y = y; way = way; steps = steps }

pub record Running (c : Chart) (pixels : List ℕ) (cw : Bool) (from : Place) (x y : ℤ) (steps out : ℕ) : Type 0 where
  pub on : OnEdge c pixels (at x y out steps)
  pub least : from.steps ≤ steps
  pub most : steps ≤ from.steps + 600
  pub left : goes_on c pixels cw (600 + from.steps - steps) (at x y from.way steps) out ≡ ran_on c pixels cw 600 from

module _ (c : Chart) (pixels : List ℕ) (cw : Bool) (from : Place) (good : bad_chart c pixels ≡ false) (edge : OnEdge c pixels from) where
  -- it begins at a place on an exit
  pub begins : Running c pixels cw from from.x from.y from.steps from.way
  begins =
      let n : 600 + from.steps - from.steps ≡ 600 = omega arith in
      record {
        on = edge;
        least = omega arith;
        most = omega arith;
        left = rw n (goes_same c pixels cw 600 from from.way refl);
      }

  module _ (x y : ℤ) (steps out : ℕ) (inv : Running c pixels cw from x y steps out) where
    -- the exit found is another: the run has ended
    pub ended : (out ≡ from.way → ⊥) → ran_on c pixels cw 600 from ≡ some (at x y out steps)
    ended e = sym inv.left ∙ goes_else c pixels cw (600 + from.steps - steps) (at x y from.way steps) out e

    -- the exit found is the same
    module _ (same : out ≡ from.way) where
      here : OnEdge c pixels (at x y from.way steps)
      here = subst (λ (n : ℕ). OnEdge c pixels (at x y n steps)) same inv.on

      left_here : ran_on c pixels cw (600 + from.steps - steps) (at x y from.way steps) ≡ ran_on c pixels cw 600 from
      left_here = sym (goes_same c pixels cw (600 + from.steps - steps) (at x y from.way steps) out same) ∙ inv.left

      pub fewer : steps < from.steps + 600
      fewer = go (ltb steps (from.steps + 600)) refl
        where
          go : (b : Bool) → ltb steps (from.steps + 600) ≡ b → steps < from.steps + 600
          go true e = ltb-true steps (from.steps + 600) e
          go false e =
              let n : 600 + from.steps - steps ≡ 0 = omega (arith, ltb-false steps (from.steps + 600) e) in
              let r = run_ends c pixels cw good from edge in
              absurd (never (ran_on c pixels cw 600 from) r.last
              (sym left_here ∙ ap (λ (n : ℕ). ran_on c pixels cw n (at x y from.way steps)) n ∙ ran_none c pixels cw (at x y from.way steps)) r.runs)
            where
              never : (o : Option Place) (q : Place) → o ≡ none → o ≡ some q → ⊥
              never o q d e = let z : ◌≡◌ {A = ℕ} 0 1 = cc in omega arith

      near : (nat_abs x ≤ 512) × (nat_abs y ≤ 512)
      near = small c pixels good (at x y from.way steps) here

      pub less : 600 + from.steps - (steps + 1) < 600 + from.steps - steps
      less = omega (arith, fewer)

      module _ (dx : ℤ) (right : dx ≡ across from.way) where
        dx_is : to_z w32 (of_z w32 dx) ≡ across from.way
        dx_is = bits_of dx (across from.way) (across_small from.way here.way) right

        pub fits_x : SFits w32 (x +ℤ to_z w32 (of_z w32 dx))
        fits_x = rw dx_is (sum_fits x (across from.way) near.0 (across_small from.way here.way))

        x_is : to_z w32 (of_z w32 (x +ℤ to_z w32 (of_z w32 dx))) ≡ x +ℤ across from.way
        x_is = to_z-of_z w32 (x +ℤ to_z w32 (of_z w32 dx)) fits_x ∙ ap (λ (d : ℤ). x +ℤ d) dx_is

      module _ (dy : ℤ) (down : dy ≡ downward from.way) where
        dy_is : to_z w32 (of_z w32 dy) ≡ downward from.way
        dy_is = bits_of dy (downward from.way) (downward_small from.way here.way) down

        pub fits_y : SFits w32 (y +ℤ to_z w32 (of_z w32 dy))
        fits_y = rw dy_is (sum_fits y (downward from.way) near.1 (downward_small from.way here.way))

        y_is : to_z w32 (of_z w32 (y +ℤ to_z w32 (of_z w32 dy))) ≡ y +ℤ downward from.way
        y_is = to_z-of_z w32 (y +ℤ to_z w32 (of_z w32 dy)) fits_y ∙ ap (λ (d : ℤ). y +ℤ d) dy_is

      -- a turn
      module _ (dx dy : ℤ) (right : dx ≡ across from.way) (down : dy ≡ downward from.way) where
        abbrev x' : ℤ
        x' = to_z w32 (of_z w32 (x +ℤ to_z w32 (of_z w32 dx)))

        abbrev y' : ℤ
        y' = to_z w32 (of_z w32 (y +ℤ to_z w32 (of_z w32 dy)))

        stepped_at : at x' y' from.way (steps + 1) ≡ stepped (at x y from.way steps)
        stepped_at = λ i. record { x = x_is dx right i; y = y_is dy down i; way = from.way; steps = steps + 1 }

        pub again : (word m r : ℕ) → ExitsAfter word cw from.way → m ≡ around_of c pixels x' y' → r ≡ word / 2 ^ (2 * m) % 4 → Running c pixels cw from x' y' (steps + 1) r
        again word m r w e f =
            let p = at x y from.way steps in
            let n = 600 + from.steps - (steps + 1) in
            let k : suc n ≡ 600 + from.steps - steps = omega (arith, fewer) in
            let found : r ≡ next c pixels cw (stepped p) =
            f ∙ w.at m (around_small c pixels x' y' m e) ∙ ap (λ (m : ℕ). onward m cw from.way) e ∙ unfold next in ap (next c pixels cw) stepped_at in
            record {
              on = subst⁻¹ (OnEdge c pixels) (ap (λ (q : Place). turned q r) stepped_at ∙ ap (turned (stepped p)) found) (on_next c pixels cw p here);
              least = omega (arith, inv.least);
              most = omega (arith, fewer);
              left =
                  ap₂ (goes_on c pixels cw n) stepped_at found
                  ∙ goes_on_lem c pixels cw n p
                  ∙ ap (λ (n : ℕ). ran_on c pixels cw n p) k
                  ∙ left_here;
            }

pub ruleset running = (begins, ended, fits_x, fits_y, around_small, less, again)
