-- The loop of `count`, over plain values: the points so far and what is left of the walk give the count of the whole. Assumes nothing.
use Prim.Native.Nat.{ℕ, ◌+◌, ◌-◌, ◌≤◌, ◌<◌}
use mathlib.Core.Bool.{Bool, true, false}
use mathlib.Core.List.{List}
use mathlib.Core.Option.{some}
use mathlib.Core.Path.{◌≡◌, refl, sym, ap, ◌∙◌}
use native.Mathlib.Omega.{arith}
use mir.Syntax.{w64}
use mir.Val.{Fits}
use Rattle.std.specs.Prelude.{Some, None}
use Rattle.point.specs.Points.{same_point}
use Rattle.point.specs.declared.PointI32.{PointI32}
use Rattle.chart.specs.Pixels.{bad_chart}
use Rattle.chart.specs.declared.Chart.{Chart}
use Rattle.walker.specs.Walk.{Walk, closed, no_way, stuck, after}
use Rattle.walker.specs.inside.Course.{OnEdge, ran_on, rest, point, place_of, counted}
use Rattle.walker.specs.declared.run.Place.{Place}
use Rattle.walker.proofs.course.Rest.{ran_facts, rest_is, judged_stuck, judged_closed, judged_on}

count_after : (n : ℕ) (p : PointI32) (w : Walk) → counted n (after p w) ≡ counted (n + 1) w
count_after n p (closed ps) = ap Some (omega arith)
count_after n p no_way = refl
count_after n p stuck = refl

pub record Counting (c : Chart) (pixels : List ℕ) (cw : Bool) (start : PointI32) (way : ℕ) (at : Place) (points : ℕ) : Type 0 where
  pub on : OnEdge c pixels at
  pub limit : at.steps ≤ 1000000
  pub few : points ≤ at.steps + 1
  pub whole : counted 1 (rest c pixels cw start (place_of start way)) ≡ counted points (rest c pixels cw start at)

module _ (c : Chart) (pixels : List ℕ) (cw : Bool) (start : PointI32) (way : ℕ) (good : bad_chart c pixels ≡ false) where
  pub count_first : OnEdge c pixels (place_of start way) → Counting c pixels cw start way (place_of start way) 1
  count_first h = record { on = h; limit = omega arith; few = omega arith; whole = refl }

  module _ (at : Place) (points : ℕ) (inv : Counting c pixels cw start way at points) where
    pub count_fits : Fits w64 (points + 1)
    count_fits = record { fits = omega (arith, inv.few, inv.limit) }

    module _ (q : Place) (ran : ran_on c pixels cw 600 at ≡ some q) where
      pub count_stuck : 1000000 < q.steps → None ≡ counted 1 (rest c pixels cw start (place_of start way))
      count_stuck h = sym (inv.whole ∙ ap (counted points) (rest_is c pixels cw good start at q inv.on inv.limit ran ∙ judged_stuck start q (rest c pixels cw start q) h))

      pub count_less : q.steps ≤ 1000000 → 1000001 - q.steps < 1000001 - at.steps
      count_less h = omega (arith, (ran_facts c pixels cw good at q inv.on ran).1)

      module _ (here : Bool) (says : here ≡ same_point (point q) start) (h : q.steps ≤ 1000000) where
        pub count_last : here ≡ true → Some (points + 1) ≡ counted 1 (rest c pixels cw start (place_of start way))
        count_last e = sym (inv.whole ∙ ap (counted points) (rest_is c pixels cw good start at q inv.on inv.limit ran ∙ judged_closed start q (rest c pixels cw start q) h (sym says ∙ e)))

        pub count_on : here ≡ false → Counting c pixels cw start way q (points + 1)
        count_on e =
            let f = ran_facts c pixels cw good at q inv.on ran in
            record {
              on = f.0;
              limit = h;
              few = omega (arith, f.1, inv.few);
              whole =
                  inv.whole
                  ∙ ap (counted points) (rest_is c pixels cw good start at q inv.on inv.limit ran ∙ judged_on start q (rest c pixels cw start q) h (sym says ∙ e))
                  ∙ count_after points (point q) (rest c pixels cw start q);
            }

pub ruleset counting = (count_first, count_fits, count_stuck, count_less, count_last, count_on)
