-- What is left of a walk at a place: its next run decides, and how many runs are allowed for makes no difference. Assumes nothing.
use Prim.Native.Nat.{ℕ, zero, suc, ◌+◌, ◌-◌, ◌≤◌, ◌<◌}
use mathlib.Core.Bool.{Bool, true, false}
use mathlib.Core.List.{List, [], ◌∷◌}
use mathlib.Core.Option.{Option, some}
use mathlib.Core.Path.{◌≡◌, refl, sym, ap, subst, ◌∙◌}
use native.Mathlib.Omega.{arith}
use lib.Dec.{ltb}
use borrow.Author.Tests.{lt-ltb, le-ltb, ltb-true, ltb-false}
use Rattle.point.specs.Points.{same_point}
use Rattle.point.specs.declared.PointI32.{PointI32}
use Rattle.chart.specs.Pixels.{bad_chart}
use Rattle.chart.specs.declared.Chart.{Chart}
use Rattle.walker.specs.Walk.{Walk, closed, stuck, after}
use Rattle.walker.specs.inside.Course.{OnEdge, ran_on, point, went_on, rest}
use Rattle.walker.specs.declared.run.Place.{Place}
use Rattle.walker.proofs.course.Follow.{run_ends, judged, went_on_lem}

-- ---- the verdict after a run

module _ (start : PointI32) (q : Place) (more : Walk) where
  pub judged_stuck : 1000000 < q.steps → judged start q more ≡ stuck
  judged_stuck h = rw (judged, lt-ltb 1000000 q.steps h)

  pub judged_closed : q.steps ≤ 1000000 → same_point (point q) start ≡ true → judged start q more ≡ closed (point q ∷ [])
  judged_closed h e = rw (judged, le-ltb 1000000 q.steps h, e)

  pub judged_on : q.steps ≤ 1000000 → same_point (point q) start ≡ false → judged start q more ≡ after (point q) more
  judged_on h e = rw (judged, le-ltb 1000000 q.steps h, e)

module _ (c : Chart) (pixels : List ℕ) (cw : Bool) (good : bad_chart c pixels ≡ false) where
  -- what a run is known to do
  pub ran_facts : (p q : Place) → OnEdge c pixels p → ran_on c pixels cw 600 p ≡ some q → OnEdge c pixels q × (p.steps < q.steps) × (q.steps ≤ p.steps + 512)
  ran_facts p q h e =
      let r = run_ends c pixels cw good p h in
      let i : r.last ≡ q = same r.last q (ran_on c pixels cw 600 p) r.runs e in
      subst (λ (q : Place). OnEdge c pixels q × (p.steps < q.steps) × (q.steps ≤ p.steps + 512)) i (r.on, r.longer, r.at_most)
    where
      same : (a b : Place) (o : Option Place) → o ≡ some a → o ≡ some b → a ≡ b
      same a b o d e = cc

  module _ (start : PointI32) where
    by_limit : (q : Place) (a b : Walk) → (q.steps ≤ 1000000 → a ≡ b) → judged start q a ≡ judged start q b
    by_limit q a b h = go (ltb 1000000 q.steps) refl
      where
        go : (t : Bool) → ltb 1000000 q.steps ≡ t → judged start q a ≡ judged start q b
        go true e = judged_stuck start q a (ltb-true 1000000 q.steps e) ∙ sym (judged_stuck start q b (ltb-true 1000000 q.steps e))
        go false e = ap (judged start q) (h (ltb-false 1000000 q.steps e))

    -- enough is enough: each run has a step
    pub enough : (m n : ℕ) (p : Place) → OnEdge c pixels p → p.steps ≤ 1000000 → 1000000 < m + p.steps → 1000000 < n + p.steps →
        went_on c pixels cw start m p ≡ went_on c pixels cw start n p
    enough zero n p h l a b = absurd (omega arith)
    enough (suc m) zero p h l a b = absurd (omega arith)
    enough (suc m) (suc n) p h l a b =
        let r = run_ends c pixels cw good p h in
        let q = r.last in
        went_on_lem c pixels cw start m p q r.runs
        ∙ by_limit q (went_on c pixels cw start m q) (went_on c pixels cw start n q) (λ k. enough m n q r.on k (omega (arith, r.longer)) (omega (arith, r.longer)))
        ∙ sym (went_on_lem c pixels cw start n p q r.runs)

    -- the run that is next decides
    pub rest_is : (p q : Place) → OnEdge c pixels p → p.steps ≤ 1000000 → ran_on c pixels cw 600 p ≡ some q → rest c pixels cw start p ≡ judged start q (rest c pixels cw start q)
    unfolding rest
    rest_is p q h l e =
        let f = ran_facts p q h e in
        let s : 1000002 - p.steps ≡ suc (1000001 - p.steps) = omega arith in
        ap (λ (n : ℕ). went_on c pixels cw start n p) s
        ∙ went_on_lem c pixels cw start (1000001 - p.steps) p q e
        ∙ by_limit q (went_on c pixels cw start (1000001 - p.steps) q) (rest c pixels cw start q)
        (λ k. enough (1000001 - p.steps) (1000002 - q.steps) q f.0 k (omega (arith, f.1)) (omega arith))
