-- When a walk is stuck, said without the numbers that the definition counts down: `stuck_exactly`. And that those numbers make no difference:
-- `run_fuel_suffices`, `fuel_suffices`. Assumes nothing.
use Prim.Native.Nat.{ℕ, zero, suc, ◌+◌, ◌*◌, ◌≤◌, ◌<◌}
use mathlib.Core.Bool.{Bool, true, false, not, ◌&&◌, true≢false}
use mathlib.Core.List.{List, [], ◌∷◌}
use mathlib.Core.Option.{Option, some, none}
use mathlib.Core.Logic.{◌↔◌}
use mathlib.Core.Path.{◌≡◌, refl, sym, ap, subst, ◌∙◌}
use native.Mathlib.Omega.{arith}
use lib.Dec.{ltb}
use lib.IntN.{ℤ}
use lib.ListN.{length}
use borrow.Author.Tests.{ltb-true, ltb-false}
use Rattle.std.specs.Prelude.{Err}
use Rattle.point.specs.Points.{same_point}
use Rattle.point.specs.Limits.{in_range}
use Rattle.point.specs.Outcomes.{outcome}
use Rattle.point.specs.Refusals.{refuse◌when◌or◌, number_of}
use Rattle.point.specs.declared.PointI32.{PointI32}
use Rattle.point.specs.declared.refusal.Refusal.TheVariants.{BadSize, BadPoint, Stuck}
use Rattle.chart.specs.Pixels.{bad_chart, pixel_at}
use Rattle.chart.specs.declared.Chart.{Chart}
use Rattle.walker.specs.Walk.{Pixels, Way, up, right, down, left, Walker, same_way, taken, at_start, moved, Run, ends, nowhere, run, Walk, closed, no_way, stuck, after, follow, walk_from, ended, walked}
use Rattle.walker.proofs.Limit.{EndsAt, turns, goes_on, Runs, none_yet, one_more, TooLong, FirstTooLong}
use Rattle.walker.proofs.run.Runs.{same_way_lem, walker_step, ran, placed}
use Rattle.point.proofs.SamePoint.{same_point_lem, test_same}
use Rattle.walker.proofs.WayBack.{Along}
use Rattle.walker.proofs.ShortRuns.{room_most, on_lattice}
use Rattle.walker.proofs.course.Follow.{whole_run, follow_is, on_edge, judged, followed}
use Rattle.walker.proofs.course.Rest.{enough, judged_stuck, judged_closed, judged_on}
use Rattle.walker.proofs.course.Returns.{from_none, from_some}
use Rattle.walker.proofs.Claims.{laid_if, Reached, begun, gone, taken_one, reached_along, both_in}

-- ---- a run as `EndsAt` says it is the run that `run` works out, whatever it counts down from, if that is enough

same_itself : (d : Way) → same_way d d ≡ true
same_itself up = refl
same_itself right = refl
same_itself down = refl
same_itself left = refl

other_way : (d e : Way) → (e ≡ d → ⊥) → same_way d e ≡ false
other_way d e h = go (same_way d e) refl
  where
    go : (s : Bool) → same_way d e ≡ s → same_way d e ≡ false
    go true p = absurd (h (same_way_lem d e p))
    go false p = p

pub apart : (d e : Way) → same_way d e ≡ false → e ≡ d → ⊥
apart d e s p = true≢false (sym (same_itself d) ∙ ap (same_way d) (sym p) ∙ s)

never_ends : (v : Walker) (e : Way) → nowhere ≡ ends v e → ⊥
never_ends v e p = let z : ◌≡◌ {A = ℕ} 0 1 = cc in omega arith

one_end : (r : Run) (v w : Walker) (d e : Way) → r ≡ ends v d → r ≡ ends w e → (v ≡ w) × (d ≡ e)
one_end r v w d e p q = (cc, cc)

module _ (set : Pixels) (cw : Bool) where
  pub ends_at : (n : ℕ) (w v : Walker) (d e : Way) → run set cw n w d ≡ ends v e → EndsAt set cw d v e w
  unfolding run
  ends_at zero w v d e h = absurd (never_ends v e h)
  ends_at (suc n) w v d e h = by_exit (taken set cw w) refl h (ends_at n (moved w d) v d e)
    where
      by_exit : (o : Option Way) → taken set cw w ≡ o →
          ◌≡◌ {A = Run} (elim o as (λ _. Run) [
            | none ↦ nowhere
            | some k ↦ elim (same_way d k) as (λ _. Run) [ true ↦ run set cw n (moved w d) d | false ↦ ends w k ]
          ]) (ends v e) → (run set cw n (moved w d) d ≡ ends v e → EndsAt set cw d v e (moved w d)) → EndsAt set cw d v e w
      by_exit none t h more = absurd (never_ends v e h)
      by_exit (some k) t h more = by_way (same_way d k) refl h
        where
          by_way : (s : Bool) → same_way d k ≡ s → ◌≡◌ {A = Run} (elim s as (λ _. Run) [ true ↦ run set cw n (moved w d) d | false ↦ ends w k ]) (ends v e) → EndsAt set cw d v e w
          by_way true s h = goes_on (t ∙ ap some (same_way_lem d k s)) (more h)
          by_way false s h =
              let p = one_end (ends w k) w v k e refl h in
              subst (EndsAt set cw d v e) (sym p.0)
              (turns (ap (taken set cw) (sym p.0) ∙ t ∙ ap some p.1) (λ q. apart d k s (p.1 ∙ q)))

  pub ends_at_run : (d : Way) (v : Walker) (e : Way) (w : Walker) → EndsAt set cw d v e w → (n : ℕ) × ((m : ℕ) → n ≤ m → run set cw m w d ≡ ends v e)
  ends_at_run d v e w (turns t h) = (1, by)
    where
      by : (m : ℕ) → 1 ≤ m → run set cw m v d ≡ ends v e
      by zero k = absurd (omega arith)
      by (suc m) k = walker_step set cw m v d e false t (other_way d e h)
  ends_at_run d v e w (goes_on t r) = further (ends_at_run d v e (moved w d) r)
    where
      further : (n : ℕ) × ((m : ℕ) → n ≤ m → run set cw m (moved w d) d ≡ ends v e) → (n : ℕ) × ((m : ℕ) → n ≤ m → run set cw m w d ≡ ends v e)
      further s = (suc s.0, by)
        where
          by : (m : ℕ) → suc s.0 ≤ m → run set cw m w d ≡ ends v e
          by zero k = absurd (omega arith)
          by (suc m) k = walker_step set cw m w d d true t (same_itself d) ∙ s.1 m (omega arith)

  -- a run ends at one place, and one exit is taken there
  ends_at_one : (w v u : Walker) (d e k : Way) → EndsAt set cw d v e w → EndsAt set cw d u k w → (v ≡ u) × (e ≡ k)
  ends_at_one w v u d e k r s =
      let a = ends_at_run d v e w r in
      let b = ends_at_run d u k w s in
      let n = a.0 + b.0 in
      one_end (run set cw n w d) v u e k (a.1 n (omega arith)) (b.1 n (omega arith))

  -- ---- the walker after so many runs

  module _ (start : PointI32) where
    end_reached : (d : Way) (v : Walker) (e : Way) (w : Walker) → Reached set cw start w → EndsAt set cw d v e w → Reached set cw start v × (taken set cw v ≡ some e)
    end_reached d v e w r (turns t h) = (r, t)
    end_reached d v e w r (goes_on t s) = end_reached d v e (moved w d) (gone d r t) s

    runs_reached : (n : ℕ) (w : Walker) (d : Way) → Runs set cw start n w d → Reached set cw start w × (taken set cw w ≡ some d)
    runs_reached n w d (none_yet t) = (begun, t)
    runs_reached n v e (one_more {n = m} {w = w} {d = d} r s) =
        let a = runs_reached m w d r in
        end_reached d v e (moved w d) (gone d a.0 a.1) s

    begun_with : (n : ℕ) (w : Walker) (d : Way) → Runs set cw start n w d → (k : Way) × (taken set cw (at_start start) ≡ some k)
    begun_with n w d (none_yet t) = (d, t)
    begun_with n v e (one_more {n = m} {w = w} {d = d} r s) = begun_with m w d r

    pub runs_one : (n : ℕ) (w u : Walker) (d k : Way) → Runs set cw start n w d → Runs set cw start n u k → (w ≡ u) × (d ≡ k)
    runs_one zero w u d k (none_yet t) (none_yet s) = (refl, taken_one d k (taken set cw (at_start start)) t s)
    runs_one (suc n) v u e k (one_more {w = w} {d = d} r s) (one_more {w = w₂} {d = d₂} r₂ s₂) =
        let p = runs_one n w w₂ d d₂ r r₂ in
        ends_at_one (moved w₂ d₂) v u d₂ e k (subst (λ (w : Walker). EndsAt set cw d₂ v e (moved w d₂)) p.0 (subst (λ (d : Way). EndsAt set cw d v e (moved w d)) p.1 s)) s₂

-- ---- a walk of a chart

abbrev is_stuck : Walk → ℕ
is_stuck (closed ps) = 0
is_stuck no_way = 0
is_stuck stuck = 1

not_stuck : (w : Walk) → is_stuck w ≡ 0 → w ≡ stuck → ⊥
not_stuck w z e = omega (arith, sym z ∙ ap is_stuck e)

after_stuck : (p : PointI32) (w : Walk) → after p w ≡ stuck → w ≡ stuck
after_stuck p (closed ps) e = absurd (not_stuck (closed (p ∷ ps)) refl e)
after_stuck p no_way e = absurd (not_stuck no_way refl e)
after_stuck p stuck e = refl

module _ (c : Chart) (pixels : List ℕ) (cw : Bool) (good : bad_chart c pixels ≡ false) (start : PointI32) where
  abbrev set : Pixels
  set = pixel_at c pixels

  -- ---- what is counted down makes no difference

  along : (w : Walker) (d : Way) → Reached set cw start w → taken set cw w ≡ some d → Along set w d
  along w d r e = reached_along c pixels cw start w d r e

  -- A run may count down from any number over 512: it ends alike.
  pub run_fuel_suffices : (w : Walker) (d : Way) → Reached set cw start w → taken set cw w ≡ some d →
      (m n : ℕ) → 512 < m → 512 < n → run set cw m (moved w d) d ≡ run set cw n (moved w d) d
  run_fuel_suffices w d r e m n h k =
      let a = along w d r e in
      let s = room_most w.curr d (on_lattice c pixels good w.curr d a.edge) in
      let p = ran c pixels cw good m w d a (omega (arith, s)) in
      let q = ran c pixels cw good n w d a (omega (arith, s)) in
      let i = ends_at_one set cw (moved w d) p.last q.last d p.way q.way
      (ends_at set cw m (moved w d) p.last d p.way p.by_walker) (ends_at set cw n (moved w d) q.last d q.way q.by_walker) in
      p.by_walker ∙ (λ j. ends (i.0 j) (i.1 j)) ∙ sym q.by_walker

  -- A walk may count down from any number over the steps that are left to the limit: it ends alike.
  pub fuel_suffices : (w : Walker) (d : Way) → Reached set cw start w → taken set cw w ≡ some d → w.steps ≤ 1000000 →
      (m n : ℕ) → 1000000 < m + w.steps → 1000000 < n + w.steps → follow set cw start m w d ≡ follow set cw start n w d
  fuel_suffices w d r e l m n h k =
      let a = along w d r e in
      follow_is c pixels cw good start m w d a
      ∙ enough c pixels cw good start m n (placed w d) (on_edge c pixels w d a) l h k
      ∙ sym (follow_is c pixels cw good start n w d a)

  -- ---- run by run

  record Next (n : ℕ) (w : Walker) (d : Way) : Type 0 where
    pub last : Walker
    pub way : Way
    pub runs : Runs set cw start (suc n) last way
    pub longer : w.steps < last.steps
    pub follows : (m : ℕ) → follow set cw start (suc m) w d ≡ judged start (placed last way) (follow set cw start m last way)

  next : (n : ℕ) (w : Walker) (d : Way) → Runs set cw start n w d → Next n w d
  next n w d r =
      let a = runs_reached set cw start n w d r in
      let t = whole_run c pixels cw good w d (along w d a.0 a.1) in
      record {
        last = t.last;
        way = t.way;
        runs = one_more r (ends_at set cw 600 (moved w d) t.last d t.way t.by_walker);
        longer = t.longer;
        follows = λ m. followed set cw start m w d t.last t.way t.by_walker;
      }

  -- none of the first k runs ended the walk
  abbrev Goes : ℕ → Type 0
  Goes k = (j : ℕ) (v : Walker) (e : Way) → j ≤ k → Runs set cw start j v e → (v.steps ≤ 1000000) × (1 ≤ j → v.curr ≡ start → ⊥)

  goes_none : Goes 0
  goes_none zero v e h (none_yet t) = (omega arith, λ k. absurd (omega arith))
  goes_none (suc j) v e h r = absurd (omega arith)

  goes_more : (k : ℕ) (w : Walker) (d : Way) → Runs set cw start (suc k) w d → w.steps ≤ 1000000 → (w.curr ≡ start → ⊥) → Goes k → Goes (suc k)
  goes_more k w d r l b g j v e h s = go (ltb k j) refl
    where
      go : (t : Bool) → ltb k j ≡ t → (v.steps ≤ 1000000) × (1 ≤ j → v.curr ≡ start → ⊥)
      go true t =
          let i : j ≡ suc k = omega (arith, ltb-true k j t) in
          let p = (runs_one set cw start (suc k) w v d e r (subst (λ (n : ℕ). Runs set cw start n v e) i s)).0 in
          (omega (arith, ap (λ (w : Walker). w.steps) p), λ n q. b (ap (λ (w : Walker). w.curr) p ∙ q))
      go false t = g j v e (omega (arith, ltb-false k j t)) s

  stuck_long : (m k : ℕ) (w : Walker) (d : Way) → Runs set cw start k w d → w.steps ≤ 1000000 → 1000000 < m + w.steps → Goes k →
      follow set cw start m w d ≡ stuck → FirstTooLong set cw start
  stuck_long zero k w d r l f g e = absurd (omega arith)
  stuck_long (suc m) k w d r l f g e = go (ltb 1000000 t.last.steps) (same_point t.last.curr start) refl refl (stuck_long m (suc k) t.last t.way t.runs)
    where
      t : Next k w d
      t = next k w d r

      judged_is : judged start (placed t.last t.way) (follow set cw start m t.last t.way) ≡ stuck
      judged_is = sym (t.follows m) ∙ e

      go : (a b : Bool) → ltb 1000000 t.last.steps ≡ a → same_point t.last.curr start ≡ b →
          (t.last.steps ≤ 1000000 → 1000000 < m + t.last.steps → Goes (suc k) → follow set cw start m t.last t.way ≡ stuck → FirstTooLong set cw start) → FirstTooLong set cw start
      go true b p q more = record {
        long = record {
          n = suc k;
          walker = t.last;
          way = t.way;
          runs = t.runs;
          over = ltb-true 1000000 t.last.steps p;
          not_back = λ j v e h i s. (g j v e (omega arith) s).1 h;
        };
        before = λ j v e h s. (g j v e (omega arith) s).0;
      }
      go false true p q more =
          absurd (not_stuck (closed (t.last.curr ∷ [])) refl
          (sym (judged_closed start (placed t.last t.way) (follow set cw start m t.last t.way) (ltb-false 1000000 t.last.steps p) q) ∙ judged_is))
      go false false p q more =
          let h = ltb-false 1000000 t.last.steps p in
          more h (omega (arith, t.longer)) (goes_more k t.last t.way t.runs h (λ i. true≢false (sym (test_same t.last.curr start i) ∙ q)) g)
          (after_stuck t.last.curr _ (sym (judged_on start (placed t.last t.way) (follow set cw start m t.last t.way) h q) ∙ judged_is))

  long_stuck : (l : TooLong set cw start) (i k m : ℕ) (w : Walker) (d : Way) → Runs set cw start k w d → k + i ≡ l.n → w.steps ≤ 1000000 → 1000000 < m + w.steps →
      follow set cw start m w d ≡ stuck
  long_stuck l zero k m w d r e h f =
      let p = (runs_one set cw start l.n w l.walker d l.way (subst (λ (n : ℕ). Runs set cw start n w d) (omega arith) r) l.runs).0 in
      absurd (omega (arith, l.over, ap (λ (w : Walker). w.steps) p))
  long_stuck l (suc i) k zero w d r e h f = absurd (omega arith)
  long_stuck l (suc i) k (suc m) w d r e h f = t.follows m ∙ go (ltb 1000000 t.last.steps) refl (long_stuck l i (suc k) m t.last t.way t.runs)
    where
      t : Next k w d
      t = next k w d r

      -- the last run is over the limit, and none before it ended on the start
      on : t.last.steps ≤ 1000000 → (b : Bool) → same_point t.last.curr start ≡ b → same_point t.last.curr start ≡ false
      on h false q = q
      on h true q = absurd (back (ltb (suc k) l.n) refl)
        where
          back : (b : Bool) → ltb (suc k) l.n ≡ b → ⊥
          back true p = l.not_back (suc k) t.last t.way (omega arith) (ltb-true (suc k) l.n p) t.runs (same_point_lem t.last.curr start q)
          back false p =
              let j : suc k ≡ l.n = omega (arith, ltb-false (suc k) l.n p) in
              let s = (runs_one set cw start l.n t.last l.walker t.way l.way (subst (λ (n : ℕ). Runs set cw start n t.last t.way) j t.runs) l.runs).0 in
              omega (arith, l.over, ap (λ (w : Walker). w.steps) s)

      go : (b : Bool) → ltb 1000000 t.last.steps ≡ b →
          (suc k + i ≡ l.n → t.last.steps ≤ 1000000 → 1000000 < m + t.last.steps → follow set cw start m t.last t.way ≡ stuck) →
          judged start (placed t.last t.way) (follow set cw start m t.last t.way) ≡ stuck
      go true p more = judged_stuck start (placed t.last t.way) (follow set cw start m t.last t.way) (ltb-true 1000000 t.last.steps p)
      go false p more =
          let h = ltb-false 1000000 t.last.steps p in
          judged_on start (placed t.last t.way) (follow set cw start m t.last t.way) h (on h (same_point t.last.curr start) refl)
          ∙ ap (after t.last.curr) (more (omega arith) h (omega (arith, t.longer)))

  -- ---- from the start

  first_of : (o : Option Way) → taken set cw (at_start start) ≡ o → walk_from set cw start ≡ stuck → FirstTooLong set cw start
  first_of none e h = absurd (not_stuck no_way refl (sym (from_none set cw start e) ∙ h))
  first_of (some d) e h =
      stuck_long 1000002 0 (at_start start) d (none_yet e) (omega arith) (omega arith) goes_none
      (after_stuck start (follow set cw start 1000002 (at_start start) d) (sym (from_some set cw start d e) ∙ h))

  -- A walk that is stuck is stuck at the first run that ends past the limit.
  pub stuck_at_the_first : walk_from set cw start ≡ stuck → FirstTooLong set cw start
  stuck_at_the_first = first_of (taken set cw (at_start start)) refl

  pub too_long_is_stuck : TooLong set cw start → walk_from set cw start ≡ stuck
  too_long_is_stuck l =
      let b = begun_with set cw start l.n l.walker l.way l.runs in
      from_some set cw start b.0 b.1
      ∙ ap (after start) (long_stuck l l.n 0 1000002 (at_start start) b.0 (none_yet b.1) (omega arith) (omega arith) (omega arith))

  -- The walk of the definition is stuck exactly where some run ends past 1,000,000 steps before one ends on the start.
  pub walk_stuck_exactly : (walk_from set cw start ≡ stuck) ↔ TooLong set cw start
  walk_stuck_exactly = (λ e. (stuck_at_the_first e).long, too_long_is_stuck)

-- ---- what `walk` answers

laid_not : (ps : List PointI32) (out : List ℤ) (full : Bool) → (laid_if ps out full).answer ≡ Err Stuck → ⊥
unfolding outcome
laid_not ps out true e = omega (arith, ap number_of e)
laid_not ps out false e = omega (arith, ap number_of e)

ended_stuck : (w : Walk) (out : List ℤ) → (ended w out).answer ≡ Err Stuck → w ≡ stuck
ended_stuck (closed ps) out e = absurd (laid_not ps out (ltb (length out) (length ps * 2)) e)
ended_stuck no_way out e = absurd (omega (arith, ap number_of e))
ended_stuck stuck out e = refl

module _ (c : Chart) (pixels : List ℕ) (start : PointI32) (cw : Bool) (out : List ℤ) where
  abbrev PastTheLimit : Type 0
  PastTheLimit = (bad_chart c pixels ≡ false) × (in_range start.x ≡ true) × (in_range start.y ≡ true) × TooLong (pixel_at c pixels) cw start

  pub stuck_only : (walked c pixels start cw out).answer ≡ Err Stuck → PastTheLimit
  unfolding walked
  stuck_only = by_tests (bad_chart c pixels) (not (in_range start.x && in_range start.y)) refl refl
    where
      by_tests : (bad far : Bool) → bad_chart c pixels ≡ bad → not (in_range start.x && in_range start.y) ≡ far →
          (outcome (refuse BadSize when bad or refuse BadPoint when far or none) out (ended (walk_from (pixel_at c pixels) cw start) out)).answer ≡ Err Stuck → PastTheLimit
      by_tests true far p q e = absurd (omega (arith, ap number_of e))
      by_tests false true p q e = absurd (omega (arith, ap number_of e))
      by_tests false false p q e =
          let b = both_in (in_range start.x) (in_range start.y) q in
          (p, b.0, b.1, (stuck_at_the_first c pixels cw p start (ended_stuck (walk_from (pixel_at c pixels) cw start) out e)).long)

  pub stuck_where : PastTheLimit → (walked c pixels start cw out).answer ≡ Err Stuck
  unfolding walked
  stuck_where b = rw (b.0, b.1, b.2, too_long_is_stuck c pixels cw b.0 start b.3)

  -- Stuck is given exactly where the chart and the start are in range and some run ends past 1,000,000 steps before one ends on the start.
  pub stuck_exactly : ((walked c pixels start cw out).answer ≡ Err Stuck) ↔ PastTheLimit
  stuck_exactly = (stuck_only, stuck_where)
