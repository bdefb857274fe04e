-- What follows of the contracts, and of the definition of a walk, for their readers and their callers. Assumes nothing.
use Prim.Native.Nat.{ℕ, ◌+◌, ◌*◌, ◌≤◌, ◌<◌}
use mathlib.Core.Bool.{Bool, true, false, not, ◌&&◌, true≢false}
use mathlib.Core.List.{List, ◌∷◌}
use mathlib.Core.Option.{Option, some, none}
use mathlib.Core.Logic.{◌↔◌}
use mathlib.Core.Path.{◌≡◌, refl, sym, ap, subst, ◌∙◌}
use native.Mathlib.Omega.{arith}
use lib.Dec.{ltb}
use lib.IntN.{ℤ}
use lib.ListN.{length}
use borrow.Author.Tests.{ltb-false}
use Rattle.std.specs.Prelude.{Result, Ok, Err}
use Rattle.laws.specs.Lists.{over}
use Rattle.laws.proofs.Determined.{Determined, same}
use Rattle.point.specs.Limits.{in_range}
use Rattle.point.specs.Outcomes.{outcome}
use Rattle.point.specs.Points.{flat}
use Rattle.point.specs.Refusals.{refuse◌when◌or◌, number_of, count_of}
use Rattle.point.specs.declared.PointI32.{PointI32}
use Rattle.point.specs.declared.refusal.Refusal.{Refusal}
use Rattle.point.specs.declared.refusal.Refusal.TheVariants.{BadSize, BadPoint, NoWay, Stuck, NoRoom}
use Rattle.chart.specs.Pixels.{bad_chart, pixel_at, around_of}
use Rattle.chart.specs.declared.Chart.{Chart}
use Rattle.walker.specs.Walk.{Pixels, Way, Walker, exit, taken, at_start, moved, ends, run, Walk, closed, no_way, stuck, after, walk_from, Outlined, ended, walk_refusal, walked}
use Rattle.walker.specs.inside.Course.{first_exit, went_on}
use Rattle.walker.proofs.exits.Tables.{Begins}
use Rattle.walker.proofs.WayBack.{Along, along_stood, along_on, taken_first, no_exit_taken, none_taken}
use Rattle.walker.proofs.ShortRuns.{room_most, on_lattice}
use Rattle.walker.proofs.run.Runs.{placed}
use Rattle.walker.proofs.course.Follow.{whole_run, follow_is, on_edge}
use Rattle.walker.proofs.course.Returns.{found, from_none, from_some, always_found}
use Rattle.walker.proofs.course.walk.Reads.{Post as Walking}

-- ---- Each contract leaves no choice: of equal arguments it allows one answer, and one last content of the buffer. `Post` is the contract
-- itself, as Rattle reads it off the source, at arguments `a`, a result `r` and parameters at exit `s`.

pub walk_determined : Determined (Chart × List ℕ × PointI32 × Bool × List ℤ) Outlined Walking
    (λ _ a. (a.0, a.1.0.now, a.1.1.0, a.1.1.1.0, a.1.1.1.1.0.now))
    (λ _ r s. record { answer = r; out = s.1.1.1.1.0.now })
walk_determined = same (λ x. walked x.0 x.1 x.2 x.3 x.4) (λ _ a r s p. p)

-- ---- What an answer says of the buffer.

-- an outline in a buffer of which it is known whether it is too short
abbrev pub laid_if : List PointI32 → List ℤ → Bool → Outlined
laid_if ps out full = outcome (refuse NoRoom when full or none) out (record { answer = Ok (length ps); out = over (flat ps) out })

not_done : (r : Refusal) (n : ℕ) → ◌≡◌ {A = Result ℕ Refusal} (Err r) (Ok n) → ⊥
not_done r n e = let z : ◌≡◌ {A = ℕ} 0 1 = cc in omega arith

module _ (c : Chart) (pixels : List ℕ) (start : PointI32) (cw : Bool) (out : List ℤ) where
  laid_unchanged : (ps : List PointI32) (full : Bool) → ((n : ℕ) → (laid_if ps out full).answer ≡ Ok n → ⊥) → (laid_if ps out full).out ≡ out
  unfolding outcome
  laid_unchanged ps true h = refl
  laid_unchanged ps false h = absurd (h (length ps) refl)

  ended_unchanged : (w : Walk) → ((n : ℕ) → (ended w out).answer ≡ Ok n → ⊥) → (ended w out).out ≡ out
  ended_unchanged (closed ps) h = laid_unchanged ps (ltb (length out) (length ps * 2)) h
  ended_unchanged no_way h = refl
  ended_unchanged stuck h = refl

  -- Any answer but a count leaves the buffer as it was: every refusal, NoWay and Stuck too.
  pub unless_done_unchanged : ((n : ℕ) → (walked c pixels start cw out).answer ≡ Ok n → ⊥) → (walked c pixels start cw out).out ≡ out
  unfolding walked
  unless_done_unchanged = by_refusal (walk_refusal c pixels start)
    where
      by_refusal : (o : Option Refusal) → ((n : ℕ) → (outcome o out (ended (walk_from (pixel_at c pixels) cw start) out)).answer ≡ Ok n → ⊥) →
          (outcome o out (ended (walk_from (pixel_at c pixels) cw start) out)).out ≡ out
      by_refusal (some r) h = refl
      by_refusal none h = ended_unchanged (walk_from (pixel_at c pixels) cw start) h

  laid_fits : (ps : List PointI32) (full : Bool) (n : ℕ) → ltb (length out) (length ps * 2) ≡ full → (laid_if ps out full).answer ≡ Ok n → n * 2 ≤ length out
  unfolding outcome
  laid_fits ps true n f e = absurd (not_done NoRoom n e)
  laid_fits ps false n f e =
      let m : length ps ≡ n = ap count_of e in
      omega (arith, ltb-false (length out) (length ps * 2) f)

  ended_fits : (w : Walk) (n : ℕ) → (ended w out).answer ≡ Ok n → n * 2 ≤ length out
  ended_fits (closed ps) n e = laid_fits ps (ltb (length out) (length ps * 2)) n refl e
  ended_fits no_way n e = absurd (not_done NoWay n e)
  ended_fits stuck n e = absurd (not_done Stuck n e)

  -- What is written fits.
  pub fits : (n : ℕ) → (walked c pixels start cw out).answer ≡ Ok n → n * 2 ≤ length out
  unfolding walked
  fits n = by_refusal (walk_refusal c pixels start)
    where
      by_refusal : (o : Option Refusal) → (outcome o out (ended (walk_from (pixel_at c pixels) cw start) out)).answer ≡ Ok n → n * 2 ≤ length out
      by_refusal (some r) e = absurd (not_done r n e)
      by_refusal none e = ended_fits (walk_from (pixel_at c pixels) cw start) n e

-- ---- Where a walk comes, and that it goes on: "the first exit not leading to `prev` or `prev_prev`" is there after every step, so that no
-- walk but one that has not begun finds no way.

pub data Reached (set : Pixels) (cw : Bool) (start : PointI32) : Walker → Type 0 where
  begun : Reached set cw start (at_start start)
  gone : {w : Walker} (d : Way) → Reached set cw start w → taken set cw w ≡ some d → Reached set cw start (moved w d)

-- what is taken is one
pub taken_one : (a b : Way) (o : Option Way) → o ≡ some a → o ≡ some b → a ≡ b
taken_one a b o d e = cc

module _ (c : Chart) (pixels : List ℕ) (cw : Bool) (start : PointI32) where
  abbrev set : Pixels
  set = pixel_at c pixels

  -- what is taken is an exit, and the walker came as it must
  pub reached_along : (w : Walker) (d : Way) → Reached set cw start w → taken set cw w ≡ some d → Along set w d
  reached_along w d begun e =
      along_stood set start 0 d (subst (Begins (exit set start) (first_exit (around_of c pixels start.x start.y) cw)) e (taken_first c pixels cw start)).1
  reached_along w d (gone {w = v} b r f) e =
      let t = along_on c pixels cw v b (reached_along v b r f) in
      subst (Along set (moved v b)) (taken_one t.0 d (taken set cw (moved v b)) t.1 e) t.3

  pub always_a_way_on : (w : Walker) (d : Way) → Reached set cw start w → taken set cw w ≡ some d → (e : Way) × (taken set cw (moved w d) ≡ some e)
  always_a_way_on w d r e = let t = along_on c pixels cw w d (reached_along w d r e) in (t.0, t.1)

  -- A run has a step, and at most 512: the definition's 600 are enough.
  pub runs_are_short : bad_chart c pixels ≡ false → (w : Walker) (d : Way) → Reached set cw start w → taken set cw w ≡ some d →
      (v : Walker) × (e : Way) × (run set cw 600 (moved w d) d ≡ ends v e) × (w.steps < v.steps) × (v.steps ≤ w.steps + 512)
  runs_are_short good w d r e =
      let a = reached_along w d r e in
      let t = whole_run c pixels cw good w d a in
      (t.last, t.way, t.by_walker, t.longer, omega (arith, t.at_most, room_most w.curr d (on_lattice c pixels good w.curr d a.edge)))

-- ---- NoWay: "the start has no exit".

laid_other : (ps : List PointI32) (out : List ℤ) (full : Bool) → (laid_if ps out full).answer ≡ Err NoWay → ⊥
unfolding outcome
laid_other ps out true e = omega (arith, ap number_of e)
laid_other ps out false e = omega (arith, ap number_of e)

-- a walk that has begun ends otherwise
begun_other : (start : PointI32) (out : List ℤ) (w : Walk) → found w ≡ true → (ended (after start w) out).answer ≡ Err NoWay → ⊥
begun_other start out (closed ps) h e = laid_other (start ∷ ps) out (ltb (length out) (length (start ∷ ps) * 2)) e
begun_other start out no_way h e = true≢false (sym h)
begun_other start out stuck h e = omega (arith, ap number_of e)

pub both_in : (a b : Bool) → not (a && b) ≡ false → (a ≡ true) × (b ≡ true)
both_in true true e = (refl, refl)
both_in true false e = absurd (true≢false e)
both_in false b e = absurd (true≢false e)

module _ (c : Chart) (pixels : List ℕ) (start : PointI32) (cw : Bool) (out : List ℤ) where
  abbrev Blocked : Type 0
  Blocked = (bad_chart c pixels ≡ false) × (in_range start.x ≡ true) × (in_range start.y ≡ true) × ((d : Way) → exit (pixel_at c pixels) start d ≡ false)

  -- a walk of a chart in range finds no way only where no direction at the start is an exit
  from_start : bad_chart c pixels ≡ false → (o : Option Way) → taken (pixel_at c pixels) cw (at_start start) ≡ o →
      (ended (walk_from (pixel_at c pixels) cw start) out).answer ≡ Err NoWay → (d : Way) → exit (pixel_at c pixels) start d ≡ false
  from_start good none e h = no_exit_taken (pixel_at c pixels) cw start e
  from_start good (some k) e h =
      let a = reached_along c pixels cw start (at_start start) k begun e in
      absurd (begun_other start out (went_on c pixels cw start 1000002 (placed (at_start start) k))
      (always_found c pixels cw good start 1000002 (placed (at_start start) k) (on_edge c pixels (at_start start) k a))
      (subst (λ (w : Walk). (ended w out).answer ≡ Err NoWay) (from_some (pixel_at c pixels) cw start k e ∙ ap (after start) (follow_is c pixels cw good start 1000002 (at_start start) k a)) h))

  pub no_way_only : (walked c pixels start cw out).answer ≡ Err NoWay → Blocked
  unfolding walked
  no_way_only = by_tests (bad_chart c pixels) (not (in_range start.x && in_range start.y)) refl refl
    where
      by_tests : (bad far : Bool) → bad_chart c pixels ≡ bad → not (in_range start.x && in_range start.y) ≡ far →
          (outcome (refuse BadSize when bad or refuse BadPoint when far or none) out (ended (walk_from (pixel_at c pixels) cw start) out)).answer ≡ Err NoWay → Blocked
      by_tests true far p q e = absurd (omega (arith, ap number_of e))
      by_tests false true p q e = absurd (omega (arith, ap number_of e))
      by_tests false false p q e =
          let b = both_in (in_range start.x) (in_range start.y) q in
          (p, b.0, b.1, from_start p (taken (pixel_at c pixels) cw (at_start start)) refl e)

  pub no_way_where : Blocked → (walked c pixels start cw out).answer ≡ Err NoWay
  unfolding walked
  no_way_where b = rw (b.0, b.1, b.2, from_none (pixel_at c pixels) cw start (none_taken (pixel_at c pixels) cw start b.3))

  -- NoWay is given exactly where the chart and the start are in range and no direction at the start is an exit.
  pub no_way_exactly : ((walked c pixels start cw out).answer ≡ Err NoWay) ↔ Blocked
  no_way_exactly = (no_way_only, no_way_where)
