-- A walk that is stuck. Document 01: "two set pixels in one row, start (1,0): 9". The start lies in the middle of an edge, so that runs pass over it
-- and end at the four corners, again and again: none of 1,000,001 runs ends on the start, and each has a step. Assumes nothing.
use Prim.Native.Nat.{ℕ, zero, suc, ◌≤◌, ◌<◌}
use mathlib.Core.Bool.{true}
use mathlib.Core.List.{List, [], ◌∷◌}
use mathlib.Core.Path.{◌≡◌, refl, sym, ap, ◌∙◌}
use native.Mathlib.Omega.{arith}
use lib.IntN.{ℤ, pos, nat_abs}
use Rattle.std.specs.Prelude.{Err}
use Rattle.point.specs.declared.PointI32.{PointI32}
use Rattle.point.specs.declared.refusal.Refusal.TheVariants.{Stuck}
use Rattle.chart.specs.Pixels.{pixel_at, bad_chart}
use Rattle.chart.specs.declared.Chart.{Chart}
use Rattle.walker.specs.Walk.{Pixels, Way, up, right, down, left, Walker, taken, moved, walked}
use Rattle.walker.proofs.Limit.{EndsAt, turns, goes_on, Runs, none_yet, one_more, TooLong}
use Rattle.walker.proofs.Stuck.{apart, runs_one, stuck_where}

abbrev chart : Chart
chart = record { width = 2; height = 1 }

abbrev bytes : List ℕ
bytes = 0b11000000 ∷ []

abbrev set : Pixels
set = pixel_at chart bytes

abbrev at : ℕ → ℕ → PointI32
at x y = record { x = pos x; y = pos y }

abbrev start : PointI32
start = at 1 0

abbrev came : PointI32 → PointI32 → PointI32 → ℕ → Walker
came p q r n = record { curr = p; prev = q; prev_prev = r; steps = n }

-- where runs end, and the exit taken there: at first with the start behind, and then from corner to corner
data Corner : Walker → Way → Type 0 where
  first : (n : ℕ) → Corner (came (at 2 0) (at 1 0) (at 1 0) n) down
  top_right : (n : ℕ) → Corner (came (at 2 0) (at 1 0) (at 0 0) n) down
  bottom_right : (n : ℕ) → Corner (came (at 2 1) (at 2 0) (at 1 0) n) left
  bottom_left : (n : ℕ) → Corner (came (at 0 1) (at 1 1) (at 2 1) n) up
  top_left : (n : ℕ) → Corner (came (at 0 0) (at 0 1) (at 1 1) n) right

-- none of them is the start
not_start : (w : Walker) (d : Way) → Corner w d → w.curr ≡ start → ⊥
not_start w d (first n) e = omega (arith, ap (λ (p : PointI32). nat_abs p.x) e)
not_start w d (top_right n) e = omega (arith, ap (λ (p : PointI32). nat_abs p.x) e)
not_start w d (bottom_right n) e = omega (arith, ap (λ (p : PointI32). nat_abs p.x) e)
not_start w d (bottom_left n) e = omega (arith, ap (λ (p : PointI32). nat_abs p.x) e)
not_start w d (top_left n) e = omega (arith, ap (λ (p : PointI32). nat_abs p.x) e)

record Next (w : Walker) (d : Way) : Type 0 where
  pub last : Walker
  pub way : Way
  pub ends : EndsAt set true d last way (moved w d)
  pub corner : Corner last way
  pub longer : w.steps < last.steps

-- the run from a corner ends at the next
next : (w : Walker) (d : Way) → Corner w d → Next w d
unfolding taken pixel_at
next w d (first n) = record { last = came (at 2 1) (at 2 0) (at 1 0) (suc n); way = left; ends = turns refl (apart down left refl); corner = bottom_right (suc n); longer = omega arith }
next w d (top_right n) = record { last = came (at 2 1) (at 2 0) (at 1 0) (suc n); way = left; ends = turns refl (apart down left refl); corner = bottom_right (suc n); longer = omega arith }
next w d (bottom_right n) = record {
  last = came (at 0 1) (at 1 1) (at 2 1) (suc (suc n));
  way = up;
  ends = goes_on refl (turns refl (apart left up refl));
  corner = bottom_left (suc (suc n));
  longer = omega arith;
}
next w d (bottom_left n) = record { last = came (at 0 0) (at 0 1) (at 1 1) (suc n); way = right; ends = turns refl (apart up right refl); corner = top_left (suc n); longer = omega arith }
next w d (top_left n) = record {
  last = came (at 2 0) (at 1 0) (at 0 0) (suc (suc n));
  way = down;
  ends = goes_on refl (turns refl (apart right down refl));
  corner = top_right (suc (suc n));
  longer = omega arith;
}

-- after each run the walker is at a corner, and each run has a step
record After (n : ℕ) : Type 0 where
  pub walker : Walker
  pub way : Way
  pub runs : Runs set true start n walker way
  pub corner : Corner walker way
  pub steps_are : n ≤ walker.steps

after : (k : ℕ) → After (suc k)
unfolding taken pixel_at
after zero = record {
  walker = came (at 2 0) (at 1 0) (at 1 0) 1;
  way = down;
  runs = one_more {d = right} {e = down} (none_yet refl) (turns refl (apart right down refl));
  corner = first 1;
  steps_are = omega arith;
}
after (suc k) =
    let a = after k in
    let t = next a.walker a.way a.corner in
    record { walker = t.last; way = t.way; runs = one_more a.runs t.ends; corner = t.corner; steps_are = omega (arith, a.steps_are, t.longer) }

too_long : TooLong set true start
too_long = record {
  n = 1000001;
  walker = a.walker;
  way = a.way;
  runs = a.runs;
  over = omega (arith, a.steps_are);
  not_back = before;
}
  where
    a : After (suc 1000000)
    a = after 1000000

    before : (k : ℕ) (v : Walker) (e : Way) → 1 ≤ k → k < 1000001 → Runs set true start k v e → v.curr ≡ start → ⊥
    before zero v e h i r p = absurd (omega arith)
    before (suc k) v e h i r p =
        let b = after k in
        not_start b.walker b.way b.corner (ap (λ (w : Walker). w.curr) (sym (runs_one set true start (suc k) v b.walker e b.way r b.runs).0) ∙ p)

pub two_pixels_are_stuck : (out : List ℤ) → (walked chart bytes start true out).answer ≡ Err Stuck
unfolding bad_chart
two_pixels_are_stuck out = stuck_where chart bytes start true out (refl, refl, refl, too_long)
