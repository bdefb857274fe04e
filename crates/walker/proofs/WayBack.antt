-- A walker that came by a step needs no memory but its way: "not leading to `prev` or `prev_prev`" shuts out the way back and nothing more,
-- since `prev` is one step back, and a point one step ahead is never two steps away. Assumes nothing.
use Prim.Native.Nat.{ℕ}
use mathlib.Core.Bool.{Bool, true, false, not, ◌&&◌, true≢false}
use mathlib.Core.List.{List, [], ◌∷◌}
use mathlib.Core.Option.{Option, some, none}
use mathlib.Core.Path.{◌≡◌, refl, sym, ap, ◌∙◌}
use native.Mathlib.Omega.{arith}
use Rattle.point.specs.Points.{same_point}
use Rattle.point.specs.declared.PointI32.{PointI32}
use Rattle.chart.specs.Pixels.{pixel_at, around_of}
use Rattle.chart.specs.declared.Chart.{Chart}
use Rattle.walker.specs.Walk.{Pixels, Way, up, right, down, left, Walker, ahead, exit, order, same_way, at_start, moved, free, first, taken}
use Rattle.walker.specs.inside.Course.{onward, first_exit}
use Rattle.walker.proofs.Steps.{opposite, step_back, one_way, never_here, two_are_not_one}
use Rattle.walker.proofs.exits.Tables.{way_no, Begins, first_cong, back_exit, way_on, way_in}

pub record Came (w : Walker) (d : Way) : Type 0 where
  pub back : w.prev ≡ ahead w.curr (opposite d)
  pub past : (k : Way) → same_point (ahead w.curr k) w.prev_prev ≡ true → same_point (ahead w.curr k) w.prev ≡ true

-- a walker that has not moved, whatever it counts
abbrev pub stood : PointI32 → ℕ → Walker
stood p n = record { curr = p; prev = p; prev_prev = p; steps = n }

pub came_first : (p : PointI32) (n : ℕ) (d : Way) → Came (moved (stood p n) d) d
came_first p n d = record { back = sym (step_back p d); past = λ k e. e }

pub came_on : (w : Walker) (d e : Way) → Came w d → Came (moved w e) e
came_on w d e h = record {
  back = sym (step_back w.curr e);
  past = λ k t. absurd (true≢false (sym t ∙ ap (same_point (ahead (ahead w.curr e) k)) h.back ∙ two_are_not_one w.curr e k (opposite d)));
}

-- ---- what is free

shut : (a b c : Bool) → (b ≡ true → a ≡ true) → (not a && not b && c) ≡ (not a && c)
shut true b c h = refl
shut false true c h = absurd (true≢false (sym (h refl)))
shut false false c h = refl

free_came : (set : Pixels) (w : Walker) (d : Way) → Came w d → (k : Way) → free set w k ≡ (not (same_way k (opposite d)) && exit set w.curr k)
free_came set w d h k =
    shut (same_point (ahead w.curr k) w.prev) (same_point (ahead w.curr k) w.prev_prev) (exit set w.curr k) (h.past k)
    ∙ ap (λ (b : Bool). not b && exit set w.curr k) (ap (same_point (ahead w.curr k)) h.back ∙ one_way w.curr k (opposite d))

free_stood : (set : Pixels) (p : PointI32) (n : ℕ) (k : Way) → free set (stood p n) k ≡ exit set p k
free_stood set p n k = ap (λ (b : Bool). not b && not b && exit set p k) (never_here p k)

-- ---- what is taken

-- from the start none is, exactly where no direction is an exit
first_none : (f : Way → Bool) (k : Way) (ways : List Way) → first f (k ∷ ways) ≡ none → (f k ≡ false) × (first f ways ≡ none)
unfolding first
first_none f k ways e = go (f k) refl e
  where
    go : (b : Bool) → f k ≡ b → ◌≡◌ {A = Option Way} (elim b as (λ _. Option Way) [ true ↦ some k | false ↦ first f ways ]) none → (f k ≡ false) × (first f ways ≡ none)
    go true h e = absurd (let z : ◌≡◌ {A = ℕ} 0 1 = cc in omega arith)
    go false h e = (h, e)

all : (f : Way → Bool) → f up ≡ false → f right ≡ false → f down ≡ false → f left ≡ false → (d : Way) → f d ≡ false
all f a b c e up = a
all f a b c e right = b
all f a b c e down = c
all f a b c e left = e

none_of : (f : Way → Bool) (cw : Bool) → first f (order cw) ≡ none → (d : Way) → f d ≡ false
none_of f true e =
    let a = first_none f up (right ∷ down ∷ left ∷ []) e in
    let b = first_none f right (down ∷ left ∷ []) a.1 in
    let c = first_none f down (left ∷ []) b.1 in
    all f a.0 b.0 c.0 (first_none f left [] c.1).0
none_of f false e =
    let a = first_none f left (down ∷ right ∷ up ∷ []) e in
    let b = first_none f down (right ∷ up ∷ []) a.1 in
    let c = first_none f right (up ∷ []) b.1 in
    all f (first_none f up [] c.1).0 c.0 b.0 a.0

of_none : (cw : Bool) → first (λ k. false) (order cw) ≡ none
unfolding first
of_none true = refl
of_none false = refl

module _ (set : Pixels) (cw : Bool) (p : PointI32) where
  pub no_exit_taken : taken set cw (at_start p) ≡ none → (d : Way) → exit set p d ≡ false
  unfolding taken
  no_exit_taken e d = sym (free_stood set p 0 d) ∙ none_of (free set (at_start p)) cw e d

  pub none_taken : ((d : Way) → exit set p d ≡ false) → taken set cw (at_start p) ≡ none
  unfolding taken
  none_taken h = first_cong (free set (at_start p)) (λ k. false) (λ k. free_stood set p 0 k ∙ h k) (order cw) ∙ of_none cw

module _ (c : Chart) (pixels : List ℕ) (cw : Bool) where
  pub taken_came : (w : Walker) (d : Way) → Came w d → exit (pixel_at c pixels) w.curr (opposite d) ≡ true →
      (k : Way) × (taken (pixel_at c pixels) cw w ≡ some k) × (way_no k ≡ onward (around_of c pixels w.curr.x w.curr.y) cw (way_no d))
      × (exit (pixel_at c pixels) w.curr k ≡ true)
  unfolding taken
  taken_came w d h e =
      let t = way_on c pixels w.curr cw d e in
      (t.0, first_cong _ _ (free_came (pixel_at c pixels) w d h) (order cw) ∙ t.1, t.2, t.3)

  pub taken_first : (p : PointI32) → Begins (exit (pixel_at c pixels) p) (first_exit (around_of c pixels p.x p.y) cw) (taken (pixel_at c pixels) cw (at_start p))
  unfolding taken
  taken_first p =
      rw (first_cong (free (pixel_at c pixels) (at_start p)) (exit (pixel_at c pixels) p) (free_stood (pixel_at c pixels) p 0) (order cw))
      (way_in c pixels p cw)

-- ---- a walker that is about to go along an exit

pub record Along (set : Pixels) (w : Walker) (d : Way) : Type 0 where
  pub came : Came (moved w d) d
  pub edge : exit set w.curr d ≡ true

pub along_stood : (set : Pixels) (p : PointI32) (n : ℕ) (d : Way) → exit set p d ≡ true → Along set (stood p n) d
along_stood set p n d e = record { came = came_first p n d; edge = e }

-- there is always a way on: after the step there is another exit, and the walker is about to go along it
pub along_on : (c : Chart) (pixels : List ℕ) (cw : Bool) (w : Walker) (d : Way) → Along (pixel_at c pixels) w d →
    (k : Way) × (taken (pixel_at c pixels) cw (moved w d) ≡ some k)
    × (way_no k ≡ onward (around_of c pixels (ahead w.curr d).x (ahead w.curr d).y) cw (way_no d)) × Along (pixel_at c pixels) (moved w d) k
along_on c pixels cw w d h =
    let t = taken_came c pixels cw (moved w d) d h.came (back_exit (pixel_at c pixels) w.curr d ∙ h.edge) in
    (t.0, t.1, t.2, record { came = came_on (moved w d) d t.0 h.came; edge = t.3 })
