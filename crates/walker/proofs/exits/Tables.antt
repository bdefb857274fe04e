-- The four pixels around a point say which directions are exits and which is taken: after a move along an exit there is always another,
-- since exits are even in number. Sixteen charts of four pixels, four ways and both orders: antt computes them all. Assumes nothing.
use Prim.Native.Nat.{ℕ, ◌+◌, ◌*◌}
use mathlib.Core.Bool.{Bool, true, false, not, ◌&&◌}
use mathlib.Core.List.{List, [], ◌∷◌}
use mathlib.Core.Option.{Option, some, none}
use mathlib.Core.Path.{◌≡◌, refl, sym, ap, ap₂, ◌∙◌}
use lib.Dec.{T, eqb}
use lib.IntN.{ℤ, pos, ◌-ℤ◌, +ℤ-neg_ℤ_cancel}
use lib.Ieee.Bits.{is_true}
use lib.Ieee.Fits.{and_l, and_r}
use borrow.Author.Tests.{eqb-true}
use Rattle.point.specs.declared.PointI32.{PointI32}
use Rattle.chart.specs.Pixels.{pixel_at, around_of, one}
use Rattle.chart.specs.declared.Chart.{Chart}
use Rattle.walker.specs.Walk.{Pixels, Way, up, right, down, left, ahead, differ, exit, order, same_way, first}
use Rattle.walker.specs.inside.Course.{exit_in, onward, first_exit}
use Rattle.walker.proofs.AllCases.{at_b, all_f, at_f, same, same_eq, implies, implied}
use Rattle.walker.proofs.Steps.{opposite}

-- the number of a way in the code
abbrev pub way_no : Way → ℕ
way_no up = 0
way_no right = 1
way_no down = 2
way_no left = 3

-- ---- of four pixels: top left, top right, bottom left, bottom right

abbrev exit_of : Bool → Bool → Bool → Bool → Way → Bool
exit_of a b c e up = differ a b
exit_of a b c e right = differ e b
exit_of a b c e down = differ c e
exit_of a b c e left = differ c a

abbrev number : Bool → Bool → Bool → Bool → ℕ
number a b c e = 8 * one a + 4 * one b + 2 * one c + one e

exits_agree : (a b c e : Bool) (d : Way) → exit_in (number a b c e) (way_no d) ≡ exit_of a b c e d
unfolding exit_in
exits_agree a b c e d = same_eq _ _ (at_f (λ a b c e d. same (exit_in (number a b c e) (way_no d)) (exit_of a b c e d)) tt a b c e d)

-- what was taken is the way of that number, and an exit
abbrev fits : (Way → Bool) → ℕ → Option Way → Bool
fits isExit n none = false
fits isExit n (some k) = eqb (way_no k) n && isExit k

fits_some : (isExit : Way → Bool) (n : ℕ) (o : Option Way) → T (fits isExit n o) → (k : Way) × (o ≡ some k) × (way_no k ≡ n) × (isExit k ≡ true)
fits_some isExit n none t = absurd t
fits_some isExit n (some k) t = (k, refl, eqb-true (way_no k) n (is_true (eqb (way_no k) n) (and_l (eqb (way_no k) n) (isExit k) t)), is_true (isExit k) (and_r (eqb (way_no k) n) (isExit k) t))

abbrev other_exit : Bool → Bool → Bool → Bool → Way → Way → Bool
other_exit a b c e d k = not (same_way k (opposite d)) && exit_of a b c e k

abbrev turns : Bool → Bool → Bool → Bool → Bool → Way → Bool
unfolding first onward
turns cw a b c e d = implies (exit_of a b c e (opposite d)) (fits (exit_of a b c e) (onward (number a b c e) cw (way_no d)) (first (other_exit a b c e d) (order cw)))

turn : (cw a b c e : Bool) (d : Way) → exit_of a b c e (opposite d) ≡ true →
    (k : Way) × (first (other_exit a b c e d) (order cw) ≡ some k) × (way_no k ≡ onward (number a b c e) cw (way_no d)) × (exit_of a b c e k ≡ true)
unfolding turns
turn cw a b c e d h =
    fits_some (exit_of a b c e) (onward (number a b c e) cw (way_no d)) (first (other_exit a b c e d) (order cw))
    (implied (exit_of a b c e (opposite d)) _ (at_f (turns cw) (at_b (λ cw. all_f (turns cw)) tt cw) a b c e d) h)

-- at the start, where none leads back: the first exit, or none and the number 4
abbrev begins : (Way → Bool) → ℕ → Option Way → Bool
begins isExit n none = eqb n 4
begins isExit n (some k) = eqb (way_no k) n && isExit k

abbrev pub Begins : (Way → Bool) → ℕ → Option Way → Type 0
Begins isExit n none = n ≡ 4
Begins isExit n (some k) = (way_no k ≡ n) × (isExit k ≡ true)

begun : (isExit : Way → Bool) (n : ℕ) (o : Option Way) → T (begins isExit n o) → Begins isExit n o
begun isExit n none t = eqb-true n 4 (is_true (eqb n 4) t)
begun isExit n (some k) t = (eqb-true (way_no k) n (is_true (eqb (way_no k) n) (and_l (eqb (way_no k) n) (isExit k) t)), is_true (isExit k) (and_r (eqb (way_no k) n) (isExit k) t))

begins_cong : (f g : Way → Bool) → ((k : Way) → f k ≡ g k) → (n : ℕ) (o : Option Way) → Begins g n o → Begins f n o
begins_cong f g h n none b = b
begins_cong f g h n (some k) b = (b.0, h k ∙ b.1)

abbrev starts : Bool → Bool → Bool → Bool → Bool → Way → Bool
unfolding first first_exit
starts cw a b c e d = begins (exit_of a b c e) (first_exit (number a b c e) cw) (first (exit_of a b c e) (order cw))

-- ---- of the pixels of a chart

module _ (set : Pixels) (p : PointI32) where
  -- the edge just walked is an exit back: it lies between the same two pixels
  pub back_exit : (d : Way) → exit set (ahead p d) (opposite d) ≡ exit set p d
  back_exit up = refl
  back_exit right = ap (λ (x : ℤ). differ (set x p.y) (set x (p.y -ℤ pos 1))) (+ℤ-neg_ℤ_cancel p.x (pos 1))
  back_exit down = ap (λ (y : ℤ). differ (set (p.x -ℤ pos 1) y) (set p.x y)) (+ℤ-neg_ℤ_cancel p.y (pos 1))
  back_exit left = refl

  abbrev around : {A : Bool → Bool → Bool → Bool → Type 0} → ((a b c e : Bool) → A a b c e) → A (set (p.x -ℤ pos 1) (p.y -ℤ pos 1)) (set p.x (p.y -ℤ pos 1)) (set (p.x -ℤ pos 1) p.y) (set p.x p.y)
  around f = f (set (p.x -ℤ pos 1) (p.y -ℤ pos 1)) (set p.x (p.y -ℤ pos 1)) (set (p.x -ℤ pos 1) p.y) (set p.x p.y)

  exit_around : (d : Way) → exit set p d ≡ around exit_of d
  exit_around up = refl
  exit_around right = refl
  exit_around down = refl
  exit_around left = refl

pub first_cong : (f g : Way → Bool) → ((k : Way) → f k ≡ g k) → (ways : List Way) → first f ways ≡ first g ways
unfolding first
first_cong f g h [] = refl
first_cong f g h (k ∷ ways) = ap₂ (λ (b : Bool) (o : Option Way). elim b as (λ _. Option Way) [ true ↦ some k | false ↦ o ]) (h k) (first_cong f g h ways)

module _ (c : Chart) (pixels : List ℕ) (p : PointI32) where
  -- the number of what lies around says which are exits
  pub exit_in_lem : (d : Way) → exit_in (around_of c pixels p.x p.y) (way_no d) ≡ exit (pixel_at c pixels) p d
  unfolding around_of
  exit_in_lem d = exits_agree _ _ _ _ d ∙ sym (exit_around (pixel_at c pixels) p d)

  -- where the way back is an exit, another is taken
  pub way_on : (cw : Bool) (d : Way) → exit (pixel_at c pixels) p (opposite d) ≡ true →
      (k : Way) × (first (λ k. not (same_way k (opposite d)) && exit (pixel_at c pixels) p k) (order cw) ≡ some k)
      × (way_no k ≡ onward (around_of c pixels p.x p.y) cw (way_no d)) × (exit (pixel_at c pixels) p k ≡ true)
  unfolding around_of
  way_on cw d h =
      let set = pixel_at c pixels in
      let t = around set p (turn cw) d (sym (exit_around set p (opposite d)) ∙ h) in
      (t.0, first_cong _ _ (λ k. ap (λ (b : Bool). not (same_way k (opposite d)) && b) (exit_around set p k)) (order cw) ∙ t.1, t.2, exit_around set p t.0 ∙ t.3)

  -- the exit that is taken from the start
  pub way_in : (cw : Bool) → Begins (exit (pixel_at c pixels) p) (first_exit (around_of c pixels p.x p.y) cw) (first (exit (pixel_at c pixels) p) (order cw))
  unfolding around_of starts
  way_in cw =
      let set = pixel_at c pixels in
      let f = around set p exit_of in
      let n = first_exit (around set p number) cw in
      rw (first_cong (exit set p) f (exit_around set p) (order cw))
      (begins_cong (exit set p) f (exit_around set p) n (first f (order cw)) (begun f n (first f (order cw)) (around set p (λ a b c e. at_f (starts cw) (at_b (λ cw. all_f (starts cw)) tt cw) a b c e up))))
