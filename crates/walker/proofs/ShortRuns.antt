-- An exit lies between two pixels that differ, so one of them is set, and its point is on the lattice from 0 to 512 each way: a run that goes
-- along exits comes nearer to the edge with each step, and no run has more than 512. Assumes nothing.
use Prim.Native.Nat.{ℕ, suc, ◌-◌, ◌≤◌, ◌<◌}
use mathlib.Core.Bool.{Bool, true, false, true≢false}
use mathlib.Core.List.{List}
use mathlib.Core.Logic.{◌⊎◌, inl, inr, ⊎_elim}
use mathlib.Core.Path.{◌≡◌, refl, sym, ◌∙◌}
use native.Mathlib.Omega.{arith}
use lib.IntN.{ℤ, pos, negsuc, ◌-ℤ◌}
use lib.Signed.{le_z, lt_z}
use borrow.Author.Tests.{leb-false}
use Rattle.laws.proofs.Ring.{P, N, add_pn, sub_pn, one_zero_pn}
use Rattle.point.specs.declared.PointI32.{PointI32}
use Rattle.chart.specs.Pixels.{pixel_at, bad_chart}
use Rattle.chart.specs.declared.Chart.{Chart}
use Rattle.chart.proofs.Outside.{left_of, right_of, above as above_all, below as below_all}
use Rattle.chart.proofs.Rows.{good}
use Rattle.walker.specs.Walk.{Way, up, right, down, left, ahead, differ, exit}
use Rattle.walker.proofs.Steps.{opposite}
use Rattle.walker.proofs.exits.Tables.{back_exit}

-- ---- the lattice

abbrev Within : ℤ → Type 0
Within z = (N z ≡ 0) × (P z ≤ 512)

pub record OnLattice (p : PointI32) : Type 0 where
  pub across : Within p.x
  pub along : Within p.y

-- a pixel's column or row is that of its corner, or one less
here : (z : ℤ) → (N z ≡ 0) × (P z < 512) → Within z
here z h = (h.0, omega arith)

beside : (z : ℤ) → (N (z -ℤ pos 1) ≡ 0) × (P (z -ℤ pos 1) < 512) → Within z
beside z h = ⊎_elim (λ e. absurd (omega (arith, sub_pn z (pos 1)))) (λ e. (e, omega (arith, sub_pn z (pos 1)))) (one_zero_pn z)

-- ---- how far the edge of the lattice is

abbrev pub room : PointI32 → Way → ℕ
room p up = P p.y
room p right = 512 - P p.x
room p down = 512 - P p.y
room p left = P p.x

pub room_most : (p : PointI32) (d : Way) → OnLattice p → room p d ≤ 512
room_most p up h = h.along.1
room_most p right h = omega arith
room_most p down h = omega arith
room_most p left h = h.across.1

nearer : (p : PointI32) (d : Way) → OnLattice p → OnLattice (ahead p d) → suc (room (ahead p d) d) ≡ room p d
nearer p up h k = omega (arith, sub_pn p.y (pos 1))
nearer p right h k = omega (arith, add_pn p.x (pos 1))
nearer p down h k = omega (arith, add_pn p.y (pos 1))
nearer p left h k = omega (arith, sub_pn p.x (pos 1))

-- ---- pixels that are set

one_is : (a b : Bool) → differ a b ≡ true → (a ≡ true) ⊎ (b ≡ true)
one_is true b e = inl refl
one_is false true e = inr refl
one_is false false e = absurd (true≢false (sym e))

unless : (t s : Bool) → (t ≡ true → s ≡ false) → s ≡ true → t ≡ false
unless true s h e = absurd (true≢false (sym e ∙ h refl))
unless false s h e = refl

-- a column or row of a chart
between : (z : ℤ) (n : ℕ) → n ≤ 512 → lt_z z (pos 0) ≡ false → le_z (pos n) z ≡ false → (N z ≡ 0) × (P z < 512)
between (pos k) n h l u = (refl, omega (arith, leb-false n k u))
between (negsuc k) n h l u = absurd (true≢false l)

module _ (c : Chart) (pixels : List ℕ) (fine : bad_chart c pixels ≡ false) where
  set_within : (x y : ℤ) → pixel_at c pixels x y ≡ true → ((N x ≡ 0) × (P x < 512)) × ((N y ≡ 0) × (P y < 512))
  set_within x y e =
      let g = good c pixels (bad_chart c pixels) refl fine in (
        between x c.width g.wide (unless _ _ (left_of c pixels x y) e) (unless _ _ (right_of c pixels x y) e),
        between y c.height g.high (unless _ _ (above_all c pixels x y) e) (unless _ _ (below_all c pixels x y) e),
      )

  module _ (p : PointI32) where
    -- of the pixel above and left, above, left, and below and right
    corner : (pixel_at c pixels (p.x -ℤ pos 1) (p.y -ℤ pos 1) ≡ true) → OnLattice p
    corner e = let s = set_within (p.x -ℤ pos 1) (p.y -ℤ pos 1) e in record { across = beside p.x s.0; along = beside p.y s.1 }

    above : (pixel_at c pixels p.x (p.y -ℤ pos 1) ≡ true) → OnLattice p
    above e = let s = set_within p.x (p.y -ℤ pos 1) e in record { across = here p.x s.0; along = beside p.y s.1 }

    on_the_left : (pixel_at c pixels (p.x -ℤ pos 1) p.y ≡ true) → OnLattice p
    on_the_left e = let s = set_within (p.x -ℤ pos 1) p.y e in record { across = beside p.x s.0; along = here p.y s.1 }

    at : (pixel_at c pixels p.x p.y ≡ true) → OnLattice p
    at e = let s = set_within p.x p.y e in record { across = here p.x s.0; along = here p.y s.1 }

    pub on_lattice : (d : Way) → exit (pixel_at c pixels) p d ≡ true → OnLattice p
    on_lattice up e = ⊎_elim corner above (one_is _ _ e)
    on_lattice right e = ⊎_elim at above (one_is _ _ e)
    on_lattice down e = ⊎_elim on_the_left at (one_is _ _ e)
    on_lattice left e = ⊎_elim on_the_left corner (one_is _ _ e)

  -- a step along an exit comes nearer to the edge
  pub room_falls : (p : PointI32) (d : Way) → exit (pixel_at c pixels) p d ≡ true → suc (room (ahead p d) d) ≡ room p d
  room_falls p d e = nearer p d (on_lattice p d e) (on_lattice (ahead p d) (opposite d) (back_exit (pixel_at c pixels) p d ∙ e))
