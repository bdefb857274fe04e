-- Whole spirals, for readers: all the points of the spiral of a size, by the steps of the definition. Assumes nothing.
use Prim.Native.Nat.{ℕ, zero, suc, ◌*◌}
use mathlib.Core.List.{List, [], ◌∷◌}
use mathlib.Core.Path.{◌≡◌, refl}
use lib.IntN.{ℤ, pos, negsuc}
use Rattle.std.specs.Prelude.{Option, Some, None, Result, Ok, Err}
use Rattle.point.specs.declared.PointI32.{PointI32}
use Rattle.point.specs.declared.refusal.Refusal.{Refusal}
use Rattle.spiral.specs.Spiral.{fresh_spiral, spiral_turn}
use Rattle.spiral.specs.declared.SpiralWalker.{SpiralWalker}
use Rattle.spiral.specs.declared.Step.{Step}

-- the points of so many steps, or of those before the first that answers none
unfoldable pub points_of : ℕ → SpiralWalker → List PointI32
points_of zero s = []
points_of (suc steps) s = after (spiral_turn s) (λ next. points_of steps next)
  where
    after : Result (Option Step) Refusal → (SpiralWalker → List PointI32) → List PointI32
    after (Ok (Some step)) on = step.point ∷ on step.next
    after (Ok None) on = []
    after (Err r) on = []

-- the points of a fresh spiral: a refused one has none
abbrev pub fresh_points : ℕ → Result SpiralWalker Refusal → List PointI32
fresh_points steps (Ok s) = points_of steps s
fresh_points steps (Err r) = []

-- all the points of the spiral of a size: one step more than its square has cells, so that the last answers none
abbrev pub spiral_points : ℕ → List PointI32
spiral_points size = fresh_points (suc (size * size)) (fresh_spiral size)

-- ---- of some sizes, each computed by antt

abbrev point : ℤ → ℤ → PointI32
point x y = record { x = x; y = y }

-- P12
pub p12 : spiral_points 2 ≡ point (pos 0) (pos 0) ∷ point (pos 1) (pos 0) ∷ point (pos 1) (pos 1) ∷ point (pos 0) (pos 1) ∷ []
unfolding points_of
p12 = refl

-- "size 0 gives none, size 1 gives (0,0)"
pub none_of_0 : spiral_points 0 ≡ []
unfolding points_of
none_of_0 = refl

pub one_of_1 : spiral_points 1 ≡ point (pos 0) (pos 0) ∷ []
unfolding points_of
one_of_1 = refl

-- "Odd sizes from 3 leave the square"
pub three_leaves :
    spiral_points 3 ≡
    point (pos 0) (pos 0) ∷
    point (pos 1) (pos 0) ∷
    point (pos 1) (pos 1) ∷
    point (pos 0) (pos 1) ∷
    point (negsuc 0) (pos 1) ∷
    point (negsuc 0) (pos 0) ∷
    point (negsuc 0) (negsuc 0) ∷
    point (pos 0) (negsuc 0) ∷
    point (pos 1) (negsuc 0) ∷
    []
unfolding points_of
three_leaves = refl
