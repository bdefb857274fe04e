-- The values of a crossing, over the start of an array. Assumes nothing.
use Prim.Native.Nat.{◌≤◌}
use mathlib.Core.List.{List, [], ◌∷◌}
use mathlib.Core.Path.{◌≡◌, ap, ◌∙◌, refl}
use native.Mathlib.Omega.{arith}
use lib.Ieee.{Float}
use lib.ListN.{length, set}
use Rattle.laws.specs.Lists.{over}
use Rattle.laws.proofs.Lists.{over_push_two}

pub set_two : (x y : Float) (old : List Float) → 4 ≤ length old → set (set old 0 x) 1 y ≡ over (x ∷ y ∷ []) old
unfolding over
set_two x y old h = over_push_two [] old 0 x y refl (omega arith)

pub set_four : (x y a b : Float) (old : List Float) → 4 ≤ length old → set (set (set (set old 0 x) 1 y) 2 a) 3 b ≡ over (x ∷ y ∷ a ∷ b ∷ []) old
set_four x y a b old h = ap (λ (l : List Float). set (set l 2 a) 3 b) (set_two x y old h) ∙ over_push_two (x ∷ y ∷ []) old 2 a b refl (omega arith)
