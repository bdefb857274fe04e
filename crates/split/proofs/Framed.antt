-- A list between two ends: of two points or more, and of one; with one for each split between them it has one for each point. Assumes nothing.
use Prim.Native.Nat.{◌-◌, ◌≤◌, ◌<◌}
use mathlib.Core.Bool.{Bool, true, false}
use mathlib.Core.List.{List, [], ◌∷◌, ◌++◌}
use mathlib.Core.Path.{◌≡◌, refl, ap, ◌∙◌}
use native.Mathlib.Omega.{arith}
use lib.Dec.{ltb}
use lib.IntN.{ℤ}
use lib.ListN.{length, length-append}
use borrow.Author.Tests.{lt-ltb, le-ltb, ltb-true, ltb-false}
use Rattle.point.specs.Points.{count}
use Rattle.split.specs.Tree.{Tree, framed, tree, size}
use Rattle.split.proofs.Trees.{span_size}

module _ (points : List ℤ) where
  pub framed_many : {A : Type 0} (end : A) (xs : List A) → 1 < count points → framed points end xs ≡ end ∷ (xs ++ (end ∷ []))
  framed_many end xs h = rw (lt-ltb 1 (count points) h)

  pub framed_one : {A : Type 0} (end : A) (xs : List A) → count points ≤ 1 → framed points end xs ≡ end ∷ []
  framed_one end xs h = rw (le-ltb 1 (count points) h)

module _ {A : Type 0} (points : List ℤ) (end : A) (f : Tree → List A) (sized : (r : Tree) → length (f r) ≡ size r) where
  pub framed_length : 0 < count points → length (framed points end (f (tree points))) ≡ count points
  framed_length h = go (ltb 1 (count points)) refl
    where
      inside : length (f (tree points)) ≡ count points - 1 - 1
      inside = sized (tree points) ∙ (unfold tree in span_size points 0 (count points - 1))

      go : (b : Bool) → ltb 1 (count points) ≡ b → length (framed points end (f (tree points))) ≡ count points
      go true e =
          let o : 1 < count points = ltb-true 1 (count points) e in
          ap length (framed_many points end (f (tree points)) o) ∙ omega (arith, inside, length-append (f (tree points)) (end ∷ []))
      go false e =
          let o : count points ≤ 1 = ltb-false 1 (count points) e in
          ap length (framed_one points end (f (tree points)) o) ∙ omega arith
