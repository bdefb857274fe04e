-- The tree of a span: it is split at the farthest point, which lies inside; more fuel than the span is long changes nothing; and it has a split
-- for each point inside. Assumes nothing.
use Prim.Native.Nat.{ℕ, zero, suc, ◌-◌, ◌≤◌, ◌<◌}
use mathlib.Core.Bool.{Bool, true, false}
use mathlib.Core.List.{List}
use mathlib.Core.Path.{◌≡◌, refl, sym, ap, ap₂, subst, ◌∙◌}
use native.Mathlib.Nat.{le_refl}
use native.Mathlib.Omega.{arith}
use lib.Dec.{ltb}
use lib.IntN.{ℤ}
use lib.Ieee.{Float}
use borrow.Author.Tests.{ltb-true, ltb-false, lt-ltb, le-ltb}
use Rattle.split.specs.declared.farthest.Far.{Far}
use Rattle.split.specs.Farthest.{distance_in, farthest}
use Rattle.split.proofs.Folds.{far as farAt, farther_within}
use Rattle.split.specs.Tree.{Tree, leaf, node, tree_of, span_tree, size}

-- ---- every distance of a tree

unfoldable pub Each : (Float → Type 0) → Tree → Type 0
Each Q leaf = Unit {0}
Each Q (node k d below above) = Q d × Each Q below × Each Q above

pub each_map : {Q R : Float → Type 0} (tree : Tree) → ((x : Float) → Q x → R x) → Each Q tree → Each R tree
unfolding Each
each_map leaf f q = tt
each_map (node k d below above) f q = (f d q.0, each_map below f q.1, each_map above f q.2)

-- ---- where a span is split

-- the position, and its distance
abbrev pub middle : List ℤ → ℕ → ℕ → ℕ
middle points f l = (farthest points f l).index

abbrev pub reach : List ℤ → ℕ → ℕ → Float
reach points f l = (farthest points f l).distance

-- inside
pub split_inside : (points : List ℤ) (f l : ℕ) → suc f < l → (f < middle points f l) × (middle points f l < l)
unfolding farthest
split_inside points f l inside =
    let d = distance_in points f l in
    farther_within d (l - suc (suc f)) (suc (suc f)) (farAt (suc f) (d (suc f))) (suc f) l (le_refl (suc f)) inside (omega arith) (omega arith)

-- ---- the tree of a span

module _ (points : List ℤ) where
  -- a split, and none
  pub tree_more : (n f l : ℕ) → suc f < l
      → tree_of points (suc n) f l ≡ node (middle points f l) (reach points f l) (tree_of points n f (middle points f l)) (tree_of points n (middle points f l) l)
  unfolding tree_of
  tree_more n f l h = rw (lt-ltb (suc f) l h, tree_of)

  pub tree_none : (n f l : ℕ) → l ≤ suc f → tree_of points n f l ≡ leaf
  unfolding tree_of
  tree_none zero f l h = refl
  tree_none (suc n) f l h = rw (le-ltb (suc f) l h, tree_of)

  -- any fuel from the span's length on gives the same
  pub tree_fuel : (n m f l : ℕ) → l - f ≤ n → l - f ≤ m → tree_of points n f l ≡ tree_of points m f l
  tree_fuel zero m f l h g = tree_none zero f l (omega arith) ∙ sym (tree_none m f l (omega arith))
  tree_fuel (suc n) zero f l h g = tree_none (suc n) f l (omega arith) ∙ sym (tree_none zero f l (omega arith))
  tree_fuel (suc n) (suc m) f l h g =
      let x = middle points f l in
      go (ltb (suc f) l) refl (tree_fuel n m f x) (tree_fuel n m x l)
    where
      go : (b : Bool) → ltb (suc f) l ≡ b
          → (middle points f l - f ≤ n → middle points f l - f ≤ m → tree_of points n f (middle points f l) ≡ tree_of points m f (middle points f l))
          → (l - middle points f l ≤ n → l - middle points f l ≤ m → tree_of points n (middle points f l) l ≡ tree_of points m (middle points f l) l)
          → tree_of points (suc n) f l ≡ tree_of points (suc m) f l
      go true e p q =
          let o : suc f < l = ltb-true (suc f) l e in
          let i = split_inside points f l o in
          tree_more n f l o
          ∙ ap₂ (λ (a b : Tree). node (middle points f l) (reach points f l) a b) (p (omega arith) (omega arith)) (q (omega arith) (omega arith))
          ∙ sym (tree_more m f l o)
      go false e p q = tree_none (suc n) f l (ltb-false (suc f) l e) ∙ sym (tree_none (suc m) f l (ltb-false (suc f) l e))

  -- a span's tree by those of its two parts
  pub span_split : (f l : ℕ) → suc f < l
      → span_tree points f l ≡ node (middle points f l) (reach points f l) (span_tree points f (middle points f l)) (span_tree points (middle points f l) l)
  span_split f l o =
      let x = middle points f l in
      let i = split_inside points f l o in
      let e : suc (l - suc f) ≡ l - f = omega arith in
      ap (λ (n : ℕ). tree_of points n f l) (sym e)
      ∙ tree_more (l - suc f) f l o
      ∙ ap₂ (λ (a b : Tree). node x (reach points f l) a b)
      (tree_fuel (l - suc f) (x - f) f x (omega arith) (omega arith)) (tree_fuel (l - suc f) (l - x) x l (omega arith) (omega arith))

  pub split_tree : (f l : ℕ) (far : Far) → suc f < l → far ≡ farthest points f l
      → span_tree points f l ≡ node far.index far.distance (span_tree points f far.index) (span_tree points far.index l)
  split_tree f l far o e = rw e (span_split f l o)

  -- proof by the two parts of a span: of the trees of all spans
  pub by_spans : (P : ℕ → ℕ → Tree → Type 0) → ((f l : ℕ) → l ≤ suc f → P f l leaf)
      → ((f l : ℕ) → suc f < l → (below above : Tree) → P f (middle points f l) below → P (middle points f l) l above
      → P f l (node (middle points f l) (reach points f l) below above))
      → (f l : ℕ) → P f l (span_tree points f l)
  by_spans P none some f l = go (l - f) f l (le_refl (l - f))
    where
      step : (n f l : ℕ) → ((f l : ℕ) → l - f ≤ n → P f l (tree_of points n f l)) → l - f ≤ suc n → (b : Bool) → ltb (suc f) l ≡ b → P f l (tree_of points (suc n) f l)
      step n f l p h true e =
          let o : suc f < l = ltb-true (suc f) l e in
          let i = split_inside points f l o in
          let x = middle points f l in
          subst (λ (t : Tree). P f l t) (sym (tree_more n f l o)) (some f l o (tree_of points n f x) (tree_of points n x l) (p f x (omega arith)) (p x l (omega arith)))
      step n f l p h false e = subst (λ (t : Tree). P f l t) (sym (tree_none (suc n) f l (ltb-false (suc f) l e))) (none f l (ltb-false (suc f) l e))

      go : (n f l : ℕ) → l - f ≤ n → P f l (tree_of points n f l)
      go zero f l h = subst (λ (t : Tree). P f l t) (sym (tree_none zero f l (omega arith))) (none f l (omega arith))
      go (suc n) f l h = step n f l (go n) h (ltb (suc f) l) refl

  -- a split for each point inside
  pub span_size : (f l : ℕ) → size (span_tree points f l) ≡ l - suc f
  unfolding size
  span_size =
      by_spans (λ f l t. size t ≡ l - suc f) (λ f l h. omega arith)
      (λ f l o below above p q. let i = split_inside points f l o in omega arith)
