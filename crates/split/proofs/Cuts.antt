-- A tree cut at a tolerance, and the same tree's numbers: one of each for each split. And from 0 on the way down every number is 0. Assumes
-- nothing.
use Prim.Native.Nat.{ℕ, suc, ◌+◌}
use mathlib.Core.Bool.{Bool, true, false}
use mathlib.Core.List.{List, ◌∷◌, ◌++◌}
use mathlib.Core.Path.{◌≡◌, refl, ap, ap₂, ◌∙◌}
use lib.Ieee.{Float, lt}
use lib.ListN.{length, replicate, length-append, length-replicate, replicate-append-replicate}
use Rattle.laws.specs.Least.{least}
use Rattle.laws.proofs.Least.{least_first}
use Rattle.split.specs.Tree.{Tree, leaf, node, size, cut, down}
use Rattle.split.proofs.Trees.{Each}

-- ---- a mark and a number for each split

pub cut_kept : (t : Float) (k : ℕ) (d : Float) (below above : Tree) → lt t d ≡ true → cut t (node k d below above) ≡ cut t below ++ (1 ∷ cut t above)
unfolding cut
cut_kept t k d below above e = rw (e, cut)

pub cut_dropped : (t : Float) (k : ℕ) (d : Float) (below above : Tree) → lt t d ≡ false → cut t (node k d below above) ≡ replicate (size (node k d below above)) 0
unfolding cut size
cut_dropped t k d below above e = rw (e, cut)

pub length_cut : (t : Float) (tree : Tree) → length (cut t tree) ≡ size tree
unfolding size
length_cut t leaf = unfold cut in refl
length_cut t (node k d below above) = go (lt t d) refl (length_cut t below) (length_cut t above)
  where
    go : (b : Bool) → lt t d ≡ b → length (cut t below) ≡ size below → length (cut t above) ≡ size above
        → length (cut t (node k d below above)) ≡ size below + suc (size above)
    go true e p q = ap length (cut_kept t k d below above e) ∙ length-append (cut t below) (1 ∷ cut t above) ∙ ap₂ (λ (m n : ℕ). m + suc n) p q
    go false e p q = let z : ℕ = 0 in ap length (cut_dropped t k d below above e) ∙ length-replicate (size below + suc (size above)) z

pub length_down : (around : Float) (tree : Tree) → length (down around tree) ≡ size tree
unfolding down size
length_down around leaf = refl
length_down around (node k d below above) =
    length-append (down (least around d) below) (least around d ∷ down (least around d) above)
    ∙ ap₂ (λ (m n : ℕ). m + suc n) (length_down (least around d) below) (length_down (least around d) above)

-- ---- from a number that no distance is below, every number is it

pub down_from_least : (z : Float) (tree : Tree) → Each (λ d. lt d z ≡ false) tree → down z tree ≡ replicate (size tree) z
unfolding down Each size
down_from_least z leaf q = refl
down_from_least z (node k d below above) q =
    ap (λ (m : Float). down m below ++ (m ∷ down m above)) (least_first z d q.0)
    ∙ ap₂ (λ (a b : List Float). a ++ (z ∷ b)) (down_from_least z below q.1) (down_from_least z above q.2)
    ∙ replicate-append-replicate (size below) (suc (size above)) z
