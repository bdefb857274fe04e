-- A tree cut at a tolerance and the same tree's numbers, walked down together: a split is kept exactly when the tolerance is below its number.
-- Assumes nothing.
use Prim.Native.Nat.{ℕ, zero, suc, ◌+◌}
use mathlib.Core.Bool.{Bool, true, false, ◌&&◌}
use mathlib.Core.List.{List, [], ◌∷◌, ◌++◌, map, map-append}
use mathlib.Core.Logic.{◌⊎◌, inl, inr}
use mathlib.Core.Path.{◌≡◌, refl, sym, ap, ap₂, subst, ◌∙◌}
use lib.Ieee.{Float, lt}
use lib.ListN.{get_or, replicate, replicate-append-replicate}
use Rattle.laws.proofs.Order.{AtLeastZero}
use Rattle.laws.specs.Least.{least}
use Rattle.laws.proofs.Least.{least_at_least_zero, least_cases}
use Rattle.split.specs.Tree.{Tree, leaf, node, size, cut, down}
use Rattle.reduce.specs.Zoom.{mark}
use Rattle.split.proofs.Cuts.{cut_kept, cut_dropped}
use Rattle.nesting.proofs.Tolerances.{below_least}
use Rattle.split.proofs.Trees.{Each}

-- ---- a mark says whether the tolerance is below the number

-- the marks of some numbers at a tolerance
abbrev pub marked : Float → List Float → List ℕ
marked t vs = map (λ v. mark (lt t v)) vs

repeat_split : (m n : ℕ) → ◌++◌ {A = ℕ} (replicate m 0) (0 ∷ replicate n 0) ≡ replicate (m + suc n) 0
repeat_split m n = let z : ℕ = 0 in replicate-append-replicate m (suc n) z

module _ (t : Float) where
  -- where a split around is not kept, none is
  pub none_kept : (around : Float) (tree : Tree) → AtLeastZero around → Each AtLeastZero tree → lt t around ≡ false
      → marked t (down around tree) ≡ replicate (size tree) 0
  unfolding down Each size
  none_kept around leaf p q e = refl
  none_kept around (node k d below above) p q e =
      let l : lt t (least around d) ≡ false = below_least t p q.0 ∙ ap (λ (b : Bool). b && lt t d) e in
      let o = least_at_least_zero p q.0 in
      map-append (λ v. mark (lt t v)) (down (least around d) below) (least around d ∷ down (least around d) above)
      ∙ ap₂ (λ (a b : List ℕ). a ++ b) (none_kept (least around d) below o q.1 l)
      (ap₂ (λ (m : ℕ) (r : List ℕ). m ∷ r) (ap mark l) (none_kept (least around d) above o q.2 l))
      ∙ repeat_split (size below) (size above)

  -- where all splits around are kept, a split is kept by its number
  pub kept_by_number : (around : Float) (tree : Tree) → AtLeastZero around → Each AtLeastZero tree → lt t around ≡ true → cut t tree ≡ marked t (down around tree)
  unfolding Each size
  kept_by_number around leaf p q e = unfold cut down in refl
  kept_by_number around (node k d below above) p q e =
      go (lt t d) refl (kept_by_number (least around d) below (least_at_least_zero p q.0) q.1) (kept_by_number (least around d) above (least_at_least_zero p q.0) q.2)
    where
      o : AtLeastZero (least around d)
      o = least_at_least_zero p q.0

      l : lt t (least around d) ≡ lt t d
      l = below_least t p q.0 ∙ ap (λ (b : Bool). b && lt t d) e

      parts : marked t (down around (node k d below above)) ≡ marked t (down (least around d) below) ++ (mark (lt t (least around d)) ∷ marked t (down (least around d) above))
      parts = unfold down in map-append (λ v. mark (lt t v)) (down (least around d) below) (least around d ∷ down (least around d) above)

      go : (b : Bool) → lt t d ≡ b → (lt t (least around d) ≡ true → cut t below ≡ marked t (down (least around d) below))
          → (lt t (least around d) ≡ true → cut t above ≡ marked t (down (least around d) above))
          → cut t (node k d below above) ≡ marked t (down around (node k d below above))
      go true h f g =
          cut_kept t k d below above h
          ∙ ap₂ (λ (a b : List ℕ). a ++ (1 ∷ b)) (f (l ∙ h)) (g (l ∙ h))
          ∙ ap (λ (m : ℕ). marked t (down (least around d) below) ++ (m ∷ marked t (down (least around d) above))) (sym (ap mark (l ∙ h)))
          ∙ sym parts
      go false h f g =
          cut_dropped t k d below above h
          ∙ sym (repeat_split (size below) (size above))
          ∙ sym
          (ap₂ (λ (a b : List ℕ). a ++ b) (none_kept (least around d) below o q.1 (l ∙ h))
          (ap₂ (λ (m : ℕ) (r : List ℕ). m ∷ r) (ap mark (l ∙ h)) (none_kept (least around d) above o q.2 (l ∙ h))))
          ∙ sym parts

-- ---- what holds of every value of a list

unfoldable pub AllIn : {A : Type 0} → (A → Type 0) → List A → Type 0
AllIn Q [] = Unit {0}
AllIn Q (x ∷ xs) = Q x × AllIn Q xs

module _ {A : Type 0} (Q : A → Type 0) where
  pub all_append : (xs ys : List A) → AllIn Q xs → AllIn Q ys → AllIn Q (xs ++ ys)
  unfolding AllIn
  all_append [] ys p q = q
  all_append (x ∷ xs) ys p q = (p.0, all_append xs ys p.1 q)

  -- past the end stands a value of one's own, of which it holds too
  pub all_at : (xs : List A) (d : A) → AllIn Q xs → Q d → (k : ℕ) → Q (get_or xs k d)
  unfolding AllIn
  all_at [] d p q k = q
  all_at (x ∷ xs) d p q zero = p.0
  all_at (x ∷ xs) d p q (suc k) = all_at xs d p.1 q k

-- a number is one of the distances on the way down, or what is around all
pub down_any : (Q : Float → Type 0) (around : Float) (tree : Tree) → Q around → Each Q tree → AllIn Q (down around tree)
unfolding down Each AllIn
down_any Q around leaf p q = tt
down_any Q around (node k d below above) p q =
    let o : Q (least around d) = least_cases around d Q (λ h. q.0) (λ h. p) in
    all_append Q (down (least around d) below) (least around d ∷ down (least around d) above) (down_any Q (least around d) below o q.1) (o, down_any Q (least around d) above o q.2)

-- a mark is 0 or 1
abbrev pub Bit : ℕ → Type 0
Bit m = (m ≡ 0) ⊎ (m ≡ 1)

zero_bits : (n : ℕ) → AllIn Bit (replicate n 0)
unfolding AllIn
zero_bits zero = tt
zero_bits (suc n) = (inl refl, zero_bits n)

pub cut_bits : (t : Float) (tree : Tree) → AllIn Bit (cut t tree)
unfolding AllIn
cut_bits t leaf = unfold cut in tt
cut_bits t (node k d below above) = go (lt t d) refl (cut_bits t below) (cut_bits t above)
  where
    go : (b : Bool) → lt t d ≡ b → AllIn Bit (cut t below) → AllIn Bit (cut t above) → AllIn Bit (cut t (node k d below above))
    go true e p q = subst (AllIn Bit) (sym (cut_kept t k d below above e)) (all_append Bit (cut t below) (1 ∷ cut t above) p (inr refl, q))
    go false e p q = subst (AllIn Bit) (sym (cut_dropped t k d below above e)) (zero_bits (size (node k d below above)))
