-- The stores of a whole call: both ends, and what stands between them, are the answer laid over the start of the buffer. Assumes nothing.
use Prim.Native.Nat.{ℕ, zero, suc, ◌+◌, ◌-◌, ◌/◌, ◌≤◌, ◌<◌}
use mathlib.Core.List.{List, [], ◌∷◌, ◌++◌}
use mathlib.Core.Path.{◌≡◌, refl, sym, ap, ◌∙◌}
use native.Mathlib.Omega.{arith}
use lib.IntN.{ℤ}
use lib.ListN.{length, take, drop, set, length-set}
use lib.Seq.{sets, sets-eq, set_split, drop_at, length-take-le, append_snoc}
use borrow.Author.Tests.{lt-ltb, le-ltb, eq-eqb, ne_eqb}
use Rattle.laws.specs.Lists.{over}
use Rattle.split.specs.Buffers.{laid}
use Rattle.split.specs.Tree.{Tree, leaf, framed, span_tree, tree, size}
use Rattle.split.proofs.Framed.{framed_length}
use Rattle.split.proofs.Trees.{span_size, tree_none}

module _ {A : Type 0} where
  drop_set : (k : ℕ) (l : List A) (x : A) → k < length l → drop k (set l k x) ≡ x ∷ drop (suc k) l
  drop_set k l x h =
      let i : k ≤ length l = omega arith in
      ap (drop k) (set_split l k x h) ∙ drop_at (take k l) (x ∷ drop (suc k) l) k (length-take-le k l i)

  ends_stored : (m : List A) (e : A) (vs : List A) (k : ℕ) → length vs ≡ k → suc (suc k) ≤ length m
      → sets (set (set m 0 e) (suc k) e) 1 vs ≡ e ∷ (vs ++ (e ∷ [])) ++ drop (suc (suc k)) m
  ends_stored [] e vs k h l = absurd (omega arith)
  ends_stored (x ∷ m) e vs k h l =
      let i : k < length m = omega arith in
      let j : 1 + length vs ≤ length (e ∷ set m k e) = simp length-set (omega arith) in
      let z : 1 + length vs ≡ suc k = omega arith in
      sets-eq vs (e ∷ set m k e) 1 j
      ∙ ap (λ (n : ℕ). e ∷ (vs ++ drop n (e ∷ set m k e))) z
      ∙ ap (λ (l : List A). e ∷ (vs ++ l)) (drop_set k m e i)
      ∙ ap (λ (l : List A). e ∷ l) (sym (append_snoc vs e (drop (suc k) m)))

  one_end_stored : (m : List A) (e : A) → 1 ≤ length m → set (set m 0 e) 0 e ≡ e ∷ [] ++ drop 1 m
  one_end_stored [] e l = absurd (omega arith)
  one_end_stored (x ∷ m) e l = refl

module _ {A : Type 0} (points : List ℤ) where
  pub laid_none : (new old : List A) → length points / 2 ≡ 0 → old ≡ laid points new old
  laid_none new old h = rw (eq-eqb (length points / 2) 0 h)

  pub laid_no_room : (new old : List A) → (length points / 2 ≡ 0 → ⊥) → length old < length points / 2 → old ≡ laid points new old
  laid_no_room new old n h = rw (ne_eqb (length points / 2) 0 n, lt-ltb (length old) (length points / 2) h)

  pub laid_over : (new old : List A) → (length points / 2 ≡ 0 → ⊥) → length points / 2 ≤ length old → laid points new old ≡ over new old
  laid_over new old n h = rw (ne_eqb (length points / 2) 0 n, le-ltb (length old) (length points / 2) h)

-- a list made of the tree, one for each split, with the ends around it
module _ {A : Type 0} (points : List ℤ) (end : A) (f : Tree → List A) (sized : (r : Tree) → length (f r) ≡ size r) (none : f leaf ≡ []) where
  framed_stored : (last : ℕ) → length points / 2 ≡ suc last → (m : List A) → suc last ≤ length m
      → sets (set (set m 0 end) last end) (0 + 1) (f (span_tree points 0 last)) ≡ framed points end (f (span_tree points 0 last)) ++ drop (suc last) m
  framed_stored zero e m l =
      ap (λ (r : Tree). sets (set (set m 0 end) 0 end) 1 (f r)) (tree_none points 0 0 0 (omega arith)) ∙ ap (λ (vs : List A). sets (set (set m 0 end) 0 end) 1 vs) none
      ∙ one_end_stored m end l
      ∙ rw (le-ltb 1 (length points / 2) (omega arith))
  framed_stored (suc k) e m l =
      let x : suc k - 1 ≡ k = omega arith in
      ends_stored m end (f (span_tree points 0 (suc k))) k (sized (span_tree points 0 (suc k)) ∙ span_size points 0 (suc k) ∙ x) l
      ∙ rw (lt-ltb 1 (length points / 2) (omega arith))

  pub all_laid : (m m' : List A) → (length points / 2 ≡ 0 → ⊥) → length points / 2 ≤ length m
      → m' ≡ sets (set (set m 0 end) (length points / 2 - 1) end) (0 + 1) (f (span_tree points 0 (length points / 2 - 1)))
      → m' ≡ laid points (framed points end (f (tree points))) m
  unfolding tree over
  all_laid m m' n l h =
      let e : length points / 2 ≡ suc (length points / 2 - 1) = omega arith in
      h ∙ framed_stored (length points / 2 - 1) e m (rw e at l)
      ∙ ap (λ (k : ℕ). framed points end (f (tree points)) ++ drop k m) (sym e ∙ sym (framed_length points end f sized (omega arith)))
      ∙ sym (laid_over points (framed points end (f (tree points))) m n l)
