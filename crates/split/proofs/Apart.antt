-- Stores over two parts of a list that do not meet may change places, and what stands beside a run of stores stays. Assumes nothing.
use Prim.Native.Nat.{ℕ, suc, ◌+◌, ◌≤◌, ◌<◌}
use mathlib.Core.List.{List, [], ◌∷◌}
use mathlib.Core.Path.{◌≡◌, refl, sym, ap, ◌∙◌}
use native.Mathlib.Omega.{arith}
use lib.ListN.{length, get_or, set}
use lib.Seq.{sets, set_comm, get_or-set_other}

module _ {A : Type 0} where
  -- one store behind a run of stores
  pub set_behind : (l : List A) (i : ℕ) (xs : List A) (k : ℕ) (y : A) → i + length xs ≤ k → set (sets l i xs) k y ≡ sets (set l k y) i xs
  set_behind l i [] k y h = refl
  set_behind l i (x ∷ xs) k y h =
      set_behind (set l i x) (suc i) xs k y (omega arith) ∙ ap (λ (m : List A). sets m (suc i) xs) (set_comm l i k x y (λ e. omega arith))

  -- a run of stores behind another
  pub sets_behind : (l : List A) (i : ℕ) (xs : List A) (k : ℕ) (ys : List A) → i + length xs ≤ k → sets (sets l i xs) k ys ≡ sets (sets l k ys) i xs
  sets_behind l i xs k [] h = refl
  sets_behind l i xs k (y ∷ ys) h =
      ap (λ (m : List A). sets m (suc k) ys) (set_behind l i xs k y h) ∙ sets_behind (set l k y) i xs (suc k) ys (omega arith)

  -- what stands before a run of stores, and behind it
  pub get_d_before : (l : List A) (i : ℕ) (xs : List A) (k : ℕ) (d : A) → k < i → get_or (sets l i xs) k d ≡ get_or l k d
  get_d_before l i [] k d h = refl
  get_d_before l i (x ∷ xs) k d h = get_d_before (set l i x) (suc i) xs k d (omega arith) ∙ get_or-set_other l i k x d (λ e. omega arith)

  pub get_d_behind : (l : List A) (i : ℕ) (xs : List A) (k : ℕ) (d : A) → i + length xs ≤ k → get_or (sets l i xs) k d ≡ get_or l k d
  get_d_behind l i [] k d h = refl
  get_d_behind l i (x ∷ xs) k d h = get_d_behind (set l i x) (suc i) xs k d (omega arith) ∙ get_or-set_other l i k x d (λ e. omega arith)

  -- two parts of a span with one store between them: that store may come first, and then the parts in either order
  module _ (m : List A) (f x : ℕ) (below : List A) (v : A) (above : List A) (h : f + 1 + length below ≡ x) where
    pub first_part_first : sets (sets (set m x v) (f + 1) below) (x + 1) above ≡ sets (set (sets m (f + 1) below) x v) (x + 1) above
    first_part_first = ap (λ (o : List A). sets o (x + 1) above) (sym (set_behind m (f + 1) below x v (omega arith)))

    pub last_part_first : sets (sets (set m x v) (x + 1) above) (f + 1) below ≡ sets (set (sets m (f + 1) below) x v) (x + 1) above
    last_part_first = sym (sets_behind (set m x v) (f + 1) below (x + 1) above (omega arith)) ∙ first_part_first
