-- A run of stores, `sets`: a part of a list that is filled with one value, and the stores of two spans with one between them. Assumes nothing.
use Prim.Native.Nat.{ℕ, suc, ◌+◌, ◌-◌, ◌≤◌}
use mathlib.Core.List.{List, [], ◌∷◌, ◌++◌, append_assoc}
use mathlib.Core.Path.{◌≡◌, sym, ap, ◌∙◌}
use native.Mathlib.Nat.{add-zero, add-suc, suc-add}
use native.Mathlib.Numerals.{add-one}
use native.Mathlib.Omega.{arith}
use lib.ListN.{length, take, drop, set, replicate, length-drop, length-replicate}
use lib.Seq.{sets, sets-eq, drop-drop, length-take-le}
use borrow.Rule.Slice.PartMut.{mid_of, put_mid, same_len_mid}

module _ {A : Type 0} where
  -- one list of stores behind another
  pub sets_append : (l : List A) (i : ℕ) (xs ys : List A) → sets l i (xs ++ ys) ≡ sets (sets l i xs) (i + length xs) ys
  sets_append l i [] ys = ap (λ (k : ℕ). sets l k ys) (sym (add-zero i))
  sets_append l i (x ∷ xs) ys = sets_append (set l i x) (suc i) xs ys ∙ ap (λ (k : ℕ). sets (sets (set l i x) (suc i) xs) k ys) (suc-add i (length xs) ∙ sym (add-suc i (length xs)))

  -- a part that was filled with one value
  pub part_filled : (l ys : List A) (a b : ℕ) (v : A) → ys ≡ replicate (length (mid_of a (b - a) l)) v → a ≤ b → b ≤ length l
      → put_mid a (b - a) l ys ≡ sets l a (replicate (b - a) v)
  part_filled l ys a b v e h r =
      let n : length (mid_of a (b - a) l) ≡ b - a = length-take-le (b - a) (drop a l) (rw length-drop (omega arith)) in
      let z : length (replicate (b - a) v) ≡ b - a = length-replicate (b - a) v in
      let i : a + length (replicate (b - a) v) ≤ length l = omega arith in
      ap (λ (xs : List A). put_mid a (b - a) l xs) (e ∙ ap (λ (k : ℕ). replicate k v) n)
      ∙ ap (λ (xs : List A). take a l ++ (replicate (b - a) v ++ xs)) (drop-drop (b - a) a l ∙ ap (λ (k : ℕ). drop (a + k) l) (sym z))
      ∙ sym (append_assoc (take a l) (replicate (b - a) v) (drop (a + length (replicate (b - a) v)) l))
      ∙ sym (sets-eq (replicate (b - a) v) l a i)

  pub part_filled_length : (l ys : List A) (a b : ℕ) (v : A) → ys ≡ replicate (length (mid_of a (b - a) l)) v → length (put_mid a (b - a) l ys) ≡ length l
  part_filled_length l ys a b v e = same_len_mid a (b - a) l ys (ap length e ∙ length-replicate (length (mid_of a (b - a) l)) v)

  -- two spans and what stands between them
  pub spans_stored : (l m : List A) (i k : ℕ) (xs : List A) (x : A) (ys : List A) → m ≡ sets l i xs → i + length xs ≡ k
      → sets (set m k x) (k + 1) ys ≡ sets l i (xs ++ (x ∷ ys))
  spans_stored l m i k xs x ys e h =
      ap (λ (n : ℕ). sets (set m k x) n ys) (add-one k)
      ∙ ap (λ (o : List A). sets o k (x ∷ ys)) e
      ∙ ap (λ (n : ℕ). sets (sets l i xs) n (x ∷ ys)) (sym h)
      ∙ sym (sets_append l i xs (x ∷ ys))
