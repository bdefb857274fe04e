-- What a loop that writes a lent buffer from its start needs beyond `lib.Seq`: one store or two as a longer front, and `over`, a list laid
-- over the start of the buffer. Assumes nothing.
use mathlib.Core.Path.{◌≡◌, refl, sym, ap, ◌∙◌}
use mathlib.Core.List.{List, [], ◌∷◌, ◌++◌, append_assoc}
use Prim.Native.Nat.{ℕ, ◌+◌, ◌-◌, ◌≤◌, ◌<◌}
use native.Mathlib.Numerals.{add-one}
use native.Mathlib.Omega.{arith}
use lib.ListN.{length, get_or, take, drop, set, length-append, length-drop, get_or-append}
use lib.Seq.{drop-cons, append_snoc, set_at, take-append_seam, drop-append-add, drop-drop}
use Rattle.laws.specs.Lists.{over}

module _ {ℓ} {A : Type ℓ} where
  -- ---- a buffer of which the front `p` is written, and the rest is as it was: one store more, and two (a point is x and y)

  pub push : (p old : List A) (i : ℕ) (x : A) → length p ≡ i → i < length old → set (p ++ drop i old) i x ≡ p ++ (x ∷ []) ++ drop (i + 1) old
  push p old i x e h = rw (add-one, drop-cons old i x, set_at, append_snoc)

  pub push_two : (p old : List A) (i : ℕ) (x y : A) → length p ≡ i → i + 1 < length old
      → set (set (p ++ drop i old) i x) (i + 1) y ≡ p ++ (x ∷ y ∷ []) ++ drop (i + 2) old
  push_two p old i x y e h =
      let k : i < length old = omega arith in
      let e' : length (p ++ (x ∷ [])) ≡ i + 1 = length-append p (x ∷ []) ∙ ap (λ (n : ℕ). n + 1) e in
      let two : i + 1 + 1 ≡ i + 2 = omega arith in
      ap (λ (l : List A). set l (i + 1) y) (push p old i x e k)
      ∙ push (p ++ (x ∷ [])) old (i + 1) y e' h
      ∙ ap (λ (n : ℕ). p ++ (x ∷ []) ++ (y ∷ []) ++ drop n old) two
      ∙ ap (λ (l : List A). l ++ drop (i + 2) old) (append_assoc p (x ∷ []) (y ∷ []))

  -- ---- `xs` laid over the start of `old`: the rest is old

  pub over_nil : (old : List A) → over [] old ≡ old
  unfolding over
  over_nil old = refl

  pub length_over : (xs old : List A) → length xs ≤ length old → length (over xs old) ≡ length old
  unfolding over
  length_over xs old h = simp (length-append, length-drop) (omega arith)

  -- one value more, and two
  pub over_push : (xs old : List A) (n : ℕ) (x : A) → length xs ≡ n → n < length old → set (over xs old) n x ≡ over (xs ++ (x ∷ [])) old
  unfolding over
  over_push xs old n x e h =
      ap (λ (k : ℕ). set (xs ++ drop k old) n x) e
      ∙ push xs old n x e h
      ∙ ap (λ (k : ℕ). xs ++ (x ∷ []) ++ drop k old) (ap (λ (k : ℕ). k + 1) (sym e) ∙ sym (length-append xs (x ∷ [])))

  pub over_push_two : (xs old : List A) (n : ℕ) (x y : A) → length xs ≡ n → n + 1 < length old
      → set (set (over xs old) n x) (n + 1) y ≡ over (xs ++ (x ∷ y ∷ [])) old
  unfolding over
  over_push_two xs old n x y e h =
      ap (λ (k : ℕ). set (set (xs ++ drop k old) n x) (n + 1) y) e
      ∙ push_two xs old n x y e h
      ∙ ap (λ (k : ℕ). xs ++ (x ∷ y ∷ []) ++ drop k old) (ap (λ (k : ℕ). k + 2) (sym e) ∙ sym (length-append xs (x ∷ y ∷ [])))

  -- ---- its parts and its values

  pub take_over_all : (xs old : List A) → take (length xs) (over xs old) ≡ xs
  unfolding over
  take_over_all xs old = take-append_seam xs (drop (length xs) old)

  pub drop_over : (xs old : List A) (n : ℕ) → length xs ≤ n → drop n (over xs old) ≡ drop n old
  unfolding over
  drop_over xs old n h =
      let e : n ≡ length xs + (n - length xs) = omega arith in
      rw (e, drop-append-add, drop-drop)

  pub get_d_over_front : (xs old : List A) (i : ℕ) (d : A) → i < length xs → get_or (over xs old) i d ≡ get_or xs i d
  unfolding over
  get_d_over_front xs old i d h = get_or-append xs (drop (length xs) old) d i h
