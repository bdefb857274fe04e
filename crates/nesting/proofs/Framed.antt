-- A list between two ends, mapped, and with what holds of all of it. Assumes nothing.
use Prim.Native.Nat.{◌≤◌, ◌<◌}
use mathlib.Core.Bool.{Bool, true, false}
use mathlib.Core.List.{List, [], ◌∷◌, map, map-append}
use mathlib.Core.Path.{◌≡◌, refl, sym, ap, subst, ◌∙◌}
use lib.Dec.{ltb}
use lib.IntN.{ℤ}
use borrow.Author.Tests.{ltb-true, ltb-false}
use Rattle.point.specs.Points.{count}
use Rattle.split.specs.Tree.{framed}
use Rattle.split.proofs.Framed.{framed_many, framed_one}
use Rattle.nesting.proofs.Kept.{AllIn, all_append}

module _ (points : List ℤ) where
  pub framed_map : {A B : Type 0} (g : A → B) (end : A) (xs : List A) → map g (framed points end xs) ≡ framed points (g end) (map g xs)
  framed_map {A} {B} g end xs = go (ltb 1 (count points)) refl
    where
      go : (b : Bool) → ltb 1 (count points) ≡ b → map g (framed points end xs) ≡ framed points (g end) (map g xs)
      go true e =
          let h : 1 < count points = ltb-true 1 (count points) e in
          ap (map g) (framed_many points end xs h) ∙ ap (λ (l : List B). g end ∷ l) (map-append g xs (end ∷ [])) ∙ sym (framed_many points (g end) (map g xs) h)
      go false e =
          let h : count points ≤ 1 = ltb-false 1 (count points) e in
          ap (map g) (framed_one points end xs h) ∙ sym (framed_one points (g end) (map g xs) h)

  pub framed_all : {A : Type 0} (Q : A → Type 0) (end : A) (xs : List A) → Q end → AllIn Q xs → AllIn Q (framed points end xs)
  framed_all Q end xs p q = go (ltb 1 (count points)) refl
    where
      go : (b : Bool) → ltb 1 (count points) ≡ b → AllIn Q (framed points end xs)
      go true e = subst (AllIn Q) (sym (framed_many points end xs (ltb-true 1 (count points) e))) (unfold AllIn in (p, all_append Q xs (end ∷ []) q (p, tt)))
      go false e = subst (AllIn Q) (sym (framed_one points end xs (ltb-false 1 (count points) e))) (unfold AllIn in (p, tt))
