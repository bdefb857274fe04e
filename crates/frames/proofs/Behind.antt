-- A text put part by part. `Left` is what a loop that does so keeps: what is left, put where it stands, gives the whole. Assumes nothing.
use Prim.Native.Nat.{ℕ, ◌+◌, ◌*◌, ◌≤◌, ◌<◌}
use mathlib.Core.Bool.{Bool, true, false}
use mathlib.Core.List.{List, [], ◌∷◌, ◌++◌}
use mathlib.Core.Path.{◌≡◌, refl, sym, ap, subst, ◌∙◌}
use native.Mathlib.Nat.{suc-mul}
use native.Mathlib.Numerals.{add-one}
use native.Mathlib.Omega.{arith}
use lib.Dec.{leb}
use lib.ListN.{length, drop, get_or, length-append, drop_of_length-le}
use lib.Seq.{drop-cons}
use borrow.Author.Tests.{leb-true}
use Rattle.texts.specs.Put.{Placed, put}
use Rattle.texts.proofs.Pieces.{put_nothing, put_both, second_fits, put_then}

-- `rest`, put at `end` of `out`, gives what `whole` at `at` of `out₀` does, and there is room for it
pub record Left (whole out₀ : List ℕ) (at : ℕ) (rest out : List ℕ) (end : ℕ) : Type 0 where
  pub room : end + length rest ≤ length out
  pub same : put rest out end ≡ put whole out₀ at

-- one part is put
pub left_next : (whole out₀ : List ℕ) (at : ℕ) (a b out last : List ℕ) (end next : ℕ) →
    Left whole out₀ at (a ++ b) out end → record { answer = next; out = last } ≡ put a out end → Left whole out₀ at b last next
left_next whole out₀ at a b out last end next l e = record {
  room = subst (λ (o : Placed). o.answer + length b ≤ length o.out) (sym e) (second_fits a b out end l.room);
  same = ap (λ (o : Placed). put b o.out o.answer) e ∙ put_both a b out end l.room ∙ l.same;
}

-- all of `b` is left where `a` is put
pub left_all : (a b out mid : List ℕ) (at m : ℕ) → at + length (a ++ b) ≤ length out →
    record { answer = m; out = mid } ≡ put a out at → Left b mid m b mid m
left_all a b out mid at m h e = record {
  room = subst (λ (o : Placed). o.answer + length b ≤ length o.out) (sym e) (second_fits a b out at h);
  same = refl;
}

-- no part is left
pub left_none : (whole out₀ : List ℕ) (at : ℕ) (out : List ℕ) (end : ℕ) →
    Left whole out₀ at [] out end → record { answer = end; out = out } ≡ put whole out₀ at
left_none whole out₀ at out end l =
    let h : end ≤ length out = omega (arith, l.room) in
    sym (put_nothing out end h) ∙ l.same

-- Values, each a text of its own and `k` digits long: `f` is the text of all, `t` of one.
pub record Texts {A : Type 0} (f : List A → List ℕ) (t : A → List ℕ) (k : ℕ) : Type 0 where
  pub none : f [] ≡ []
  pub more : (v : A) (vs : List A) → f (v ∷ vs) ≡ t v ++ f vs
  pub each : (v : A) → length (t v) ≡ k

module _ {A : Type 0} {f : List A → List ℕ} {t : A → List ℕ} {k : ℕ} (texts : Texts f t k) where
  pub length_all : (vs : List A) → length (f vs) ≡ length vs * k
  length_all [] = ap length texts.none ∙ omega arith
  length_all (v ∷ vs) =
      ap length (texts.more v vs) ∙ length-append (t v) (f vs) ∙ omega (arith, texts.each v, length_all vs, suc-mul (length vs) k)

  pub left_value : (whole out₀ : List ℕ) (at : ℕ) (vs : List A) (i : ℕ) (d : A) (out last : List ℕ) (end next : ℕ) → i < length vs →
      Left whole out₀ at (f (drop i vs)) out end → record { answer = next; out = last } ≡ put (t (get_or vs i d)) out end →
      Left whole out₀ at (f (drop (i + 1) vs)) last next
  left_value whole out₀ at vs i d out last end next h l e =
      let here : f (drop i vs) ≡ t (get_or vs i d) ++ f (drop (i + 1) vs) = rw (add-one, drop-cons vs i d, texts.more) in
      left_next whole out₀ at (t (get_or vs i d)) (f (drop (i + 1) vs)) out last end next
      (subst (λ (l : List ℕ). Left whole out₀ at l out end) here l) e

  left_end : (whole out₀ : List ℕ) (at : ℕ) (vs : List A) (i : ℕ) (out : List ℕ) (end : ℕ) → length vs ≤ i →
      Left whole out₀ at (f (drop i vs)) out end → record { answer = end; out = out } ≡ put whole out₀ at
  left_end whole out₀ at vs i out end h l =
      let here : f (drop i vs) ≡ [] = rw (drop_of_length-le vs h, texts.none) in
      left_none whole out₀ at out end (subst (λ (l : List ℕ). Left whole out₀ at l out end) here l)

  -- behind 8 digits: whether both fit, as the code asks it
  module _ (head out : List ℕ) (eight : length head ≡ 8) (at : ℕ) (vs : List A) (fits : Bool) (says : fits ≡ leb (at + (8 + length vs * k)) (length out)) where
    size : length (head ++ f vs) ≡ 8 + length vs * k
    size = length-append head (f vs) ∙ omega (arith, eight, length_all vs)

    pub none_fits : fits ≡ false → record { answer = at; out = out } ≡ put (head ++ f vs) out at
    unfolding put
    none_fits e = rw (size, ← says, e)

    module _ (e : fits ≡ true) (m : ℕ) (mid : List ℕ) (begun : record { answer = m; out = mid } ≡ put head out at) where
      all_fits : at + length (head ++ f vs) ≤ length out
      all_fits = omega (arith, size, leb-true (at + (8 + length vs * k)) (length out) (sym says ∙ e))

      pub left_begun : Left (f vs) mid m (f vs) mid m
      left_begun = left_all head (f vs) out mid at m all_fits begun

      pub left_ended : (i end : ℕ) (last : List ℕ) → length vs ≤ i → Left (f vs) mid m (f (drop i vs)) last end →
          record { answer = end; out = last } ≡ put (head ++ f vs) out at
      left_ended i end last h l = put_then head (f vs) out mid last at m end all_fits begun (left_end (f vs) mid m vs i last end h l)
