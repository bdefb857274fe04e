-- A dropped position of a span lies between two kept ones with none between them, and no farther from their segment than the tolerance: by
-- the two parts of a split span, and in a span that is not split by its greatest distance. Assumes nothing.
use Prim.Native.Nat.{ℕ, zero, suc, ◌+◌, ◌-◌, ◌≤◌, ◌<◌}
use mathlib.Core.Bool.{Bool, true, false}
use mathlib.Core.List.{List, [], ◌∷◌, ◌++◌, append_assoc}
use mathlib.Core.Logic.{◌⊎◌, inl, inr}
use mathlib.Core.Path.{◌≡◌, refl, sym, ap, subst, ◌∙◌}
use native.Mathlib.Nat.{eq-or-lt_of_le}
use native.Mathlib.Omega.{arith}
use lib.Dec.{ltb}
use lib.IntN.{ℤ}
use lib.Ieee.{Float, lt}
use lib.ListN.{length, get_or, replicate, length-append, length-replicate, get_or-replicate, get_or-append, get_or-eq_default}
use lib.Seq.{get_or_at, get_or-append-add}
use borrow.Author.Tests.{ltb-true, ltb-false}
use Rattle.split.specs.Farthest.{distance_in}
use Rattle.split.specs.Tree.{Tree, leaf, node, span_tree, size, cut}
use Rattle.split.proofs.Cuts.{length_cut, cut_kept, cut_dropped}
use Rattle.nesting.proofs.Tolerances.{within_goes_down}
use Rattle.split.proofs.Trees.{middle, reach, split_inside, by_spans}
use Rattle.split.proofs.Small.{SmallSpan, at_least, span_part, span_distance, split_distance}
use Rattle.nesting.proofs.Farthest.{split_greatest}

-- in a list of marks that starts at the position f: two kept ones around k, with none between them, near whose segment k lies
pub record Between (points : List ℤ) (t : Float) (f : ℕ) (marks : List ℕ) (k : ℕ) : Type 0 where
  pub low : ℕ
  pub high : ℕ
  pub low_first : low < k
  pub high_after : k < high
  pub low_kept : get_or marks low 0 ≡ 1
  pub high_kept : get_or marks high 0 ≡ 1
  pub none_between : (j : ℕ) → low < j → j < high → get_or marks j 0 ≡ 0
  pub near : lt t (distance_in points (f + low) (f + high) (f + k)) ≡ false

-- a mark is not both
not_both : {n : ℕ} → n ≡ 1 → n ≡ 0 → ⊥
not_both {n} e h = let z : ◌≡◌ {A = ℕ} 0 1 = cc in omega arith

-- ---- a span with no split

module _ (points : List ℤ) (t : Float) (f n : ℕ) (within : (k : ℕ) → 0 < k → k ≤ n → lt t (distance_in points (f + 0) (f + suc n) (f + k)) ≡ false) where
  abbrev zeros : List ℕ
  zeros = replicate n 0

  abbrev dropped : List ℕ
  dropped = 1 ∷ (zeros ++ (1 ∷ []))

  inside_zero : (k : ℕ) → 0 < k → k ≤ n → get_or dropped k 0 ≡ 0
  inside_zero zero p q = absurd (omega arith)
  inside_zero (suc k) p q =
      let z : ℕ = 0 in
      let h : k < length zeros = subst (λ (m : ℕ). k < m) (sym (length-replicate n z)) (omega arith) in
      get_or-append zeros (1 ∷ []) 0 k h ∙ get_or-replicate n k z z (omega arith)

  end_one : get_or dropped (suc n) 0 ≡ 1
  end_one = let z : ℕ = 0 in get_or_at zeros 1 [] z n (length-replicate n z)

  pub dropped_between : (k : ℕ) → k ≤ suc n → get_or dropped k 0 ≡ 0 → Between points t f dropped k
  dropped_between zero l e = absurd (not_both refl e)
  dropped_between (suc k) l e = go (eq-or-lt_of_le l)
    where
      go : (suc k ≡ suc n) ⊎ (suc k < suc n) → Between points t f dropped (suc k)
      go (inl q) = absurd (not_both end_one (subst (λ (j : ℕ). get_or dropped j 0 ≡ 0) q e))
      go (inr q) = record {
        low = 0;
        high = suc n;
        low_first = omega arith;
        high_after = q;
        low_kept = refl;
        high_kept = end_one;
        none_between = λ j a b. inside_zero j a (omega arith);
        near = within (suc k) (omega arith) (omega arith);
      }

-- ---- a span that is split: `left` stands before the point that it is split at, and `right` from that point on

module _ (points : List ℤ) (t : Float) (f h : ℕ) (left right : List ℕ) (sized : length left ≡ h) (starts : get_or right 0 0 ≡ 1) where
  pub in_right : (j : ℕ) → get_or (left ++ right) (h + j) 0 ≡ get_or right j 0
  in_right j = subst (λ (m : ℕ). get_or (left ++ right) (m + j) 0 ≡ get_or right j 0) sized (get_or-append-add left right j 0)

  pub in_left : (j : ℕ) → j ≤ h → get_or (left ++ right) j 0 ≡ get_or (left ++ (1 ∷ [])) j 0
  in_left j l = go (eq-or-lt_of_le l)
    where
      go : (j ≡ h) ⊎ (j < h) → get_or (left ++ right) j 0 ≡ get_or (left ++ (1 ∷ [])) j 0
      go (inl e) =
          let z : h + 0 ≡ j = omega arith in
          subst (λ (m : ℕ). get_or (left ++ right) m 0 ≡ 1) z (in_right 0 ∙ starts) ∙ sym (get_or_at left 1 [] 0 j (sized ∙ sym e))
      go (inr q) =
          let i : j < length left = subst (λ (m : ℕ). j < m) (sym sized) q in
          get_or-append left right 0 j i ∙ sym (get_or-append left (1 ∷ []) 0 j i)

  -- the end of the left part is kept, and past it there is nothing
  high_in : (j : ℕ) → get_or (left ++ (1 ∷ [])) j 0 ≡ 1 → j ≤ h
  high_in j e = go (ltb h j) refl
    where
      go : (b : Bool) → ltb h j ≡ b → j ≤ h
      go true l =
          let i : h < j = ltb-true h j l in
          let s : length (left ++ (1 ∷ [])) ≤ j = subst (λ (m : ℕ). m ≤ j) (sym (length-append left (1 ∷ []))) (omega arith) in
          absurd (not_both e (get_or-eq_default (left ++ (1 ∷ [])) 0 s))
      go false l = ltb-false h j l

  pub left_between : (k : ℕ) → Between points t f (left ++ (1 ∷ [])) k → Between points t f (left ++ right) k
  left_between k b =
      let i : b.high ≤ h = high_in b.high b.high_kept in
      let l = b.low_first in
      let g = b.high_after in
      record {
        low = b.low;
        high = b.high;
        low_first = b.low_first;
        high_after = b.high_after;
        low_kept = in_left b.low (omega arith) ∙ b.low_kept;
        high_kept = in_left b.high i ∙ b.high_kept;
        none_between = λ j p q. in_left j (omega arith) ∙ b.none_between j p q;
        near = b.near;
      }

  pub right_between : (x k : ℕ) → f + h ≡ x → Between points t x right k → Between points t f (left ++ right) (h + k)
  right_between x k e b =
      let l = b.low_first in
      let g = b.high_after in
      let moved : (j : ℕ) → x + j ≡ f + (h + j) = λ j. omega arith in
      record {
        low = h + b.low;
        high = h + b.high;
        low_first = omega arith;
        high_after = omega arith;
        low_kept = in_right b.low ∙ b.low_kept;
        high_kept = in_right b.high ∙ b.high_kept;
        none_between = λ j p q.
            let z : h + (j - h) ≡ j = omega arith in
            subst (λ (m : ℕ). get_or (left ++ right) m 0 ≡ 0) z (in_right (j - h) ∙ b.none_between (j - h) (omega arith) (omega arith));
        near = rw (moved b.low, moved b.high, moved k) at b.near;
      }

-- ---- all spans

module _ (points : List ℤ) (t : Float) where
  -- the marks of a span, its ends too
  abbrev pub whole : Tree → List ℕ
  whole tree = 1 ∷ (cut t tree ++ (1 ∷ []))

  abbrev Holds : ℕ → ℕ → Tree → Type 0
  Holds f l tree = (size tree ≡ l - suc f) × (SmallSpan points f l → f < l → (k : ℕ) → k ≤ l - f → get_or (whole tree) k 0 ≡ 0 → Between points t f (whole tree) k)

  at_leaf : (f l : ℕ) → l ≤ suc f → Holds f l leaf
  unfolding size cut
  at_leaf f l h = (omega arith, λ s o k i e. dropped_between points t f 0 (λ j p q. absurd (omega arith)) k (omega arith) e)

  -- a span that is not split, and one that is
  module _ (f l : ℕ) (o : suc f < l) (s : SmallSpan points f l) (below above : Tree)
      (b-size : size below ≡ middle points f l - suc f) (a-size : size above ≡ l - suc (middle points f l)) where
    abbrev x : ℕ
    x = middle points f l

    abbrev here : Tree
    here = node x (reach points f l) below above

    here_size : size here ≡ l - suc f
    unfolding size
    here_size = let i = split_inside points f l o in omega arith

    unsplit : lt t (reach points f l) ≡ false → (k : ℕ) → k ≤ l - f → get_or (whole here) k 0 ≡ 0 → Between points t f (whole here) k
    unsplit e k i h =
        let z : ℕ = 0 in
        let w : whole here ≡ 1 ∷ (replicate (l - suc f) z ++ (1 ∷ [])) =
        ap (λ (m : List ℕ). 1 ∷ (m ++ (1 ∷ []))) (cut_dropped t x (reach points f l) below above e ∙ ap (λ (n : ℕ). replicate n z) here_size)
        in
        subst (λ (m : List ℕ). Between points t f m k) (sym w) (dropped_between points t f (l - suc f) within k (omega arith) (subst (λ (m : List ℕ). get_or m k 0 ≡ 0) w h))
      where
        within : (k : ℕ) → 0 < k → k ≤ l - suc f → lt t (distance_in points (f + 0) (f + suc (l - suc f)) (f + k)) ≡ false
        within k p q =
            let a : f ≡ f + 0 = omega arith in
            let b : l ≡ f + suc (l - suc f) = omega arith in
            let g = split_greatest points f l o s (f + k) (omega arith) (omega arith) in
            rw (← a, ← b) (within_goes_down t (at_least (split_distance points f l o s)) (at_least (span_distance points s (f + k) (omega arith) (omega arith))) e g)

    split : lt t (reach points f l) ≡ true
        → ((k : ℕ) → k ≤ x - f → get_or (whole below) k 0 ≡ 0 → Between points t f (whole below) k)
        → ((k : ℕ) → k ≤ l - x → get_or (whole above) k 0 ≡ 0 → Between points t x (whole above) k)
        → (k : ℕ) → k ≤ l - f → get_or (whole here) k 0 ≡ 0 → Between points t f (whole here) k
    split e p q k i g =
        let w : whole here ≡ (1 ∷ cut t below) ++ whole above =
        ap (λ (m : List ℕ). 1 ∷ (m ++ (1 ∷ []))) (cut_kept t x (reach points f l) below above e)
        ∙ ap (λ (m : List ℕ). 1 ∷ m) (append_assoc (cut t below) (1 ∷ cut t above) (1 ∷ []))
        in
        subst (λ (m : List ℕ). Between points t f m k) (sym w) (go (ltb k (x - f)) refl (subst (λ (m : List ℕ). get_or m k 0 ≡ 0) w g))
      where
        sized : length (1 ∷ cut t below) ≡ x - f
        sized = let j = split_inside points f l o in omega (arith, length_cut t below)

        go : (b : Bool) → ltb k (x - f) ≡ b → get_or ((1 ∷ cut t below) ++ whole above) k 0 ≡ 0 → Between points t f ((1 ∷ cut t below) ++ whole above) k
        go true c h =
            let j : k ≤ x - f = omega (arith, ltb-true k (x - f) c) in
            left_between points t f (x - f) (1 ∷ cut t below) (whole above) sized refl k (p k j (sym (in_left points t f (x - f) (1 ∷ cut t below) (whole above) sized refl k j) ∙ h))
        go false c h =
            let j = split_inside points f l o in
            let v : x - f ≤ k = ltb-false k (x - f) c in
            let y : x - f + (k - (x - f)) ≡ k = omega arith in
            let u : f + (x - f) ≡ x = omega arith in
            subst (λ (m : ℕ). Between points t f ((1 ∷ cut t below) ++ whole above) m) y
            (right_between points t f (x - f) (1 ∷ cut t below) (whole above) sized refl x (k - (x - f)) u
            (q (k - (x - f)) (omega arith)
            (sym (in_right points t f (x - f) (1 ∷ cut t below) (whole above) sized refl (k - (x - f)))
            ∙ subst (λ (m : ℕ). get_or ((1 ∷ cut t below) ++ whole above) m 0 ≡ 0) (sym y) h)))

  at_node : (f l : ℕ) → suc f < l → (below above : Tree) → Holds f (middle points f l) below → Holds (middle points f l) l above
      → Holds f l (node (middle points f l) (reach points f l) below above)
  unfolding size
  at_node f l o below above p q = (let i = split_inside points f l o in omega arith, λ s g. go s (lt t (reach points f l)) refl)
    where
      go : SmallSpan points f l → (b : Bool) → lt t (reach points f l) ≡ b → (k : ℕ) → k ≤ l - f
          → get_or (whole (node (middle points f l) (reach points f l) below above)) k 0 ≡ 0
          → Between points t f (whole (node (middle points f l) (reach points f l) below above)) k
      go s true e =
          let i = split_inside points f l o in
          split f l o s below above p.0 q.0 e
          (p.1 (span_part points f (middle points f l) s (omega arith) (omega arith)) i.0)
          (q.1 (span_part points (middle points f l) l s (omega arith) (omega arith)) i.1)
      go s false e = unsplit f l o s below above p.0 q.0 e

  pub span_between : (f l : ℕ) → Holds f l (span_tree points f l)
  span_between = by_spans points Holds at_leaf at_node
