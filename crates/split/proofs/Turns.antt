-- The loop over spans that wait: what is left to do gives the whole. A span without interior is passed; a span is split, and one part of it
-- waits; or a span is done. What a span comes to is a list of values, its `piece`, stored over its interior; it may hang on what the buffer
-- holds at the span's ends, and `Good` says what must be known of these. Assumes nothing.
use Prim.Native.Nat.{ℕ, ◌+◌, ◌-◌, ◌≤◌, ◌<◌}
use mathlib.Core.Bool.{Bool, true, false}
use mathlib.Core.List.{List, [], ◌∷◌}
use mathlib.Core.Path.{◌≡◌, refl, sym, ap, subst, ◌∙◌}
use native.Mathlib.Omega.{arith}
use mir.Syntax.{w64}
use mir.Val.{Fits}
use lib.IntN.{ℤ}
use lib.Ieee.{Float}
use lib.ListN.{length, get_or, set, length-set}
use lib.Seq.{sets}
use Rattle.split.specs.declared.farthest.Far.{Far}
use Rattle.split.specs.declared.waiting.Parts.{Parts}
use Rattle.split.specs.inside.Parts.{parts_of}
use Rattle.split.specs.inside.Spans.{FoundInside}
use Rattle.split.specs.Tree.{span_tree}
use Rattle.split.specs.Visits.{visits}
use Rattle.split.proofs.Parts.{by_parts}
use Rattle.split.proofs.Visited.{none_visited, both_visited, one_visited, own_visited, span_bound}
use Rattle.split.proofs.Walk as walk
use Rattle.split.proofs.Walk.{Span, span, AllWait, to_do, held, held_length, held_last, held_more}

-- the buffer when a span is worked off, and when a list of them is, in turn
abbrev pub worked : {A : Type 0} → (List A → ℕ → ℕ → List A) → List A → ℕ → ℕ → List A
worked piece m f l = sets m (f + 1) (piece m f l)

unfoldable pub all_worked : {A : Type 0} → (List A → ℕ → ℕ → List A) → List Span → List A → List A
all_worked piece [] m = m
all_worked piece (s ∷ rest) m = all_worked piece rest (worked piece m s.first s.last)

-- what must be known of each, when its turn comes
unfoldable pub AllGood : {A : Type 0} → (List A → ℕ → ℕ → Type 0) → (List A → ℕ → ℕ → List A) → List Span → List A → Type 0
AllGood Good piece [] m = Unit {0}
AllGood Good piece (s ∷ rest) m = (s.first + 1 < s.last → Good m s.first s.last) × AllGood Good piece rest (worked piece m s.first s.last)

-- how many distances are still to be computed
unfoldable pub still : List ℤ → (Float → Bool) → List Span → ℕ
still points splits [] = 0
still points splits (s ∷ rest) = visits splits (span_tree points s.first s.last) + still points splits rest

-- a span that is split at i: with the value v stored there, its parts in either order come to the whole
pub record Parted {A : Type 0} (Good : List A → ℕ → ℕ → Type 0) (piece : List A → ℕ → ℕ → List A) (m : List A) (f i l : ℕ) (v : A) : Type 0 where
  pub first_good : Good (set m i v) f i
  pub then_last_good : Good (worked piece (set m i v) f i) i l
  pub first_first : worked piece (worked piece (set m i v) f i) i l ≡ worked piece m f l
  pub last_good : Good (set m i v) i l
  pub then_first_good : Good (worked piece (set m i v) i l) f i
  pub last_first : worked piece (worked piece (set m i v) i l) f i ≡ worked piece m f l

-- n distances are computed; the buffer was m₀ and is m
pub record Left {A : Type 0} (points : List ℤ) (splits : Float → Bool) (Good : List A → ℕ → ℕ → Type 0) (piece : List A → ℕ → ℕ → List A)
    (end : ℕ) (m₀ m : List A) (todo : List Span) (n : ℕ) : Type 0 where
  pub all : AllWait end todo
  pub good : AllGood Good piece todo m
  pub whole : all_worked piece todo m ≡ worked piece m₀ 0 end
  pub counts : n + still points splits todo ≡ visits splits (span_tree points 0 end)

-- what is known at every turn of the span at hand, from f to l, and the k that wait
pub record Turn {A : Type 0} (points : List ℤ) (splits : Float → Bool) (Good : List A → ℕ → ℕ → Type 0) (piece : List A → ℕ → ℕ → List A)
    (end : ℕ) (m₀ m : List A) (fs ls : List ℕ) (k f l n : ℕ) : Type 0 where
  pub few : k ≤ 11
  pub starts : length fs ≡ 12
  pub ends : length ls ≡ 12
  pub same : length m ≡ length m₀
  pub ordered : f ≤ l
  pub within : l ≤ end
  pub left : Left points splits Good piece end m₀ m (span f l ∷ held fs ls k) n

abbrev pub to_do_of : List ℕ → List ℕ → ℕ → ℕ → ℕ → ℕ
to_do_of fs ls k f l = to_do (span f l ∷ held fs ls k)

-- ---- each turn makes what is left less

pub done_less : (fs ls : List ℕ) (k f l : ℕ) → f + 1 < l → to_do_of fs ls k f f < to_do_of fs ls k f l
done_less fs ls k f l o = walk.done_less f l (held fs ls k) o

pub taken_less : (fs ls : List ℕ) (k f l : ℕ) → (k ≡ 0 → ⊥) → to_do_of fs ls (k - 1) (get_or fs (k - 1) 0) (get_or ls (k - 1) 0) < to_do_of fs ls k f l
taken_less fs ls k f l z = subst (λ (r : List Span). to_do r < to_do_of fs ls k f l) (held_last fs ls k z) (walk.taken_less f l (held fs ls k))

module _ (fs ls : List ℕ) (k f i l : ℕ) (a : k < length fs) (b : k < length ls) (c : f < i) (d : i < l) where
  pub put_less : (k' : ℕ) → k' ≡ k + 1 → (r : Parts) → r ≡ parts_of f i l → to_do_of (set fs k r.from) (set ls k r.to) k' r.first r.last < to_do_of fs ls k f l
  put_less k' q =
      by_parts f i l (λ r. to_do_of (set fs k r.from) (set ls k r.to) k' r.first r.last < to_do_of fs ls k f l)
      (λ h. rw q (subst (λ (r : List Span). to_do (span f i ∷ r) < to_do_of fs ls k f l) (sym (held_more fs ls k i l a b)) (walk.last_waits_less f l (held fs ls k) i c d)))
      (λ h. rw q (subst (λ (r : List Span). to_do (span i l ∷ r) < to_do_of fs ls k f l) (sym (held_more fs ls k f i a b)) (walk.first_waits_less f l (held fs ls k) i c d)))

-- ---- over a list of spans

module _ {A : Type 0} (points : List ℤ) (splits : Float → Bool) (Good : List A → ℕ → ℕ → Type 0) (piece : List A → ℕ → ℕ → List A)
    (nothing : (m : List A) (f l : ℕ) → l ≤ f + 1 → m ≡ worked piece m f l) (end : ℕ) where
  all_left : (m : List A) → end < 4096 → Good m 0 end → Left points splits Good piece end m m (span 0 end ∷ []) 0
  unfolding all_worked AllGood still
  all_left m h g = record { all = walk.one_waits end h; good = (λ o. g, tt); whole = refl; counts = omega arith }

  none_left : (m₀ m : List A) (n : ℕ) → Left points splits Good piece end m₀ m [] n → (m ≡ worked piece m₀ 0 end) × (n ≡ visits splits (span_tree points 0 end))
  unfolding all_worked still
  none_left m₀ m n s = (s.whole, omega (arith, s.counts))

  module _ (m₀ m : List A) (f l : ℕ) (rest : List Span) (n : ℕ) (s : Left points splits Good piece end m₀ m (span f l ∷ rest) n) where
    at_hand : f + 1 < l → Good m f l
    unfolding AllGood
    at_hand = s.good.0

    passed : l ≤ f + 1 → Left points splits Good piece end m₀ m rest n
    unfolding all_worked AllGood still
    passed h = record {
      all = walk.others end (span f l) rest s.all;
      good = subst (AllGood Good piece rest) (sym (nothing m f l h)) s.good.1;
      whole = ap (all_worked piece rest) (nothing m f l h) ∙ s.whole;
      counts = omega (arith, s.counts, none_visited points splits f l h);
    }

    module _ (o : f + 1 < l) where
      counted_fits : end < 4096 → Fits w64 (n + (l - f - 1))
      unfolding still
      counted_fits h = record { fits = omega (arith, s.counts, own_visited points splits f l, span_bound points splits 0 end h) }

      module _ (far : Far) (d : FoundInside points f l far) where
        done : (m' : List A) → splits far.distance ≡ false → m' ≡ worked piece m f l → Left points splits Good piece end m₀ m' (span f f ∷ rest) (n + (l - f - 1))
        unfolding all_worked AllGood still
        done m' e r = record {
          all = walk.done_waits end f l rest s.all;
          good = (
            λ z. absurd (omega arith),
            subst (AllGood Good piece rest) (sym r ∙ nothing m' f f (omega arith)) s.good.1,
          );
          whole = ap (all_worked piece rest) (sym (nothing m' f f (omega arith)) ∙ r) ∙ s.whole;
          counts = omega (arith, s.counts, none_visited points splits f f (omega arith), one_visited points splits f l far d o e);
        }

        module _ (e : splits far.distance ≡ true) (v : A) (p : Parted Good piece m f far.index l v) where
          last_waits : far.index - f ≤ l - far.index
              → Left points splits Good piece end m₀ (set m far.index v) (span f far.index ∷ span far.index l ∷ rest) (n + (l - f - 1))
          unfolding all_worked AllGood still
          last_waits h = record {
            all = walk.last_waits end f l rest s.all far.index d.after_first d.before_last h;
            good = (λ z. p.first_good, (λ z. p.then_last_good, subst (AllGood Good piece rest) (sym p.first_first) s.good.1));
            whole = ap (all_worked piece rest) p.first_first ∙ s.whole;
            counts = omega (arith, s.counts, both_visited points splits f l far d o e);
          }

          first_waits : l - far.index < far.index - f
              → Left points splits Good piece end m₀ (set m far.index v) (span far.index l ∷ span f far.index ∷ rest) (n + (l - f - 1))
          unfolding all_worked AllGood still
          first_waits h = record {
            all = walk.first_waits end f l rest s.all far.index d.after_first d.before_last h;
            good = (λ z. p.last_good, (λ z. p.then_first_good, subst (AllGood Good piece rest) (sym p.last_first) s.good.1));
            whole = ap (all_worked piece rest) p.last_first ∙ s.whole;
            counts = omega (arith, s.counts, both_visited points splits f l far d o e);
          }

  -- ---- over the arrays

  turn : (m₀ m : List A) (fs ls : List ℕ) (k f l n : ℕ) → k ≤ 11 → length fs ≡ 12 → length ls ≡ 12 → length m ≡ length m₀
      → Left points splits Good piece end m₀ m (span f l ∷ held fs ls k) n → Turn points splits Good piece end m₀ m fs ls k f l n
  turn m₀ m fs ls k f l n few a b c s =
      let w = walk.hand end (span f l) (held fs ls k) s.all in
      record { few = few; starts = a; ends = b; same = c; ordered = w.ordered; within = w.within; left = s }

  pub begun : (m : List A) (fs ls : List ℕ) → end < 4096 → Good m 0 end → length fs ≡ 12 → length ls ≡ 12 → Turn points splits Good piece end m m fs ls 0 0 end 0
  unfolding held
  begun m fs ls h g a b = turn m m fs ls 0 0 end 0 (omega arith) a b refl (all_left m h g)

  module _ (m₀ m : List A) (fs ls : List ℕ) (k f l n : ℕ) (s : Turn points splits Good piece end m₀ m fs ls k f l n) where
    pub ended : l ≤ f + 1 → k ≡ 0 → (m ≡ worked piece m₀ 0 end) × (n ≡ visits splits (span_tree points 0 end))
    unfolding held
    ended h z =
        none_left m₀ m n (subst (λ (j : ℕ). Left points splits Good piece end m₀ m (held fs ls j) n) z (passed m₀ m f l (held fs ls k) n s.left h))

    pub taken : l ≤ f + 1 → (k ≡ 0 → ⊥) → Turn points splits Good piece end m₀ m fs ls (k - 1) (get_or fs (k - 1) 0) (get_or ls (k - 1) 0) n
    taken h z =
        turn m₀ m fs ls (k - 1) (get_or fs (k - 1) 0) (get_or ls (k - 1) 0) n (omega (arith, s.few)) s.starts s.ends s.same
        (subst (λ (r : List Span). Left points splits Good piece end m₀ m r n) (held_last fs ls k z) (passed m₀ m f l (held fs ls k) n s.left h))

    module _ (o : f + 1 < l) where
      pub good_at_hand : Good m f l
      good_at_hand = at_hand m₀ m f l (held fs ls k) n s.left o

      -- one more can wait, and there are never 12
      pub fewer_than_eleven : k < 11
      fewer_than_eleven = subst (λ (j : ℕ). j < 11) (held_length fs ls k) (walk.fewer_than_eleven end f l (held fs ls k) s.left.all o)

      pub in_starts : k < length fs
      in_starts = omega (arith, fewer_than_eleven, s.starts)

      pub in_ends : k < length ls
      in_ends = omega (arith, fewer_than_eleven, s.ends)

      pub distances_fit : end < 4096 → Fits w64 (n + (l - f - 1))
      distances_fit h = counted_fits m₀ m f l (held fs ls k) n s.left o h

      module _ (far : Far) (d : FoundInside points f l far) where
        pub one_done : (m' : List A) → splits far.distance ≡ false → m' ≡ worked piece m f l → length m' ≡ length m
            → Turn points splits Good piece end m₀ m' fs ls k f f (n + (l - f - 1))
        one_done m' e r q =
            turn m₀ m' fs ls k f f (n + (l - f - 1)) s.few s.starts s.ends (q ∙ s.same) (done m₀ m f l (held fs ls k) n s.left o far d m' e r)

        -- the shorter part stays at hand, and the other waits
        module _ (e : splits far.distance ≡ true) (v : A) (p : Parted Good piece m f far.index l v) where
          put : (a b c e : ℕ) → Left points splits Good piece end m₀ (set m far.index v) (span c e ∷ span a b ∷ held fs ls k) (n + (l - f - 1)) → (k' : ℕ) → k' ≡ k + 1
              → Turn points splits Good piece end m₀ (set m far.index v) (set fs k a) (set ls k b) k' c e (n + (l - f - 1))
          put a b c e left k' q =
              rw q (turn m₀ (set m far.index v) (set fs k a) (set ls k b) (k + 1) c e (n + (l - f - 1)) (omega (arith, fewer_than_eleven))
              (length-set fs k a ∙ s.starts) (length-set ls k b ∙ s.ends) (length-set m far.index v ∙ s.same)
              (subst (λ (r : List Span). Left points splits Good piece end m₀ (set m far.index v) (span c e ∷ r) (n + (l - f - 1)))
              (sym (held_more fs ls k a b in_starts in_ends)) left))

          pub one_put : (k' : ℕ) → k' ≡ k + 1 → (r : Parts) → r ≡ parts_of f far.index l
              → Turn points splits Good piece end m₀ (set m far.index v) (set fs k r.from) (set ls k r.to) k' r.first r.last (n + (l - f - 1))
          one_put k' q =
              by_parts f far.index l
              (λ r. Turn points splits Good piece end m₀ (set m far.index v) (set fs k r.from) (set ls k r.to) k' r.first r.last (n + (l - f - 1)))
              (λ h. put far.index l f far.index (last_waits m₀ m f l (held fs ls k) n s.left o far d e v p h) k' q)
              (λ h. put f far.index far.index l (first_waits m₀ m f l (held fs ls k) n s.left o far d e v p h) k' q)

        pub one_put_less : (k' : ℕ) → k' ≡ k + 1 → (r : Parts) → r ≡ parts_of f far.index l → to_do_of (set fs k r.from) (set ls k r.to) k' r.first r.last < to_do_of fs ls k f l
        one_put_less k' q r e = put_less fs ls k f far.index l in_starts in_ends d.after_first d.before_last k' q r e
