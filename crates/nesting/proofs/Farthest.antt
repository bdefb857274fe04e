-- Where a span of points of i32 is split: at a distance that none inside exceeds, the earliest of equals. Assumes nothing.
use Prim.Native.Nat.{ℕ, zero, suc, ◌-◌, ◌≤◌, ◌<◌}
use mathlib.Core.Bool.{true, false}
use mathlib.Core.List.{List}
use mathlib.Core.Logic.{◌⊎◌, inl, inr}
use mathlib.Core.Path.{◌≡◌, refl, ap, subst, ◌∙◌}
use native.Mathlib.Nat.{le_refl, eq-or-lt_of_le}
use native.Mathlib.Omega.{arith}
use lib.IntN.{ℤ}
use lib.Ieee.{Float, lt}
use Rattle.laws.proofs.Order.{AtLeastZero, lt_irreflexive, lt_asymmetric, lt_transitive, ge_transitive, le_lt_transitive}
use Rattle.split.specs.declared.farthest.Far.{Far}
use Rattle.split.specs.Farthest.{distance_in, farther, farthest}
use Rattle.split.proofs.Folds.{far, Over, over_first, over_rest, by_test, farther_any}
use Rattle.split.proofs.Small.{SmallSpan, at_least, span_distance}
use Rattle.split.proofs.Trees.{middle, reach}

-- ---- the fold `farther`

module _ (d : ℕ → Float) where
  -- its distance is that of its position
  pub farther_own : (n k : ℕ) (b : Far) → b.distance ≡ d b.index → (farther d n k b).distance ≡ d (farther d n k b).index
  unfolding farther
  farther_own zero k b e = e
  farther_own (suc n) k b e =
      by_test d n k b (λ r. r.distance ≡ d r.index) (λ t. farther_own n (suc k) (far k (d k)) refl) (λ t. farther_own n (suc k) b e)

  -- it stays where it is, or rises
  pub farther_rises : (n k : ℕ) (b : Far) → Over AtLeastZero d n k → AtLeastZero b.distance
      → (farther d n k b ≡ b) ⊎ (lt b.distance (farther d n k b).distance ≡ true)
  unfolding farther
  farther_rises zero k b h p = inl refl
  farther_rises (suc n) k b h p =
      by_test d n k b (λ r. (r ≡ b) ⊎ (lt b.distance r.distance ≡ true))
      (λ e. inr (go e (farther_rises n (suc k) (far k (d k)) (over_rest AtLeastZero d n k h) (over_first AtLeastZero d n k h))))
      (λ e. farther_rises n (suc k) b (over_rest AtLeastZero d n k h) p)
    where
      go : lt b.distance (d k) ≡ true
          → (farther d n (suc k) (far k (d k)) ≡ far k (d k)) ⊎ (lt (d k) (farther d n (suc k) (far k (d k))).distance ≡ true)
          → lt b.distance (farther d n (suc k) (far k (d k))).distance ≡ true
      go e (inl s) = ap (λ (r : Far). lt b.distance r.distance) s ∙ e
      go e (inr s) =
          lt_transitive p (over_first AtLeastZero d n k h)
          (farther_any d AtLeastZero n (suc k) (far k (d k)) (over_rest AtLeastZero d n k h) (over_first AtLeastZero d n k h)) e s

  pub farther_at_least : (n k : ℕ) (b : Far) → Over AtLeastZero d n k → AtLeastZero b.distance → lt (farther d n k b).distance b.distance ≡ false
  farther_at_least n k b h p = go (farther_rises n k b h p)
    where
      go : (farther d n k b ≡ b) ⊎ (lt b.distance (farther d n k b).distance ≡ true) → lt (farther d n k b).distance b.distance ≡ false
      go (inl s) = ap (λ (r : Far). lt r.distance b.distance) s ∙ lt_irreflexive p
      go (inr s) = lt_asymmetric p (farther_any d AtLeastZero n k b h p) s

  -- no distance is greater
  pub farther_greatest : (n k : ℕ) (b : Far) → Over AtLeastZero d n k → AtLeastZero b.distance → Over (λ x. lt (farther d n k b).distance x ≡ false) d n k
  farther_greatest zero k b h p i l u = absurd (omega arith)
  farther_greatest (suc n) k b h p i l u =
      let q = over_first AtLeastZero d n k h in
      let o = over_rest AtLeastZero d n k h in
      by_test d n k b (λ r. lt r.distance (d i) ≡ false)
      (λ e. go (far k (d k)) q (farther_at_least n (suc k) (far k (d k)) o q) (farther_greatest n (suc k) (far k (d k)) o q) (eq-or-lt_of_le l))
      (λ e. go b p (ge_transitive (farther_any d AtLeastZero n (suc k) b o p) p q (farther_at_least n (suc k) b o p) e) (farther_greatest n (suc k) b o p) (eq-or-lt_of_le l))
    where
      go : (b : Far) → AtLeastZero b.distance → lt (farther d n (suc k) b).distance (d k) ≡ false
          → Over (λ x. lt (farther d n (suc k) b).distance x ≡ false) d n (suc k)
          → (k ≡ i) ⊎ (k < i) → lt (farther d n (suc k) b).distance (d i) ≡ false
      go b p s r (inl e) = subst (λ (j : ℕ). lt (farther d n (suc k) b).distance (d j) ≡ false) e s
      go b p s r (inr g) = r i g (omega arith)

  -- a distance before it is less: "the earliest of equals"
  pub farther_earliest : (n k : ℕ) (b : Far) → Over AtLeastZero d n k → AtLeastZero b.distance → b.index < k
      → (i : ℕ) → k ≤ i → i < (farther d n k b).index → lt (d i) (farther d n k b).distance ≡ true
  unfolding farther
  farther_earliest zero k b h p j i l = λ u. absurd (omega arith)
  farther_earliest (suc n) k b h p j i l =
      let q = over_first AtLeastZero d n k h in
      let o = over_rest AtLeastZero d n k h in
      by_test d n k b (λ r. i < r.index → lt (d i) r.distance ≡ true)
      (λ e u.
      go (far k (d k)) q (λ v. first (far k (d k)) v (farther_rises n (suc k) (far k (d k)) o q) (λ s. le_refl k) (λ s. s))
      (farther_earliest n (suc k) (far k (d k)) o q (omega arith)) (eq-or-lt_of_le l) u)
      (λ e u.
      go b p (λ v. first b v (farther_rises n (suc k) b o p) (λ s. omega arith) (λ s. le_lt_transitive q p (farther_any d AtLeastZero n (suc k) b o p) e s))
      (farther_earliest n (suc k) b o p (omega arith)) (eq-or-lt_of_le l) u)
    where
      first : (b : Far) → k < (farther d n (suc k) b).index → (farther d n (suc k) b ≡ b) ⊎ (lt b.distance (farther d n (suc k) b).distance ≡ true)
          → (farther d n (suc k) b ≡ b → b.index ≤ k) → (lt b.distance (farther d n (suc k) b).distance ≡ true → lt (d k) (farther d n (suc k) b).distance ≡ true)
          → lt (d k) (farther d n (suc k) b).distance ≡ true
      first b v (inl s) f g = absurd (no (farther d n (suc k) b).index b.index v (ap (λ (r : Far). r.index) s) (f s))
        where
          no : (x y : ℕ) → k < x → x ≡ y → y ≤ k → ⊥
          no x y v e l = omega arith
      first b v (inr s) f g = g s

      go : (b : Far) → AtLeastZero b.distance → (k < (farther d n (suc k) b).index → lt (d k) (farther d n (suc k) b).distance ≡ true)
          → ((i : ℕ) → suc k ≤ i → i < (farther d n (suc k) b).index → lt (d i) (farther d n (suc k) b).distance ≡ true)
          → (k ≡ i) ⊎ (k < i) → i < (farther d n (suc k) b).index → lt (d i) (farther d n (suc k) b).distance ≡ true
      go b p s r (inl e) u = subst (λ (j : ℕ). lt (d j) (farther d n (suc k) b).distance ≡ true) e (s (omega arith))
      go b p s r (inr g) u = r i g u

  -- of the fold from the first distance on
  pub farther_earliest_from : (n k : ℕ) → Over AtLeastZero d (suc n) k → (i : ℕ) → k ≤ i → i < (farther d n (suc k) (far k (d k))).index
      → lt (d i) (farther d n (suc k) (far k (d k))).distance ≡ true
  farther_earliest_from n k h i l = go (eq-or-lt_of_le l)
    where
      q : AtLeastZero (d k)
      q = over_first AtLeastZero d n k h

      o : Over AtLeastZero d n (suc k)
      o = over_rest AtLeastZero d n k h

      at_first : k < (farther d n (suc k) (far k (d k))).index
          → (farther d n (suc k) (far k (d k)) ≡ far k (d k)) ⊎ (lt (d k) (farther d n (suc k) (far k (d k))).distance ≡ true)
          → lt (d k) (farther d n (suc k) (far k (d k))).distance ≡ true
      at_first v (inl s) = absurd (no (farther d n (suc k) (far k (d k))).index v (ap (λ (r : Far). r.index) s))
        where
          no : (x : ℕ) → k < x → x ≡ k → ⊥
          no x v e = omega arith
      at_first v (inr s) = s

      go : (k ≡ i) ⊎ (k < i) → i < (farther d n (suc k) (far k (d k))).index → lt (d i) (farther d n (suc k) (far k (d k))).distance ≡ true
      go (inl e) u = subst (λ (j : ℕ). lt (d j) (farther d n (suc k) (far k (d k))).distance ≡ true) e (at_first (omega arith) (farther_rises n (suc k) (far k (d k)) o q))
      go (inr g) u = farther_earliest n (suc k) (far k (d k)) o q (omega arith) i g u

-- ---- where a span is split

module _ (points : List ℤ) (f l : ℕ) (inside : suc f < l) where
  abbrev n : ℕ
  n = l - suc (suc f)

  abbrev d : ℕ → Float
  d = distance_in points f l

  module _ (s : SmallSpan points f l) where
    pub inner : Over AtLeastZero d (suc n) (suc f)
    inner i p q = at_least (span_distance points s i (omega arith) (omega arith))

    -- than which none inside is greater
    pub split_greatest : (k : ℕ) → f < k → k < l → lt (reach points f l) (d k) ≡ false
    unfolding farthest
    split_greatest k p q = go (eq-or-lt_of_le p)
      where
        rest : Over AtLeastZero d n (suc (suc f))
        rest = over_rest AtLeastZero d n (suc f) inner

        one : AtLeastZero (d (suc f))
        one = over_first AtLeastZero d n (suc f) inner

        go : (suc f ≡ k) ⊎ (suc f < k) → lt (farther d n (suc (suc f)) (far (suc f) (d (suc f)))).distance (d k) ≡ false
        go (inl e) =
            subst (λ (j : ℕ). lt (farther d n (suc (suc f)) (far (suc f) (d (suc f)))).distance (d j) ≡ false) e
            (farther_at_least d n (suc (suc f)) (far (suc f) (d (suc f))) rest one)
        go (inr g) = farther_greatest d n (suc (suc f)) (far (suc f) (d (suc f))) rest one k g (omega arith)

    -- and before which each is less
    pub split_earliest : (k : ℕ) → f < k → k < middle points f l → lt (d k) (reach points f l) ≡ true
    unfolding farthest
    split_earliest k p = farther_earliest_from d n (suc f) inner k p
