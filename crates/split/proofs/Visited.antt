-- How many distances are computed: by the parts of a span, and at most half of the number of interior points times one more. Assumes nothing.
use Prim.Native.Nat.{ℕ, suc, ◌+◌, ◌-◌, ◌*◌, ◌≤◌, ◌<◌}
use mathlib.Core.Bool.{Bool, true, false}
use mathlib.Core.List.{List}
use mathlib.Core.Path.{◌≡◌, refl, sym, ap, ap₂, subst, ◌∙◌}
use native.Mathlib.Nat.{mul-le-mul_right}
use native.Mathlib.Omega.{arith}
use lib.IntN.{ℤ}
use lib.Ieee.{Float}
use Rattle.split.specs.declared.farthest.Far.{Far}
use Rattle.split.specs.inside.Spans.{FoundInside}
use Rattle.split.specs.Tree.{Tree, leaf, node, span_tree, size}
use Rattle.split.specs.Visits.{visits}
use Rattle.split.proofs.Trees.{Each, span_size, split_tree, tree_none}

module _ (splits : Float → Bool) where
  pub visits_split : (k : ℕ) (d : Float) (below above : Tree) → splits d ≡ true
      → visits splits (node k d below above) ≡ size (node k d below above) + (visits splits below + visits splits above)
  unfolding visits
  visits_split k d below above e = rw (e, visits)

  pub visits_whole : (k : ℕ) (d : Float) (below above : Tree) → splits d ≡ false → visits splits (node k d below above) ≡ size (node k d below above)
  unfolding visits
  visits_whole k d below above e = rw (e, visits) (omega arith)

  -- a span that is visited has all of its points looked at
  pub visits_own : (r : Tree) → size r ≤ visits splits r
  visits_own leaf = unfold visits in unfold size in omega arith
  visits_own (node k d below above) = go (splits d) refl
    where
      go : (b : Bool) → splits d ≡ b → size (node k d below above) ≤ visits splits (node k d below above)
      go true e = rw (visits_split k d below above e) (omega arith)
      go false e = rw (visits_whole k d below above e) (omega arith)

  -- "for n points it is at most (n-2)(n-1)/2": a tree of s splits is of s + 2 points
  pub visits_bound : (r : Tree) → 2 * visits splits r ≤ size r * (size r + 1)
  visits_bound leaf = unfold visits in unfold size in omega arith
  visits_bound (node k d below above) = go (splits d) refl (visits_bound below) (visits_bound above)
    where
      by_size : (a b v w : ℕ) → 2 * v ≤ a * (a + 1) → 2 * w ≤ b * (b + 1) → 2 * (a + suc b + (v + w)) ≤ (a + suc b) * (a + suc b + 1)
      by_size a b v w p q = omega arith

      alone : (s : ℕ) → 0 < s → 2 * s ≤ s * (s + 1)
      alone s h = omega (arith, mul-le-mul_right s h)

      go : (b : Bool) → splits d ≡ b → 2 * visits splits below ≤ size below * (size below + 1) → 2 * visits splits above ≤ size above * (size above + 1)
          → 2 * visits splits (node k d below above) ≤ size (node k d below above) * (size (node k d below above) + 1)
      go true e p q = rw (visits_split k d below above e) (unfold size in by_size (size below) (size above) (visits splits below) (visits splits above) p q)
      go false e p q = rw (visits_whole k d below above e) (unfold size in alone (size below + suc (size above)) (omega arith))

-- two rules that split alike look as often
pub visits_alike : (p q : Float → Bool) (r : Tree) → Each (λ d. p d ≡ q d) r → visits p r ≡ visits q r
unfolding Each visits
visits_alike p q leaf e = refl
visits_alike p q (node k d below above) e = go (q d) refl (visits_alike p q below e.1) (visits_alike p q above e.2)
  where
    go : (b : Bool) → q d ≡ b → visits p below ≡ visits q below → visits p above ≡ visits q above → visits p (node k d below above) ≡ visits q (node k d below above)
    go true h a b =
        visits_split p k d below above (e.0 ∙ h) ∙ ap₂ (λ (m n : ℕ). size (node k d below above) + (m + n)) a b ∙ sym (visits_split q k d below above h)
    go false h a b = visits_whole p k d below above (e.0 ∙ h) ∙ sym (visits_whole q k d below above h)

-- ---- of a span

module _ (points : List ℤ) (splits : Float → Bool) (first last : ℕ) where
  -- a span with nothing inside
  pub none_visited : last ≤ first + 1 → visits splits (span_tree points first last) ≡ 0
  none_visited h =
      let k : last ≤ suc first = omega arith in
      ap (visits splits) (tree_none points (last - first) first last k) ∙ (unfold visits in refl)

  module _ (far : Far) (f : FoundInside points first last far) (o : first + 1 < last) where
    -- its interior, and where it is split its parts
    pub both_visited : splits far.distance ≡ true
        → visits splits (span_tree points first last)
        ≡ last - suc first + (visits splits (span_tree points first far.index) + visits splits (span_tree points far.index last))
    both_visited e =
        let k : suc first < last = omega arith in
        let s = split_tree points first last far k f.is in
        ap (visits splits) s ∙ visits_split splits far.index far.distance _ _ e
        ∙ ap (λ (n : ℕ). n + (visits splits (span_tree points first far.index) + visits splits (span_tree points far.index last)))
        (ap size (sym s) ∙ span_size points first last)

    pub one_visited : splits far.distance ≡ false → visits splits (span_tree points first last) ≡ last - suc first
    one_visited e =
        let k : suc first < last = omega arith in
        let s = split_tree points first last far k f.is in
        ap (visits splits) s ∙ visits_whole splits far.index far.distance _ _ e ∙ ap size (sym s) ∙ span_size points first last

  -- of a span within 4,096 points: its own interior, and no more than the bound
  pub own_visited : last - suc first ≤ visits splits (span_tree points first last)
  own_visited = subst (λ (n : ℕ). n ≤ visits splits (span_tree points first last)) (span_size points first last) (visits_own splits (span_tree points first last))

  pub span_bound : last < 4096 → visits splits (span_tree points first last) ≤ 8382465
  span_bound h =
      below (last - suc first) (visits splits (span_tree points first last)) (omega arith)
      (subst (λ (s : ℕ). 2 * visits splits (span_tree points first last) ≤ s * (s + 1)) (span_size points first last) (visits_bound splits (span_tree points first last)))
    where
      below : (s v : ℕ) → s ≤ 4094 → 2 * v ≤ s * (s + 1) → v ≤ 8382465
      below s v h b = omega (arith, mul-le-mul_right s h, h)
