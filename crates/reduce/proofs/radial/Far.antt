-- The radial pass keeps no more points than it is handed, up to two of them all, and of more it looks at one after the other. Assumes nothing.
use Prim.Native.Nat.{ℕ, suc, ◌+◌, ◌-◌, ◌<◌, ◌≤◌}
use mathlib.Core.Bool.{Bool, true, false}
use mathlib.Core.List.{List, [], ◌∷◌}
use mathlib.Core.Path.{◌≡◌, refl, ap, ◌∙◌}
use native.Mathlib.Numerals.{add-one}
use native.Mathlib.Omega.{arith}
use lib.Ieee.{Float, lt}
use lib.ListN.{length, drop, get_or, drop_of_length-le}
use lib.Seq.{drop-cons}
use Rattle.point.specs.Points.{same_point}
use Rattle.point.proofs.SamePoint.{same_itself}
use Rattle.point.specs.declared.PointI32.{PointI32}
use Rattle.reduce.specs.Radial.{sq_dist, radial_end, radial_from, last_of, radial}

-- ---- how many points it keeps

one_at_most : (last prev : PointI32) → length (radial_end last prev) ≤ 1
one_at_most last prev = go (same_point prev last) refl
  where
    go : (t : Bool) → same_point prev last ≡ t → length (radial_end last prev) ≤ 1
    go true e = rw e (omega arith)
    go false e = rw e (omega arith)

module _ (tolerance : Float) where
  -- a point is looked at
  module _ (last prev p : PointI32) (ps : List PointI32) where
    kept : lt tolerance (sq_dist p prev) ≡ true → radial_from tolerance last prev (p ∷ ps) ≡ p ∷ radial_from tolerance last p ps
    unfolding radial_from
    kept e = rw (e, radial_from)

    dropped : lt tolerance (sq_dist p prev) ≡ false → radial_from tolerance last prev (p ∷ ps) ≡ radial_from tolerance last prev ps
    unfolding radial_from
    dropped e = rw (e, radial_from)

    -- a bound on how many are kept, in both cases
    looked_at : (n : ℕ) → length (radial_from tolerance last p ps) < n → length (radial_from tolerance last prev ps) ≤ n →
        length (radial_from tolerance last prev (p ∷ ps)) ≤ n
    looked_at n h k = go (lt tolerance (sq_dist p prev)) refl
      where
        go : (t : Bool) → lt tolerance (sq_dist p prev) ≡ t → length (radial_from tolerance last prev (p ∷ ps)) ≤ n
        go true e = rw (kept e) h
        go false e = rw (dropped e) k

  -- the last point may come on top
  one_more : (last prev : PointI32) (ps : List PointI32) → length (radial_from tolerance last prev ps) ≤ suc (length ps)
  unfolding radial_from
  one_more last prev [] = one_at_most last prev
  one_more last prev (p ∷ ps) = looked_at last prev p ps (suc (suc (length ps))) (omega (arith, one_more last p ps)) (omega (arith, one_more last prev ps))

  -- but not where it was kept already
  no_more : (prev : PointI32) (ps : List PointI32) → length (radial_from tolerance (last_of prev ps) prev ps) ≤ length ps
  unfolding radial_from last_of
  no_more prev [] = rw same_itself (omega arith)
  no_more prev (p ∷ ps) = looked_at (last_of p ps) prev p ps (suc (length ps)) (omega (arith, no_more p ps)) (one_more (last_of p ps) prev ps)

  pub radial_shorter : (ps : List PointI32) → length (radial tolerance ps) ≤ length ps
  unfolding radial
  radial_shorter [] = omega arith
  radial_shorter (p ∷ []) = omega arith
  radial_shorter (p ∷ q ∷ []) = omega arith
  radial_shorter (p ∷ q ∷ r ∷ ps) = omega (arith, no_more p (q ∷ r ∷ ps))

  pub radial_some : (ps : List PointI32) → 0 < length ps → 0 < length (radial tolerance ps)
  unfolding radial
  radial_some [] h = h
  radial_some (p ∷ []) h = h
  radial_some (p ∷ q ∷ []) h = omega arith
  radial_some (p ∷ q ∷ r ∷ ps) h = omega arith

  -- ---- up to two points are kept whole

  pub radial_whole : (ps : List PointI32) → length ps ≤ 2 → radial tolerance ps ≡ ps
  unfolding radial
  radial_whole [] h = refl
  radial_whole (p ∷ []) h = refl
  radial_whole (p ∷ q ∷ []) h = refl
  radial_whole (p ∷ q ∷ r ∷ ps) h = absurd (omega arith)

  -- ---- of more, the first is kept, and then those after it one by one

  last_at : (p d : PointI32) (ps : List PointI32) → last_of p ps ≡ get_or (p ∷ ps) (length ps) d
  unfolding last_of
  last_at p d [] = refl
  last_at p d (q ∷ ps) = last_at q d ps

  pub radial_first : (ps : List PointI32) (d : PointI32) → 2 < length ps →
      radial tolerance ps ≡ get_or ps 0 d ∷ radial_from tolerance (get_or ps (length ps - 1) d) (get_or ps 0 d) (drop 1 ps)
  unfolding radial
  radial_first [] d h = absurd (omega arith)
  radial_first (p ∷ []) d h = absurd (omega arith)
  radial_first (p ∷ q ∷ []) d h = absurd (omega arith)
  radial_first (p ∷ q ∷ r ∷ ps) d h = ap (λ (l : PointI32). p ∷ radial_from tolerance l p (q ∷ r ∷ ps)) (last_at r d ps ∙ ap (λ (n : ℕ). get_or (p ∷ q ∷ r ∷ ps) n d) e)
    where
      e : suc (suc (length ps)) ≡ suc (suc (suc (length ps))) - 1
      e = omega arith

  module _ (last prev : PointI32) (ps : List PointI32) (k : ℕ) (d : PointI32) where
    pub far : k < length ps → lt tolerance (sq_dist (get_or ps k d) prev) ≡ true →
        radial_from tolerance last prev (drop k ps) ≡ get_or ps k d ∷ radial_from tolerance last (get_or ps k d) (drop (k + 1) ps)
    far h e = rw (drop-cons ps k d h, add-one) (kept last prev (get_or ps k d) (drop (suc k) ps) e)

    pub near : k < length ps → lt tolerance (sq_dist (get_or ps k d) prev) ≡ false →
        radial_from tolerance last prev (drop k ps) ≡ radial_from tolerance last prev (drop (k + 1) ps)
    near h e = rw (drop-cons ps k d h, add-one) (dropped last prev (get_or ps k d) (drop (suc k) ps) e)

    pub none_left : length ps ≤ k → radial_from tolerance last prev (drop k ps) ≡ radial_end last prev
    unfolding radial_from
    none_left h = rw (drop_of_length-le ps h)
