-- The marks by the numbers: both ends are kept, as they are where both are below no tolerance. Assumes nothing.
use Prim.Native.Nat.{ℕ, ◌<◌}
use mathlib.Core.Bool.{Bool, true}
use mathlib.Core.List.{List, [], ◌∷◌, ◌++◌}
use mathlib.Core.Path.{◌≡◌, refl, sym, ap, ap₂, ◌∙◌}
use native.Mathlib.Omega.{arith}
use lib.Ieee.{Float, lt}
use lib.ListN.{length, length-append}
use Rattle.reduce.specs.Zoom.{marks_after, marks_by, mark}
use Rattle.nesting.proofs.Kept.{marked}

module _ (tolerance : Float) where
  after_more : (v : Float) (vs : List Float) → 0 < length vs → marks_after tolerance (v ∷ vs) ≡ mark (lt tolerance v) ∷ marks_after tolerance vs
  unfolding marks_after
  after_more v [] h = absurd (omega arith)
  after_more v (w ∷ vs) h = refl

  after_last : (vs : List Float) (end : Float) → lt tolerance end ≡ true → marks_after tolerance (vs ++ (end ∷ [])) ≡ marked tolerance (vs ++ (end ∷ []))
  after_last [] end e = unfold marks_after in ap (λ (t : Bool). mark t ∷ []) (sym e)
  after_last (v ∷ vs) end e =
      after_more v (vs ++ (end ∷ [])) (omega (arith, length-append vs (end ∷ [])))
      ∙ ap (λ (l : List ℕ). mark (lt tolerance v) ∷ l) (after_last vs end e)

  pub by_ends : (vs : List Float) (end : Float) → lt tolerance end ≡ true → marks_by tolerance (end ∷ (vs ++ (end ∷ []))) ≡ marked tolerance (end ∷ (vs ++ (end ∷ [])))
  by_ends vs end e = unfold marks_by in ap₂ (λ (t : Bool) (l : List ℕ). mark t ∷ l) (sym e) (after_last vs end e)

  pub by_end : (end : Float) → lt tolerance end ≡ true → marks_by tolerance (end ∷ []) ≡ marked tolerance (end ∷ [])
  by_end end e = unfold marks_by in ap (λ (t : Bool). mark t ∷ []) (sym e)
