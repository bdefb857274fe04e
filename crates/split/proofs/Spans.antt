-- Infinity, and the distance 0: of a span whose greatest distance is 0 every number is 0. Assumes nothing.
use Prim.Native.Nat.{ℕ, suc, ◌-◌, ◌*◌, ◌<◌}
use mathlib.Core.Bool.{Bool, true, false, not, true≢false}
use mathlib.Core.List.{List, ◌∷◌, ◌++◌}
use mathlib.Core.Logic.{◌⊎◌, inl, inr}
use mathlib.Core.Path.{◌≡◌, refl, sym, ap, ◌∙◌}
use native.Mathlib.Omega.{arith}
use lib.IntN.{ℤ}
use lib.Ieee.{Float, nan, inf, of_bits, lt, eq, fits}
use lib.ListN.{replicate}
use borrow.Author.Tests.{le-ltb, not-true}
use Rattle.laws.proofs.Joined.{both_true}
use Rattle.laws.proofs.Compare.{eq_is}
use Rattle.laws.specs.inside.Finite.{NonNeg}
use Rattle.laws.proofs.Finite.{nonneg_number, infinity_nonneg}
use Rattle.laws.proofs.Order.{at_least_zero, upper, lower, lt_is, lt_antisymmetric}
use Rattle.laws.specs.Least.{least}
use Rattle.laws.proofs.Least.{least_cases}
use Rattle.split.specs.Distance.{zero64}
use Rattle.split.specs.inside.Spans.{Distance, Square}
use Rattle.split.specs.Farthest.{farthest}
use Rattle.split.specs.Tree.{Tree, node, span_tree, down}
use Rattle.split.specs.Visits.{nonzero}
use Rattle.split.proofs.Cuts.{down_from_least}
use Rattle.split.proofs.Signs.{reach_square, span_squares}
use Rattle.split.proofs.Trees.{reach, each_map, span_size, split_tree}

-- ---- the numbers

pub infinite : Distance (inf false)
unfolding fits
infinite = record { nonneg = infinity_nonneg; fitting = tt }

-- a square that equals 0.0 is it, as no square is -0; and the least of it and a number is it
pub zero_distance : Distance zero64
unfolding of_bits fits
zero_distance = record { nonneg = record { plus = refl }; fitting = tt }

pub below_zero : (x : Float) → NonNeg x → lt x zero64 ≡ false
unfolding of_bits
below_zero x p = lt_is (at_least_zero p) (at_least_zero zero_distance.nonneg) ∙ le-ltb (upper x * 1) (0 * lower x) (omega arith)

below_nan : (y : Float) → lt nan y ≡ false
unfolding lt
below_nan y = refl

equal_nan : (y : Float) → eq nan y ≡ false
unfolding eq
equal_nan y = refl

not_below_zero : (x : Float) → Square x → lt x zero64 ≡ false
not_below_zero x p = go p.unsigned
  where
    go : (x ≡ nan) ⊎ NonNeg x → lt x zero64 ≡ false
    go (inl e) = ap (λ (y : Float). lt y zero64) e ∙ below_nan zero64
    go (inr n) = below_zero x n

is_zero : (x : Float) → Distance x → lt zero64 x ≡ false → x ≡ zero64
is_zero x p h = lt_antisymmetric p.nonneg zero_distance.nonneg p.fitting zero_distance.fitting (below_zero x p.nonneg) h

equals_zero : (x : Float) → Square x → eq x zero64 ≡ true → x ≡ zero64
equals_zero x p e = go p.unsigned
  where
    go : (x ≡ nan) ⊎ NonNeg x → x ≡ zero64
    go (inl n) = absurd (true≢false (sym e ∙ ap (λ (y : Float). eq y zero64) n ∙ equal_nan zero64))
    go (inr n) =
        let both = both_true (not (lt x zero64)) (not (lt zero64 x)) (sym (eq_is x zero64 (nonneg_number n) (nonneg_number zero_distance.nonneg)) ∙ e) in
        is_zero x (record { nonneg = n; fitting = p.fitting }) (not-true (lt zero64 x) both.1)

least_zero : (around : Float) → Distance around → least around zero64 ≡ zero64
least_zero around p = least_cases around zero64 (λ m. m ≡ zero64) (λ h. refl) (λ h. is_zero around p h)

-- a span that is split at 0 has the number 0 for each point, whatever is around
module _ (points : List ℤ) (around : Float) (first last : ℕ) (o : suc first < last) (p : Distance around) (e : nonzero (reach points first last) ≡ false) where
  far_zero : reach points first last ≡ zero64
  far_zero = equals_zero (reach points first last) (reach_square points first last) (not_false (eq (reach points first last) zero64) e)
    where
      not_false : (b : Bool) → not b ≡ false → b ≡ true
      not_false true h = refl
      not_false false h = absurd (true≢false h)

  zero_inside : least zero64 (reach points first last) ≡ least around (reach points first last)
  zero_inside = ap (least zero64) far_zero ∙ least_zero zero64 zero_distance ∙ sym (ap (least around) far_zero ∙ least_zero around p)

  from_zero : (k : ℕ) (below above : Tree) → down zero64 (node k (reach points first last) below above) ≡ down around (node k (reach points first last) below above)
  from_zero k below above = unfold down in ap (λ (x : Float). down x below ++ (x ∷ down x above)) zero_inside

  pub all_zero : down around (span_tree points first last) ≡ replicate (last - suc first) zero64
  all_zero =
      let s = split_tree points first last (farthest points first last) o refl in
      ap (down around) s ∙ sym (from_zero _ _ _) ∙ ap (down zero64) (sym s)
      ∙ down_from_least zero64 (span_tree points first last) (each_map (span_tree points first last) not_below_zero (span_squares points first last))
      ∙ ap (λ (j : ℕ). replicate j zero64) (span_size points first last)
