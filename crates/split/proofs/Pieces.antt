-- What a span comes to: its marks, and its numbers, as laws of a pass. Of the numbers, the least distance of the splits around a span is the lesser
-- of the numbers at its ends, since these splits made them. Assumes nothing.
use Prim.Native.Nat.{ℕ, suc, ◌-◌, ◌<◌}
use mathlib.Core.Bool.{false}
use mathlib.Core.List.{List}
use mathlib.Core.Logic.{inr}
use mathlib.Core.Path.{◌≡◌, refl, sym, ap, ◌∙◌}
use lib.IntN.{ℤ}
use lib.Ieee.{Float, lt}
use lib.ListN.{replicate}
use Rattle.laws.specs.Least.{least}
use Rattle.laws.proofs.Least.{least_cases, least_first, least_at_most_first, least_at_most_second}
use Rattle.laws.proofs.Order.{lt_irreflexive, lt_asymmetric, ge_transitive, lt_antisymmetric}
use Rattle.split.specs.declared.numbers.Numbering.{Numbering}
use Rattle.split.specs.Farthest.{farthest}
use Rattle.split.specs.Tree.{Tree, span_tree, size, cut, down}
use Rattle.split.specs.inside.Passes.{Laws, marking, numbering}
use Rattle.split.specs.inside.Spans.{Distance, Square}
use Rattle.split.proofs.Cuts.{length_cut, length_down, cut_kept, cut_dropped}
use Rattle.split.proofs.Signs.{least_distance}
use Rattle.split.proofs.Small.{at_least}
use Rattle.split.proofs.Spans.{all_zero}
use Rattle.split.proofs.Trees.{span_size, split_tree}

-- ---- marks

-- nothing need be known of the ends
pub marking_laws : Laws marking
marking_laws = record {
  sized = λ p. length_cut p.tolerance;
  of_split = λ p. cut_kept p.tolerance;
  of_whole = λ p. none_kept p.tolerance;
  within_good = λ p d s g. tt;
  between_same = λ p g. refl;
  between_good = λ p x y g h. tt;
  between_splits = λ p x y d. refl;
  between_first = λ p x y d g h s. refl;
  between_last = λ p x y d g h s. refl;
}
  where
    none_kept : (t : Float) (points : List ℤ) (f l : ℕ) → suc f < l → Unit {0} → lt t (farthest points f l).distance ≡ false
        → cut t (span_tree points f l) ≡ replicate (l - suc f) 0
    none_kept t points f l o g e =
        let z : ℕ = 0 in
        let s = split_tree points f l (farthest points f l) o refl in
        ap (cut t) s ∙ cut_dropped t _ _ _ _ e ∙ ap (λ (r : Tree). replicate (size r) z) (sym s) ∙ ap (λ (k : ℕ). replicate k z) (span_size points f l)

-- ---- numbers

-- of a number that is at most another, the least of the two is it
least_absorbs : (x v : Float) → Distance x → Distance v → lt x v ≡ false → least x v ≡ v
least_absorbs x v p q h = least_cases x v (λ w. w ≡ v) (λ k. refl) (λ k. lt_antisymmetric p.nonneg q.nonneg p.fitting q.fitting h k)

-- the least of a number and anything is at most that number
at_most_first : (a d : Float) → Distance a → Distance (least a d) → lt a (least a d) ≡ false
at_most_first a d p q = least_cases a d (λ w. Distance w → lt a w ≡ false) (λ h r. lt_asymmetric (at_least r) (at_least p) h) (λ h r. lt_irreflexive (at_least p)) q

ends_around : (x y : Float) → Distance x → Distance y → Distance (least x y)
ends_around x y p q = least_distance x y p (record { unsigned = inr q.nonneg; fitting = q.fitting })

module _ (x y d : Float) (p : Distance x) (q : Distance y) (s : Square d) where
  abbrev v : Float
  v = least (least x y) d

  around_distance : Distance (least x y)
  around_distance = ends_around x y p q

  inside : Distance v
  inside = least_distance (least x y) d around_distance s

  below_around : lt (least x y) v ≡ false
  below_around = at_most_first (least x y) d around_distance inside

  below_first : lt x v ≡ false
  below_first = ge_transitive (at_least p) (at_least around_distance) (at_least inside) (least_at_most_first (at_least p) (at_least q)) below_around

  below_last : lt y v ≡ false
  below_last = ge_transitive (at_least q) (at_least around_distance) (at_least inside) (least_at_most_second (at_least p) (at_least q)) below_around

  -- the split's number is at most those of both ends
  first_end : least x v ≡ v
  first_end = least_absorbs x v p inside below_first

  last_end : least v y ≡ v
  last_end = least_first v y below_last

abbrev number_around : Float → Numbering
number_around a = record { around = a }

pub numbering_laws : Laws numbering
numbering_laws = record {
  sized = λ p. length_down p.around;
  of_split = λ p k d below above e. unfold down in refl;
  of_whole = λ p points f l o g e. all_zero points p.around f l o g e;
  within_good = λ p d s g. least_distance p.around d g s;
  between_same = λ p g. ap number_around (least_first p.around p.around (lt_irreflexive (at_least g)));
  between_good = λ p x y g h. ends_around x y g h;
  between_splits = λ p x y d. refl;
  between_first = λ p x y d g h s. ap number_around (first_end x y d g h s);
  between_last = λ p x y d g h s. ap number_around (last_end x y d g h s);
}
