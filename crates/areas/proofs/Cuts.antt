-- What a choice makes of a list, point by point: whether the next point is kept or not. Assumes nothing.
use Prim.Native.Nat.{ℕ}
use mathlib.Core.Bool.{true, false}
use mathlib.Core.List.{List, [], ◌∷◌}
use mathlib.Core.Path.{◌≡◌, refl}
use lib.Dec.{eqb}
use lib.IntN.{◌+ℤ◌}
use Rattle.point.specs.declared.PointI32.{PointI32}
use Rattle.areas.specs.Areas.{back_to, twice_area, up_to_kept, gaps, area_of_all}

module _ (m : ℕ) (marks : List ℕ) (p : PointI32) (ps : List PointI32) where
  pub up_to_it : eqb m 0 ≡ false → up_to_kept (m ∷ marks) (p ∷ ps) ≡ p ∷ []
  unfolding up_to_kept
  up_to_it e = rw (e, up_to_kept)

  pub past_it : eqb m 0 ≡ true → up_to_kept (m ∷ marks) (p ∷ ps) ≡ p ∷ up_to_kept marks ps
  unfolding up_to_kept
  past_it e = rw (e, up_to_kept)

  -- a gap begins at a kept point
  pub gap_begins : eqb m 0 ≡ false → area_of_all (gaps (m ∷ marks) (p ∷ ps)) ≡ back_to p p (up_to_kept marks ps) +ℤ area_of_all (gaps marks ps)
  unfolding area_of_all twice_area gaps
  gap_begins e = rw (e, gaps)

  pub no_gap_begins : eqb m 0 ≡ true → gaps (m ∷ marks) (p ∷ ps) ≡ gaps marks ps
  unfolding gaps
  no_gap_begins e = rw (e, gaps)

pub nothing_left : (marks : List ℕ) → up_to_kept marks [] ≡ []
unfolding up_to_kept
nothing_left [] = refl
nothing_left (m ∷ marks) = refl

pub no_gap_left : (marks : List ℕ) → gaps marks [] ≡ []
unfolding gaps
no_gap_left [] = refl
no_gap_left (m ∷ marks) = refl
