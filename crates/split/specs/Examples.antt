-- Worked examples: antt computes each, so `refl` proves it.
use Rattle.std.specs.Prelude.{[], ◌∷◌, ◌≡◌, refl, pos, negsuc, false}
use Rattle.std.specs.Float.{binary64, nan, inf, fin}
use Rattle.std.specs.Float.Ieee.{of_int, of_bits, add, sub, mul, div, lt, ne}
use Rattle.split.specs.Distance.{sq_seg_dist}
use Rattle.split.specs.Farthest.{farthest}
use Rattle.split.specs.Tree.{numbers_of, marks_of, tree, leaf, size}
use Rattle.split.specs.Visits.{visits, AtHand, whole, shorter_above}

-- (0,0) (8,2) (0,4) (8,0): (0,4) lies farthest from the segment between the ends, at 16
third_of_four : farthest (pos 0 ∷ pos 0 ∷ pos 8 ∷ pos 2 ∷ pos 0 ∷ pos 4 ∷ pos 8 ∷ pos 0 ∷ []) 0 3 ≡ record { index = 2; distance = of_int binary64 (pos 16) }
unfolding farthest sq_seg_dist of_int of_bits add sub mul div lt ne
third_of_four = refl

-- P9: numbers of (0,0) (8,2) (0,4) (8,0)
numbers_of_four : numbers_of (pos 0 ∷ pos 0 ∷ pos 8 ∷ pos 2 ∷ pos 0 ∷ pos 4 ∷ pos 8 ∷ pos 0 ∷ [])
    ≡ inf false ∷ of_int binary64 (pos 16) ∷ of_int binary64 (pos 16) ∷ inf false ∷ []
unfolding numbers_of sq_seg_dist of_int of_bits add sub mul div lt ne
numbers_of_four = refl

-- P10: reduced at 16 the ends only, at 15 all
marks_at_16 : marks_of (of_int binary64 (pos 16)) (pos 0 ∷ pos 0 ∷ pos 8 ∷ pos 2 ∷ pos 0 ∷ pos 4 ∷ pos 8 ∷ pos 0 ∷ []) ≡ 1 ∷ 0 ∷ 0 ∷ 1 ∷ []
unfolding marks_of sq_seg_dist of_int of_bits add sub mul div lt ne
marks_at_16 = refl

marks_at_15 : marks_of (of_int binary64 (pos 15)) (pos 0 ∷ pos 0 ∷ pos 8 ∷ pos 2 ∷ pos 0 ∷ pos 4 ∷ pos 8 ∷ pos 0 ∷ []) ≡ 1 ∷ 1 ∷ 1 ∷ 1 ∷ []
unfolding marks_of sq_seg_dist of_int of_bits add sub mul div lt ne
marks_at_15 = refl

-- two of equal distance: the earliest splits, and then the other lies within the tolerance, here 1/2
earliest_of_equals : marks_of (fin false 1 (negsuc 0)) (pos 0 ∷ pos 0 ∷ pos 1 ∷ pos 1 ∷ pos 2 ∷ pos 1 ∷ pos 3 ∷ pos 0 ∷ []) ≡ 1 ∷ 1 ∷ 0 ∷ 1 ∷ []
unfolding marks_of sq_seg_dist of_int of_bits add sub mul div lt ne
earliest_of_equals = refl

-- one point is both ends, and half a point counts for nothing
one_point : numbers_of (pos 7 ∷ pos 7 ∷ pos 7 ∷ []) ≡ inf false ∷ []
unfolding numbers_of
one_point = refl

-- nothing is above a NaN
no_tolerance : marks_of nan (pos 0 ∷ pos 0 ∷ pos 1 ∷ pos 9 ∷ pos 2 ∷ pos 0 ∷ []) ≡ 1 ∷ 0 ∷ 1 ∷ []
unfolding marks_of lt
no_tolerance = refl

-- P10's list: at 16 the two points inside are looked at; at 15 the list is split at (0,4), and of its parts one has a point inside, which is looked at again
two_looked_at : visits (lt (of_int binary64 (pos 16))) (tree (pos 0 ∷ pos 0 ∷ pos 8 ∷ pos 2 ∷ pos 0 ∷ pos 4 ∷ pos 8 ∷ pos 0 ∷ [])) ≡ 2
unfolding visits tree size sq_seg_dist of_int of_bits add sub mul div lt ne
two_looked_at = refl

three_looked_at : visits (lt (of_int binary64 (pos 15))) (tree (pos 0 ∷ pos 0 ∷ pos 8 ∷ pos 2 ∷ pos 0 ∷ pos 4 ∷ pos 8 ∷ pos 0 ∷ [])) ≡ 3
unfolding visits tree size sq_seg_dist of_int of_bits add sub mul div lt ne
three_looked_at = refl

-- the part without a point inside comes to hand first, and meanwhile the other waits
one_waits : AtHand (lt (of_int binary64 (pos 15))) (tree (pos 0 ∷ pos 0 ∷ pos 8 ∷ pos 2 ∷ pos 0 ∷ pos 4 ∷ pos 8 ∷ pos 0 ∷ [])) 1 leaf
unfolding tree size sq_seg_dist of_int of_bits add sub mul div lt ne
one_waits = shorter_above _ _ _ _ 0 leaf refl refl (whole leaf)
