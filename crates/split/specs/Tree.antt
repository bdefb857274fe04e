-- Document 01, "Numbers" and "reduce.rs": the tree of splits of a list of points; Douglas-Peucker is that tree cut at a tolerance, and a
-- point's number is the least distance on the way down to it.
use Rattle.std.specs.Prelude.{ℕ, zero, suc, ◌+◌, ◌-◌, true, false, List, [], ◌∷◌, ◌++◌, ltb, ℤ, Float, replicate, if◌then◌else◌}
use Rattle.std.specs.Float.{inf}
use Rattle.std.specs.Float.Ieee.{lt}
use Rattle.laws.specs.Least.{least}
use Rattle.point.specs.Points.{count}
use Rattle.split.specs.Farthest.{farthest}

-- ---- the tree of splits: a node is a split at a position, with its distance and the trees of the span before it and of the one behind it; a span
-- without interior is a leaf

pub data Tree : Type 0 where
  leaf : Tree
  node : ℕ → Float → Tree → Tree → Tree

-- the split of the span from first to last, whose interior has at most n points: "until no interior is left"
unfoldable pub tree_of : List ℤ → ℕ → ℕ → ℕ → Tree
unfolding farthest
tree_of points zero first last = leaf
tree_of points (suc n) first last = elim (ltb (suc first) last) [
  | false ↦ leaf
  | true ↦ let far = farthest points first last in
      node far.index far.distance (tree_of points n first far.index) (tree_of points n far.index last)
]

-- the tree of a span, and of a whole list
abbrev pub span_tree : List ℤ → ℕ → ℕ → Tree
span_tree points first last = tree_of points (last - first) first last

unfoldable pub tree : List ℤ → Tree
unfolding tree_of
tree points = span_tree points 0 (count points - 1)

-- how many points a tree splits at
unfoldable pub size : Tree → ℕ
size leaf = 0
size (node k d below above) = size below + suc (size above)

-- the ends of a list of points, and between them what stands for its interior; a list of one point has one end
abbrev pub framed : {A : Type 0} → List ℤ → A → List A → List A
framed points end inside = if ltb 1 (count points) then end ∷ (inside ++ (end ∷ [])) else end ∷ []

-- ---- Douglas-Peucker: a span whose greatest distance is at most the tolerance loses its interior

-- 1 for each kept and 0 for each dropped position of the interior, in order
unfoldable pub cut : Float → Tree → List ℕ
unfolding size
cut tolerance leaf = []
cut tolerance (node k d below above) = elim (lt tolerance d) [
  | true ↦ cut tolerance below ++ (1 ∷ cut tolerance above)
  | false ↦ replicate (size below + suc (size above)) 0
]

-- "1 for each kept and 0 for each dropped position": both ends are kept
unfoldable pub marks_of : Float → List ℤ → List ℕ
unfolding cut tree
marks_of tolerance points = framed points 1 (cut tolerance (tree points))

-- ---- the numbers

-- "A point's number is the least distance among its own split and all splits of the spans around it": around is the least of those
unfoldable pub down : Float → Tree → List Float
unfolding least
down around leaf = []
down around (node k d below above) = down (least around d) below ++ (least around d ∷ down (least around d) above)

-- "Ends carry +infinity"
unfoldable pub numbers_of : List ℤ → List Float
unfolding down tree
numbers_of points = framed points (inf false) (down (inf false) (tree points))
