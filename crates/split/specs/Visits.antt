-- Document 02, 8/13: how many distances are computed, and how many spans wait, "working on the span with fewer interior points first".
use Rattle.std.specs.Prelude.{ℕ, suc, ◌+◌, Bool, true, false, not, ◌||◌, List, ◌≡◌, leb, ltb, ℤ, Float, length, if◌then◌else◌}
use Rattle.std.specs.Float.Ieee.{lt, eq}
use Rattle.laws.specs.Outcome.{Outcome}
use Rattle.point.specs.Points.{count}
use Rattle.split.specs.Buffers.{laid_marks, laid_numbers}
use Rattle.split.specs.Distance.{zero64}
use Rattle.split.specs.Tree.{Tree, leaf, node, size, tree}

-- ---- "the sum of interior points over all spans the split rule visits": a span that is visited has each of its interior points looked at, and its
-- two parts are visited where it is split. Douglas-Peucker splits at the distances above the tolerance, and the numbers at all but 0

unfoldable pub visits : (Float → Bool) → Tree → ℕ
unfolding size
visits splits leaf = 0
visits splits (node k d below above) =
    size (node k d below above)
    + elim (splits d) [
      | true ↦ visits splits below + visits splits above
      | false ↦ 0
    ]

abbrev pub nonzero : Float → Bool
nonzero d = not (eq d zero64)

-- ---- which spans come to hand while a tree is walked, each with how many others wait then: of a span that is split the part with fewer interior points
-- is worked on first, the first of equals, and meanwhile the other waits; when that comes to hand, it waits no more

pub data AtHand (splits : Float → Bool) : Tree → ℕ → Tree → Type 0 where
  whole : (r : Tree) → AtHand splits r 0 r
  shorter_below : (k : ℕ) (d : Float) (below above : Tree) (w : ℕ) (s : Tree) → splits d ≡ true → leb (size below) (size above) ≡ true
      → AtHand splits below w s → AtHand splits (node k d below above) (suc w) s
  longer_above : (k : ℕ) (d : Float) (below above : Tree) (w : ℕ) (s : Tree) → splits d ≡ true → leb (size below) (size above) ≡ true
      → AtHand splits above w s → AtHand splits (node k d below above) w s
  shorter_above : (k : ℕ) (d : Float) (below above : Tree) (w : ℕ) (s : Tree) → splits d ≡ true → leb (size below) (size above) ≡ false
      → AtHand splits above w s → AtHand splits (node k d below above) (suc w) s
  longer_below : (k : ℕ) (d : Float) (below above : Tree) (w : ℕ) (s : Tree) → splits d ≡ true → leb (size below) (size above) ≡ false
      → AtHand splits below w s → AtHand splits (node k d below above) w s

-- ---- what the two calls answer, and leave in the buffer: nothing of a list that has over 4,096 points, or more than the buffer has places

abbrev pub unfit : {A : Type 0} → List ℤ → List A → Bool
unfit points old = ltb 4096 (count points) || ltb (length old) (count points)

unfoldable pub counted_marks : List ℤ → Float → List ℕ → Outcome ℕ (List ℕ)
unfolding visits tree laid_marks
counted_marks points tolerance marks =
    if unfit points marks then record { answer = 0; out = marks } else
    record { answer = visits (lt tolerance) (tree points); out = laid_marks points tolerance marks }

unfoldable pub counted_numbers : List ℤ → List Float → Outcome ℕ (List Float)
unfolding visits tree laid_numbers
counted_numbers points out =
    if unfit points out then record { answer = 0; out = out } else
    record { answer = visits nonzero (tree points); out = laid_numbers points out }
