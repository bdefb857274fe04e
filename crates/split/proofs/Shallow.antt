-- Document 02, 8/13, "Splitting without deep calls", in its own sentences. They are about the definitions; that the code does what these say is its
-- promise, and that its list of twelve holds what waits is in its proof (Turns). Assumes nothing.
use Prim.Native.Nat.{ℕ, zero, suc, ◌+◌, ◌-◌, ◌*◌, ◌^◌, ◌≤◌, ◌<◌}
use mathlib.Core.Bool.{Bool, true, false}
use mathlib.Core.List.{List}
use mathlib.Core.Path.{◌≡◌, refl, ap, subst, ◌∙◌}
use native.Mathlib.Nat.{pow-succ'}
use native.Mathlib.Omega.{arith}
use lib.Dec.{leb, ltb}
use lib.IntN.{ℤ}
use lib.Ieee.{Float, lt}
use lib.ListN.{length}
use lib.Pow.{pow_mono}
use borrow.Author.Tests.{leb-true, leb-false, ltb-true, ltb-false}
use Rattle.point.specs.Limits.{bad_points}
use Rattle.point.specs.Points.{count}
use Rattle.split.specs.Buffers.{laid_marks, laid_numbers}
use Rattle.split.specs.Distance.{zero64}
use Rattle.split.specs.Tree.{Tree, tree, size, marks_of, numbers_of}
use Rattle.split.specs.Visits.{visits, nonzero, AtHand, whole, shorter_below, longer_above, shorter_above, longer_below, counted_marks, counted_numbers}
use Rattle.split.proofs.Buffers.{laid_no_room}
use Rattle.split.proofs.Fitting.{counted, fits_all, too_short}
use Rattle.split.proofs.Small as small
use Rattle.split.proofs.Trees.{span_size}
use Rattle.split.proofs.Visited.{visits_bound}

tree_size : (points : List ℤ) → size (tree points) ≡ count points - 1 - 1
unfolding tree
tree_size points = span_size points 0 (count points - 1)

-- ---- "at most 11 ever wait for 4,096 points"

doubled : (a b n w : ℕ) → n * 2 ^ w ≤ a + 1 → a ≤ b → n * 2 ^ suc w ≤ a + suc b + 1
doubled a b n w h l = omega (arith, ap (λ (p : ℕ). n * p) (pow-succ' 2 w))

-- a part at hand is at most half of what it was cut from, for each that waits
halved : {splits : Float → Bool} {r : Tree} {w : ℕ} {s : Tree} → AtHand splits r w s → (size s + 1) * 2 ^ w ≤ size r + 1
unfolding size
halved (whole r) = omega arith
halved (shorter_below k d below above w s e o h) = doubled (size below) (size above) (size s + 1) w (halved h) (leb-true (size below) (size above) o)
halved (longer_above k d below above w s e o h) = omega (arith, halved h)
halved (shorter_above k d below above w s e o h) =
    omega (arith, doubled (size above) (size below) (size s + 1) w (halved h) (omega (arith, leb-false (size below) (size above) o)))
halved (longer_below k d below above w s e o h) = omega (arith, halved h)

module _ (points : List ℤ) (few : count points ≤ 4096) (splits : Float → Bool) (w : ℕ) (s : Tree) (h : AtHand splits (tree points) w s) where
  short : (size s + 1) * 2 ^ w < 4096
  short = omega (arith, halved h, tree_size points)

  -- with w waiting, the interior at hand is less than 4,096 / 2^w
  pub the_interior_at_hand_is_short : size s * 2 ^ w < 4096
  the_interior_at_hand_is_short = omega (arith, short)

  pub at_most_eleven_wait : w ≤ 11
  at_most_eleven_wait = go (leb w 11) refl
    where
      go : (b : Bool) → leb w 11 ≡ b → w ≤ 11
      go true e = leb-true w 11 e
      go false e = absurd (omega (arith, short, pow_mono {i = 12} {j = w} (leb-false w 11 e)))

-- ---- "for n points it is at most (n-2)(n-1)/2, or 0 below two": at every tolerance, and of the numbers

module _ (points : List ℤ) (splits : Float → Bool) where
  pub distances_are_bounded : 2 * visits splits (tree points) ≤ (count points - 2) * (count points - 1)
  distances_are_bounded = by_count (count points) (size (tree points)) (visits splits (tree points)) (tree_size points) (visits_bound splits (tree points))
    where
      by_count : (n s v : ℕ) → s ≡ n - 1 - 1 → 2 * v ≤ s * (s + 1) → 2 * v ≤ (n - 2) * (n - 1)
      by_count zero s v e h = let z : s ≡ 0 = omega arith in rw z at h
      by_count (suc zero) s v e h = let z : s ≡ 0 = omega arith in rw z at h
      by_count (suc (suc n)) s v e h =
          let z : s ≡ suc (suc n) - 2 = omega arith in
          let y : s + 1 ≡ suc (suc n) - 1 = omega arith in
          subst (λ (k : ℕ). 2 * v ≤ k * (suc (suc n) - 1)) z (subst (λ (k : ℕ). 2 * v ≤ s * k) y h)

  pub none_below_two : count points < 2 → visits splits (tree points) ≡ 0
  none_below_two h =
      let z : size (tree points) ≡ 0 = tree_size points ∙ omega arith in
      omega (arith, rw z at (visits_bound splits (tree points)))

-- ---- the numbers stop where all distances are zero: of a list that document 01 takes they look as often as Douglas-Peucker does at the squared
-- tolerance 0

pub numbers_look_as_often_as_at_zero : (points : List ℤ) → bad_points points ≡ false → visits nonzero (tree points) ≡ visits (lt zero64) (tree points)
numbers_look_as_often_as_at_zero = small.visits_at_zero

-- ---- "Marks and numbers stay": both ways leave the same in the buffer, for every list of at most 4,096 points

module _ (points : List ℤ) (few : count points ≤ 4096) where
  pub marks_stay : (t : Float) (marks : List ℕ) → (counted_marks points t marks).out ≡ laid_marks points t marks
  unfolding counted_marks
  marks_stay t marks = go (ltb (length marks) (count points)) refl
    where
      go : (b : Bool) → ltb (length marks) (count points) ≡ b → (counted_marks points t marks).out ≡ laid_marks points t marks
      go false e = rw (fits_all points marks few (ltb-false (length marks) (count points) e))
      go true e =
          let h = ltb-true (length marks) (count points) e in
          rw (too_short points marks h) (unfold laid_marks in laid_no_room points (marks_of t points) marks (λ z. omega arith) h)

  pub numbers_stay : (out : List Float) → (counted_numbers points out).out ≡ laid_numbers points out
  unfolding counted_numbers
  numbers_stay out = go (ltb (length out) (count points)) refl
    where
      go : (b : Bool) → ltb (length out) (count points) ≡ b → (counted_numbers points out).out ≡ laid_numbers points out
      go false e = rw (fits_all points out few (ltb-false (length out) (count points) e))
      go true e =
          let h = ltb-true (length out) (count points) e in
          rw (too_short points out h) (unfold laid_numbers in laid_no_room points (numbers_of points) out (λ z. omega arith) h)

  -- and where there is room, these distances were computed
  pub marks_are_counted : (t : Float) (marks : List ℕ) → count points ≤ length marks → counted_marks points t marks ≡ counted (visits (lt t) (tree points)) (laid_marks points t marks)
  unfolding counted_marks
  marks_are_counted t marks h = rw (fits_all points marks few h)

  pub numbers_are_counted : (out : List Float) → count points ≤ length out → counted_numbers points out ≡ counted (visits nonzero (tree points)) (laid_numbers points out)
  unfolding counted_numbers
  numbers_are_counted out h = rw (fits_all points out few h)
