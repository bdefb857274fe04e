-- How many places a list of n points asks for by document 01's rule, n, and 2 where n is 1; where a buffer has them, the list fits it; and how
-- many of the points are looked at. Assumes nothing.
use Prim.Native.Nat.{ℕ, ◌+◌, ◌*◌, ◌/◌, ◌<◌, ◌≤◌}
use mathlib.Core.Bool.{Bool, true, false}
use mathlib.Core.List.{List}
use mathlib.Core.Path.{◌≡◌, refl, sym, ◌∙◌}
use native.Mathlib.Omega.{arith}
use lib.Dec.{eqb, ltb}
use lib.IntN.{ℤ}
use lib.ListN.{length}
use borrow.Author.Tests.{eqb-true, ne_eqb, lt-ltb, le-ltb}
use Rattle.point.specs.Limits.{bad_points, in_range, places_for}
use Rattle.point.proofs.Claims.{whole_points}
use Rattle.point.specs.Points.{count, seen}

-- a buffer of so many values, which are half as many points, is too short for so many places, or it is not
pub too_short : (values places : ℕ) → values / 2 < places → ltb values (places * 2) ≡ true
too_short values places h = lt-ltb values (places * 2) (omega arith)

pub long_enough : (values places : ℕ) → places ≤ values / 2 → ltb values (places * 2) ≡ false
long_enough values places h = le-ltb values (places * 2) (omega arith)

-- there are as many places as points, and one more for a single point
pub places_many : (n : ℕ) → 1 < n → places_for n ≡ n
places_many n h = rw (ne_eqb n 1 (λ e. omega arith))

pub places_bounds : (n : ℕ) → (n ≤ places_for n) × (places_for n ≤ n + 2)
places_bounds n = go (eqb n 1) refl
  where
    go : (t : Bool) → eqb n 1 ≡ t → (n ≤ places_for n) × (places_for n ≤ n + 2)
    go true e = let f : n ≡ 1 = eqb-true n 1 e in rw e (omega arith, omega arith)
    go false e = rw e (omega arith, omega arith)

pub places_enough : (n : ℕ) → n ≤ places_for n
places_enough n = (places_bounds n).0

-- a shorter list asks for no more
pub places_shorter : (m n : ℕ) → m ≤ n → 1 < n → places_for m ≤ places_for n
places_shorter m n h k = go (eqb m 1) refl
  where
    go : (t : Bool) → eqb m 1 ≡ t → places_for m ≤ places_for n
    go true e = rw e (omega (arith, places_enough n))
    go false e = rw e (omega (arith, places_enough n))

pub not_bad : (list : List ℤ) (bad : Bool) → bad ≡ bad_points list → bad ≡ false → bad_points list ≡ false
not_bad list bad b e = sym b ∙ e

pub list_fits : (list out : List ℤ) (bad : Bool) (places : ℕ) → bad ≡ bad_points list → bad ≡ false → places ≡ places_for (count list) → places ≤ length out / 2 →
    length list ≤ length out
list_fits list out bad places b e p h = omega (arith, places_enough (count list), whole_points in_range list (not_bad list bad b e))

-- what a test says, as a callee asks it
pub some_points : (list : List ℤ) → (count list ≡ 0 → ⊥) → 0 < count list
some_points list n = omega arith

pub places_fit : (list out : List ℤ) (places : ℕ) → places ≡ places_for (count list) → places ≤ length out / 2 → places_for (count list) * 2 ≤ length out
places_fit list out places p h = omega arith

-- no more points are looked at than there are
pub seen_few : (closed : Bool) (m n : ℕ) → m ≡ seen n closed → m ≤ n
seen_few true m n e = omega arith
seen_few false m n e = omega arith
