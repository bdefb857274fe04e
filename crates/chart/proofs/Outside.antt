-- Nothing is set outside a chart. Assumes nothing.
use Prim.Native.Nat.{ℕ, ◌-◌, ◌≤◌, ◌<◌}
use mathlib.Core.Bool.{true, false, ◌&&◌, and-false}
use mathlib.Core.List.{List}
use mathlib.Core.Path.{◌≡◌, refl}
use native.Mathlib.Omega.{arith}
use lib.Dec.{leb, ltb}
use lib.IntN.{ℤ, pos, negsuc, ◌-ℤ◌}
use lib.Signed.{le_z, lt_z}
use borrow.Author.Tests.{ltb-true, leb-true, le-leb, le-ltb}
use Rattle.laws.proofs.Integers.{sub_ℕ_cases}
use Rattle.chart.specs.declared.Chart.{Chart}
use Rattle.chart.specs.Pixels.{has_pixel, pixel_at, around_of}

-- one step left or up
pub minus_one : (n : ℕ) → 1 ≤ n → pos n -ℤ pos 1 ≡ pos (n - 1)
minus_one n h = sub_ℕ_cases n 1 (λ z. z ≡ pos (n - 1)) (λ l. absurd (omega arith)) (λ l. refl)

module _ (c : Chart) (pixels : List ℕ) where
  pub left_of : (x y : ℤ) → lt_z x (pos 0) ≡ true → pixel_at c pixels x y ≡ false
  unfolding pixel_at
  left_of (pos n) y s = absurd (omega (arith, ltb-true n 0 s))
  left_of (negsuc n) y s = refl

  pub above : (x y : ℤ) → lt_z y (pos 0) ≡ true → pixel_at c pixels x y ≡ false
  unfolding pixel_at
  above x (pos n) s = absurd (omega (arith, ltb-true n 0 s))
  above (pos m) (negsuc n) s = refl
  above (negsuc m) (negsuc n) s = refl

  outside : (x y : ℕ) → has_pixel c x y ≡ false → pixel_at c pixels (pos x) (pos y) ≡ false
  unfolding pixel_at
  outside x y e = rw e

  pub right_of : (x y : ℤ) → le_z (pos c.width) x ≡ true → pixel_at c pixels x y ≡ false
  unfolding pixel_at has_pixel
  right_of (pos m) (pos n) s = outside m n (rw (le-ltb m c.width (leb-true _ _ s), and-false (leb c.width 512)))
  right_of (pos m) (negsuc n) s = refl
  right_of (negsuc m) y s = refl

  pub below : (x y : ℤ) → le_z (pos c.height) y ≡ true → pixel_at c pixels x y ≡ false
  unfolding pixel_at has_pixel
  below (pos m) (pos n) s = outside m n (rw (le-ltb n c.height (leb-true _ _ s)) (and-false (leb c.width 512 && ltb m c.width)))
  below (pos m) (negsuc n) s = absurd (let z : ◌≡◌ {A = ℕ} 0 1 = cc in omega arith)
  below (negsuc m) y s = refl

  -- ---- around a lattice point that no pixel of the chart touches

  blank : (x y : ℤ) → pixel_at c pixels (x -ℤ pos 1) (y -ℤ pos 1) ≡ false → pixel_at c pixels x (y -ℤ pos 1) ≡ false →
      pixel_at c pixels (x -ℤ pos 1) y ≡ false → pixel_at c pixels x y ≡ false → around_of c pixels x y ≡ 0
  unfolding around_of
  blank x y p q r s = rw (p, q, r, s)

  less : (z : ℤ) → lt_z z (pos 0) ≡ true → lt_z (z -ℤ pos 1) (pos 0) ≡ true
  less (pos n) s = absurd (omega (arith, ltb-true n 0 s))
  less (negsuc n) s = refl

  pub around_left_of : (x y : ℤ) → lt_z x (pos 0) ≡ true → around_of c pixels x y ≡ 0
  around_left_of x y s = blank x y (left_of _ _ (less x s)) (left_of _ _ s) (left_of _ _ (less x s)) (left_of _ _ s)

  pub around_above_all : (x y : ℤ) → lt_z y (pos 0) ≡ true → around_of c pixels x y ≡ 0
  around_above_all x y s = blank x y (above _ _ (less y s)) (above _ _ (less y s)) (above _ _ s) (above _ _ s)

  -- one step left or up of a place past the last column or row is still past it
  still_past : (n : ℕ) (z : ℤ) → lt_z (pos n) z ≡ true → (le_z (pos n) z ≡ true) × (le_z (pos n) (z -ℤ pos 1) ≡ true)
  still_past n (pos m) s =
      let h : n < m = ltb-true n m s in
      (le-leb n m (omega arith), rw (minus_one m (omega arith)) (le-leb n (m - 1) (omega arith)))
  still_past n (negsuc m) s = absurd (let z : ◌≡◌ {A = ℕ} 0 1 = cc in omega arith)

  pub around_right_of : (x y : ℤ) → lt_z (pos c.width) x ≡ true → around_of c pixels x y ≡ 0
  around_right_of x y s =
      let p = still_past c.width x s in
      blank x y (right_of _ _ p.1) (right_of _ _ p.0) (right_of _ _ p.1) (right_of _ _ p.0)

  pub around_below_all : (x y : ℤ) → lt_z (pos c.height) y ≡ true → around_of c pixels x y ≡ 0
  around_below_all x y s =
      let p = still_past c.height y s in
      blank x y (below _ _ p.1) (below _ _ p.1) (below _ _ p.0) (below _ _ p.0)
