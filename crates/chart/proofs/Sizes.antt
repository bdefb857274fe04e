-- What the tests of a chart's size say of it. Assumes nothing.
use Prim.Native.Nat.{ℕ, ◌*◌, ◌≤◌, ◌<◌}
use mathlib.Core.Bool.{Bool, true, false, not, ◌&&◌, ◌||◌}
use mathlib.Core.Path.{◌≡◌, sym, ◌∙◌}
use native.Mathlib.Nat.{mul-le-mul}
use native.Mathlib.Omega.{arith}
use mir.Syntax.{w64}
use mir.Val.{Fits}
use lib.Dec.{leb, ltb}
use borrow.Author.Tests.{leb-true, ltb-true, not-false}
use Rattle.laws.proofs.Joined.{both_true, both_false}
use Rattle.chart.specs.declared.Chart.{Chart}
use Rattle.chart.specs.Pixels.{side, bad_sides, row_bytes, has_pixel}

-- ---- a side

pub side_within : (n : ℕ) → side n ≡ true → (1 ≤ n) × (n ≤ 512)
unfolding side
side_within n good =
    let p = both_true (leb 1 n) (leb n 512) good in
    (leb-true 1 n p.0, leb-true n 512 p.1)

-- ---- a whole chart

pub bytes_fit : (w h b : ℕ) → b ≡ row_bytes w → w ≤ 512 → h ≤ 512 → Fits w64 (b * h)
unfolding row_bytes
bytes_fit w h b e p q =
    let k : b ≤ 64 = omega arith in
    let l : b * h ≤ 64 * 512 = mul-le-mul k q in
    record { fits = omega arith }

-- both sides of a chart in range are good
module _ (w h : Bool) (fine : (not w || not h) ≡ false) where
  pub good_width : w ≡ true
  good_width = not-false w (both_false (not w) (not h) fine).0

  pub good_height : h ≡ true
  good_height = not-false h (both_false (not w) (not h) fine).1

module _ (c : Chart) (fine : bad_sides c ≡ false) where
  pub width_within : (1 ≤ c.width) × (c.width ≤ 512)
  width_within = side_within c.width (good_width (side c.width) (side c.height) fine)

  pub height_within : (1 ≤ c.height) × (c.height ≤ 512)
  height_within = side_within c.height (good_height (side c.width) (side c.height) fine)

pub asked_fits : (c : Chart) (bad : Bool) → bad ≡ bad_sides c → bad ≡ false → (b : ℕ) → b ≡ row_bytes c.width → Fits w64 (b * c.height)
asked_fits c bad says e b row = bytes_fit c.width c.height b row (width_within c (sym says ∙ e)).1 (height_within c (sym says ∙ e)).1

-- ---- a place in a chart

pub within : (c : Chart) (x y : ℕ) (r : Bool) → r ≡ has_pixel c x y → not r ≡ false → (c.width ≤ 512) × (x < c.width) × (y < c.height)
unfolding has_pixel
within c x y r says fine =
    let p = both_true (leb c.width 512 && ltb x c.width) (ltb y c.height) (sym says ∙ not-false r fine) in
    let q = both_true (leb c.width 512) (ltb x c.width) p.0 in
    (leb-true _ _ q.0, ltb-true _ _ q.1, ltb-true _ _ p.1)

pub within_narrow : (c : Chart) (x y : ℕ) (r : Bool) → r ≡ has_pixel c x y → not r ≡ false → c.width ≤ 512
within_narrow c x y r says fine = (within c x y r says fine).0

pub within_column : (c : Chart) (x y : ℕ) (r : Bool) → r ≡ has_pixel c x y → not r ≡ false → x < c.width
within_column c x y r says fine = (within c x y r says fine).1
