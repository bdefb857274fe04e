-- Where a pixel's bit lies among the bytes, and that what code computes of such places fits. Assumes nothing.
use Prim.Native.Nat.{ℕ, suc, ◌+◌, ◌-◌, ◌*◌, ◌/◌, ◌%◌, ◌^◌, ◌≤◌, ◌<◌}
use mathlib.Core.Bool.{Bool, true, false, not, ◌&&◌}
use mathlib.Core.List.{List}
use mathlib.Core.Path.{◌≡◌, refl, sym, ap, ◌∙◌}
use native.Mathlib.Nat.{mul-le-mul, mul-le-mul_right, mul_assoc, suc-mul, le_of_lt}
use native.Mathlib.Omega.{arith}
use mir.Syntax.{w64}
use mir.Val.{Fits}
use lib.Dec.{leb, eqb}
use lib.IntN.{ℤ, pos, ◌-ℤ◌}
use lib.ListN.{length, get_or}
use lib.Bits.{bit_and}
use borrow.Author.Tests.{le-leb, lt-ltb, leb-true, ltb-true, not-false}
use Rattle.laws.proofs.Joined.{both_true}
use Rattle.laws.proofs.Bits.{digit_is}
use Rattle.chart.specs.declared.Chart.{Chart}
use Rattle.chart.specs.Pixels.{row_bytes, cell, has_pixel, pixel_at, one, around_of}
use Rattle.chart.specs.inside.Around.{bit_at, pair_of, surrounded}
use Rattle.chart.proofs.Outside.{minus_one, around_left_of, around_above_all}
use Rattle.chart.proofs.Sizes.{within, within_narrow, within_column}

-- ---- a place within a chart: `b` bytes to a row, column x, row y

module _ (c : Chart) (b : ℕ) (narrow : c.width ≤ 512) (bytes : b ≡ row_bytes c.width) where
  few : b ≤ 64
  unfolding row_bytes
  few = omega arith

  pub stride_fits : Fits w64 (b * 8)
  stride_fits = record { fits = omega (arith, few) }

  module _ (y : ℕ) (row : y < 2147483648) where
    rows_few : y * b ≤ 2147483648 * 64
    rows_few = mul-le-mul (le_of_lt row) few

    pub row_fits : Fits w64 (y * b)
    row_fits = record { fits = omega (arith, rows_few) }

    pub row_bits_fit : Fits w64 (y * (b * 8))
    row_bits_fit = record { fits = omega (arith, rows_few, mul_assoc y b 8) }

    module _ (x : ℕ) (column : x < c.width) where
      pub byte_fits : Fits w64 (y * b + x / 8)
      byte_fits = record { fits = omega (arith, rows_few) }

      pub bit_fits : Fits w64 (y * (b * 8) + x)
      bit_fits = record { fits = omega (arith, rows_few, mul_assoc y b 8) }

-- ---- what is read there

module _ (c : Chart) (pixels : List ℕ) (x y : ℕ) where
  cell_bit : cell c pixels x y ≡ bit_at pixels (y * (row_bytes c.width * 8) + x)
  unfolding cell
  cell_bit =
      let e : y * (row_bytes c.width * 8) ≡ y * row_bytes c.width * 8 = sym (mul_assoc y (row_bytes c.width) 8) in
      let p : (y * (row_bytes c.width * 8) + x) / 8 ≡ y * row_bytes c.width + x / 8 = omega arith in
      let q : (y * (row_bytes c.width * 8) + x) % 8 ≡ x % 8 = omega arith in
      rw (p, q)

  pub pixel_read : (r : Bool) → r ≡ has_pixel c x y → not r ≡ false → (b : ℕ) → b ≡ row_bytes c.width →
      eqb (bit_and (get_or pixels (y * b + x / 8) 0 / 2 ^ (7 - x % 8)) 1) 1 ≡ pixel_at c pixels (pos x) (pos y)
  unfolding pixel_at
  pixel_read r says fine b bytes = rw (← says, not-false r fine, ← bytes, digit_is)

  at_bit : (n : ℕ) → c.width ≤ 512 → x < c.width → y < c.height → n ≡ y * (row_bytes c.width * 8) + x → pixel_at c pixels (pos x) (pos y) ≡ bit_at pixels n
  unfolding pixel_at
  at_bit n w h k e = rw (le-leb _ _ w, lt-ltb _ _ h, lt-ltb _ _ k, e) cell_bit

-- ---- a lattice point with pixels of the chart on all sides

module _ (c : Chart) (pixels : List ℕ) (x y : ℕ) where
  -- what it says
  module _ (all : surrounded c pixels x y ≡ true) where
    parts : (1 ≤ x) × (1 ≤ y) × (c.width ≤ 512) × (x < c.width) × (y < c.height) × ((y * (row_bytes c.width * 8) + x) / 8 < length pixels)
    unfolding surrounded
    parts =
        let p = both_true (leb 1 x && leb 1 y && has_pixel c x y) _ all in
        let q = both_true (leb 1 x && leb 1 y) (has_pixel c x y) p.0 in
        let s = both_true (leb 1 x) (leb 1 y) q.0 in
        let i = within c x y (has_pixel c x y) refl (ap not q.1) in
        (leb-true 1 x s.0, leb-true 1 y s.1, i.0, i.1, i.2, ltb-true _ _ p.1)

    pub parts_narrow : c.width ≤ 512
    parts_narrow = parts.2

    pub parts_column : x < c.width
    parts_column = parts.3

    module _ (b : ℕ) (bytes : b ≡ row_bytes c.width) where
      pub one_row : b * 8 ≤ y * (b * 8) + x
      one_row = omega (arith, mul-le-mul_right (b * 8) parts.1)

      pub pair_below : (1 ≤ y * (b * 8) + x) × ((y * (b * 8) + x) / 8 < length pixels)
      pair_below = rw bytes (omega (arith, parts))

      pub pair_above : (1 ≤ y * (b * 8) + x - b * 8) × ((y * (b * 8) + x - b * 8) / 8 < length pixels)
      pair_above = (omega (arith, mul-le-mul_right (b * 8) parts.1, parts.0), omega (arith, pair_below.1))

      -- the pair above is r₁, that below r₂
      pub two_pairs : (r₁ r₂ : ℕ) → r₁ ≡ 2 * one (bit_at pixels (y * (b * 8) + x - b * 8 - 1)) + one (bit_at pixels (y * (b * 8) + x - b * 8)) →
          r₂ ≡ 2 * one (bit_at pixels (y * (b * 8) + x - 1)) + one (bit_at pixels (y * (b * 8) + x)) →
          4 * r₁ + r₂ ≡ around_of c pixels (pos x) (pos y)
      unfolding around_of
      two_pairs r₁ r₂ above below =
          let i = parts in
          let left = i.0 in
          let top = i.1 in
          let e : y * (b * 8) ≡ (y - 1) * (b * 8) + b * 8 = one_less y (b * 8) top in
          let p₁ = at_bit c pixels (x - 1) (y - 1) (y * (b * 8) + x - b * 8 - 1) i.2 (omega (arith, i.3)) (omega (arith, i.4)) (rw (← bytes) (omega arith)) in
          let p₂ = at_bit c pixels x (y - 1) (y * (b * 8) + x - b * 8) i.2 i.3 (omega (arith, i.4)) (rw (← bytes) (omega arith)) in
          let p₃ = at_bit c pixels (x - 1) y (y * (b * 8) + x - 1) i.2 (omega (arith, i.3)) i.4 (rw (← bytes) (omega arith)) in
          let p₄ = at_bit c pixels x y (y * (b * 8) + x) i.2 i.3 i.4 (rw (← bytes)) in
          rw (minus_one x left, minus_one y top, p₁, p₂, p₃, p₄, above, below) (omega arith)
        where
          one_less : (y s : ℕ) → 1 ≤ y → y * s ≡ (y - 1) * s + s
          one_less y s h = let e : y ≡ suc (y - 1) = omega arith in ap (λ (n : ℕ). n * s) e ∙ suc-mul (y - 1) s

-- ---- pixel by pixel

pub one_le : (t : Bool) → one t ≤ 1
one_le true = omega arith
one_le false = omega arith

-- ---- a pair of pixels is a number of two bits

pub pair_le : (c : Chart) (pixels : List ℕ) (x y : ℤ) (m : ℕ) → m ≡ pair_of c pixels x y → m ≤ 3
unfolding pair_of
pair_le c pixels x y m e = omega (arith, one_le (pixel_at c pixels (x -ℤ pos 1) y), one_le (pixel_at c pixels x y))

-- two pairs are the four
pub two_rows : (c : Chart) (pixels : List ℕ) (x y : ℤ) (m n : ℕ) → m ≡ pair_of c pixels x (y -ℤ pos 1) → n ≡ pair_of c pixels x y → 4 * m + n ≡ around_of c pixels x y
unfolding pair_of around_of
two_rows c pixels x y m n e f = rw (e, f) (omega arith)

-- ---- what the searches of the functions are given

pub ruleset places = (within_narrow, within_column, row_fits, byte_fits, stride_fits, row_bits_fit, bit_fits, pixel_read)

pub ruleset pairs = (stride_fits, row_bits_fit, bit_fits, parts_narrow, parts_column, one_row, pair_above, pair_below, two_pairs)

pub ruleset edge = (around_left_of, around_above_all, pair_le, two_rows)
