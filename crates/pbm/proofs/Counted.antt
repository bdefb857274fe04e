-- How many pixels of a chart stand before a byte of it, and how many that byte holds. Assumes nothing.
use Prim.Native.Nat.{ℕ, suc, ◌+◌, ◌-◌, ◌*◌, ◌/◌, ◌%◌, ◌≤◌, ◌<◌, min}
use mathlib.Core.Bool.{Bool, true, false}
use mathlib.Core.Path.{◌≡◌, refl, sym, ap, ◌∙◌}
use native.Mathlib.Nat.{add-zero, zero-mul, suc-mul, mul_comm, mul-le-mul_right, zero-mod, zero-div, div-add-mod', div-eq_of_lt, div-lt_iff_lt-mul, mul-add-div_right}
use native.Mathlib.Numerals.{add-one}
use native.Mathlib.Omega.{arith}
use lib.Dec.{ltb}
use borrow.Author.Tests.{ltb-true, ltb-false}
use Rattle.chart.specs.Pixels.{side, row_bytes}
use Rattle.pbm.proofs.Copied.{place_in_row, next_column, next_row}

-- those of the rows above byte i, and of its own row eight in each byte
unfoldable pub before : ℕ → ℕ → ℕ
before width i = i / row_bytes width * width + i % row_bytes width * 8

pub before_none : (width : ℕ) → before width 0 ≡ 0
unfolding before
before_none width = rw (zero-div, zero-mod, zero-mul)

-- ---- b bytes to a row: the byte behind byte i is of the same row, or of the next

module _ (b i : ℕ) where
  same_row : suc (i % b) < b → (i + 1) / b ≡ i / b
  same_row h =
      let e : i + 1 ≡ i / b * b + suc (i % b) = omega (arith, div-add-mod' i b) in
      ap (λ (n : ℕ). n / b) e
      ∙ mul-add-div_right (omega arith) (i / b) (suc (i % b))
      ∙ ap (λ (n : ℕ). i / b + n) (div-eq_of_lt h)
      ∙ add-zero (i / b)

  row_behind : 0 < b → suc (i % b) ≡ b → (i + 1) / b ≡ i / b + 1
  row_behind o h =
      let e : i + 1 ≡ suc (i / b) * b + 0 = omega (arith, div-add-mod' i b, suc-mul (i / b) b) in
      ap (λ (n : ℕ). n / b) e
      ∙ mul-add-div_right o (suc (i / b)) 0
      ∙ ap (λ (n : ℕ). suc (i / b) + n) (zero-div b)
      ∙ omega arith

-- ---- byte i, which begins in column x

module _ (width i x : ℕ) (wide : side width ≡ true) (column : x ≡ i % row_bytes width * 8) where
  place : i % row_bytes width < row_bytes width
  place = place_in_row width i x wide column

  pub in_row : x < width
  unfolding row_bytes
  in_row = omega (arith, place)

  pub before_is : before width i ≡ i / row_bytes width * width + x
  unfolding before
  before_is = ap (λ (n : ℕ). i / row_bytes width * width + n) (sym column)

  -- it holds eight, or those that are left of its row
  pub before_next : before width (i + 1) ≡ before width i + min (width - x) 8
  unfolding before row_bytes
  before_next = by_test (ltb (x + 8) width) refl
    where
      by_test : (t : Bool) → ltb (x + 8) width ≡ t → before width (i + 1) ≡ before width i + min (width - x) 8
      by_test true e =
          let h : x + 8 < width = ltb-true (x + 8) width e in
          rw (same_row (row_bytes width) i (omega arith)) (omega (arith, next_column width i x wide column h))
      by_test false e =
          let h : width ≤ x + 8 = ltb-false (x + 8) width e in
          let last : suc (i % row_bytes width) ≡ row_bytes width = omega (arith, place) in
          rw (row_behind (row_bytes width) i (omega arith) last, add-one, suc-mul) (omega (arith, next_row width i x wide column h, in_row))

  pub before_within : (height : ℕ) → i < row_bytes width * height → before width i + min (width - x) 8 ≤ width * height
  before_within height h =
      let some_bytes : 0 < row_bytes width = omega (arith, place) in
      let row : i / row_bytes width < height = (div-lt_iff_lt-mul some_bytes).1 (rw (mul_comm height (row_bytes width)) h) in
      omega (arith, before_is, in_row, suc-mul (i / row_bytes width) width, mul-le-mul_right width row, mul_comm width height)
