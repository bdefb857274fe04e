-- "Padding is never read": bytes that show the same pixels of a chart have the same area, the same first start and the same pixel at every
-- place, whatever the bits behind a row's last pixel and the bytes behind the last row. Assumes nothing.
use Prim.Native.Nat.{ℕ, zero, suc, ◌+◌, ◌*◌, ◌/◌, ◌≤◌, ◌<◌}
use mathlib.Core.Bool.{Bool, true, false, ◌&&◌, ◌||◌}
use mathlib.Core.List.{List, ◌++◌}
use mathlib.Core.Option.{Option, some, none}
use mathlib.Core.Path.{◌≡◌, refl, sym, ap, ap₂, ◌∙◌}
use native.Mathlib.Nat.{mul-le-mul_right, suc-mul, mul_comm}
use native.Mathlib.Omega.{arith}
use lib.IntN.{ℤ, pos, negsuc}
use lib.ListN.{length, length-append, get_or-append}
use borrow.Author.Tests.{le-ltb}
use Rattle.point.specs.Refusals.{refuse◌when◌or◌}
use Rattle.point.specs.declared.PointI32.{PointI32}
use Rattle.point.specs.declared.refusal.Refusal.{Refusal}
use Rattle.point.specs.declared.refusal.Refusal.TheVariants.{BadSize}
use Rattle.chart.specs.Pixels.{row_bytes, all_bytes, bad_sides, bad_chart, bit_of, cell, one, has_pixel, pixel_at}
use Rattle.chart.specs.Area.{row_area, rows_area, area_answer, area_of}
use Rattle.chart.specs.Start.{first_in_row, or_else, first_in_rows, start_or, start_answer, first_start}
use Rattle.chart.specs.declared.Chart.{Chart}
use Rattle.std.specs.Prelude.{Ok}
use Rattle.chart.proofs.Sizes.{within}

-- Two lists of bytes that show the same pixels of a chart: both are long enough or neither is, and every pixel within the chart is the same.
-- The padding of the rows, what lies behind the last row, and the lengths may differ.
pub record SamePixels (c : Chart) (p q : List ℕ) : Type 0 where
  pub refused : bad_chart c p ≡ bad_chart c q
  pub pixels : (x y : ℕ) → x < c.width → y < c.height → cell c p x y ≡ cell c q x y

module _ (c : Chart) (p q : List ℕ) (same : SamePixels c p q) where
  -- ---- the area

  same_row : (n y : ℕ) → n ≤ c.width → y < c.height → row_area c p n y ≡ row_area c q n y
  unfolding row_area
  same_row zero y h k = refl
  same_row (suc n) y h k = ap₂ (λ (m : ℕ) (b : Bool). m + one b) (same_row n y (omega arith) k) (same.pixels n y (omega arith) k)

  same_rows : (n : ℕ) → n ≤ c.height → rows_area c p n ≡ rows_area c q n
  unfolding rows_area
  same_rows zero h = refl
  same_rows (suc n) h = ap₂ ◌+◌ (same_rows n (omega arith)) (same_row c.width n (omega arith) (omega arith))

  pub padding_is_not_read_area : area_of c p ≡ area_of c q
  unfolding area_of
  padding_is_not_read_area = ap (λ (b : Bool). area_answer (refuse BadSize when b or none) c p) same.refused ∙ by_refusal (refuse BadSize when bad_chart c q or none)
    where
      by_refusal : (o : Option Refusal) → area_answer o c p ≡ area_answer o c q
      by_refusal (some r) = refl
      by_refusal none = ap Ok (same_rows c.height (omega arith))

  -- ---- the first start

  same_first : (x y n : ℕ) → x + n ≤ c.width → y < c.height → first_in_row c p x y n ≡ first_in_row c q x y n
  unfolding first_in_row
  same_first x y zero h k = refl
  same_first x y (suc n) h k =
      ap₂ (λ (b : Bool) (o : Option PointI32). elim b as (λ _. Option PointI32) [ true ↦ some (record { x = pos x; y = pos y }) | false ↦ o ])
      (same.pixels x y (omega arith) k) (same_first (suc x) y n (omega arith) k)

  same_first_rows : (y n : ℕ) → y + n ≤ c.height → first_in_rows c p y n ≡ first_in_rows c q y n
  unfolding first_in_rows
  same_first_rows y zero h = refl
  same_first_rows y (suc n) h = ap₂ or_else (same_first 0 y c.width (omega arith) (omega arith)) (same_first_rows (suc y) n (omega arith))

  pub padding_is_not_read_start : first_start c p ≡ first_start c q
  unfolding first_start
  padding_is_not_read_start = ap (λ (b : Bool). start_answer (refuse BadSize when b or none) c p) same.refused ∙ by_refusal (refuse BadSize when bad_chart c q or none)
    where
      by_refusal : (o : Option Refusal) → start_answer o c p ≡ start_answer o c q
      by_refusal (some r) = refl
      by_refusal none = ap start_or (same_first_rows 0 c.height (omega arith))

  -- ---- a pixel at any place: outside the chart none is set

  pub padding_is_not_read_pixel : (x y : ℤ) → pixel_at c p x y ≡ pixel_at c q x y
  unfolding pixel_at
  padding_is_not_read_pixel (pos x) (pos y) = go (has_pixel c x y) refl
    where
      go : (r : Bool) → has_pixel c x y ≡ r → (r && cell c p x y) ≡ (r && cell c q x y)
      go true e = let w = within c x y true (sym e) refl in same.pixels x y w.1 w.2
      go false e = refl
  padding_is_not_read_pixel (pos x) (negsuc y) = refl
  padding_is_not_read_pixel (negsuc x) y = refl

-- ---- bytes behind the last row

module _ (c : Chart) (p more : List ℕ) (enough : all_bytes c ≤ length p) where
  in_list : (x y : ℕ) → x < c.width → y < c.height → y * row_bytes c.width + x / 8 < length p
  unfolding row_bytes
  in_list x y h k =
      let b = row_bytes c.width in
      let r : suc y * b ≤ c.height * b = mul-le-mul_right b k in
      let s : x / 8 < b = omega arith in
      omega (arith, r, s, suc-mul y b, mul_comm b c.height, enough)

  pub same_behind : SamePixels c (p ++ more) p
  unfolding bad_chart cell
  same_behind = record {
    refused =
        let l : all_bytes c ≤ length (p ++ more) = omega (arith, enough, length-append p more) in
        ap (λ (b : Bool). bad_sides c || b) (le-ltb _ _ l ∙ sym (le-ltb _ _ enough));
    pixels = λ x y h k. ap (λ (n : ℕ). bit_of n x) (get_or-append p more 0 (y * row_bytes c.width + x / 8) (in_list x y h k));
  }

  pub behind_is_not_read_area : area_of c (p ++ more) ≡ area_of c p
  behind_is_not_read_area = padding_is_not_read_area c (p ++ more) p same_behind

  pub behind_is_not_read_start : first_start c (p ++ more) ≡ first_start c p
  behind_is_not_read_start = padding_is_not_read_start c (p ++ more) p same_behind
