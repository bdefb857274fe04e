-- A row of a good chart: its bytes are there, its pixels are their bits, and they are counted byte by byte. Assumes nothing.
use Prim.Native.Nat.{ℕ, zero, suc, ◌+◌, ◌-◌, ◌*◌, ◌/◌, ◌%◌, ◌^◌, ◌≤◌, ◌<◌}
use mathlib.Core.Bool.{Bool, false}
use mathlib.Core.List.{List}
use mathlib.Core.Path.{◌≡◌, refl, sym, ap, ◌∙◌}
use native.Mathlib.Nat.{mul-le-mul, mul-le-mul_right, suc-mul, mul_comm, le_refl, add-zero}
use native.Mathlib.Omega.{arith}
use mir.Syntax.{w64}
use mir.Val.{Fits}
use lib.ListN.{length, get_or, take, drop}
use Rattle.std.proofs.lemmas.List.{get_or-drop, get_or-take}
use borrow.Author.Tests.{ltb-false}
use Rattle.laws.proofs.Joined.{both_false}
use Rattle.laws.specs.inside.Bits.{set_bits}
use Rattle.laws.proofs.Bits.{set_bits_le, set_bits_next}
use Rattle.chart.specs.declared.Chart.{Chart}
use Rattle.chart.specs.Pixels.{bad_sides, bad_chart, row_bytes, bit_of, cell, one}
use Rattle.chart.specs.inside.Rows.{Good}
use Rattle.chart.specs.Area.{row_area, rows_area}
use Rattle.chart.proofs.OneByte.{digit}
use Rattle.chart.proofs.BitPlaces.{one_le}
use Rattle.chart.proofs.Sizes.{width_within, height_within}

-- ---- what is not refused is good

pub good : (c : Chart) (pixels : List ℕ) (r : Bool) → r ≡ bad_chart c pixels → r ≡ false → Good c pixels
unfolding bad_chart
good c pixels r says fine =
    let p = both_false (bad_sides c) _ (sym says ∙ fine) in
    record { wide = (width_within c p.0).1; high = (height_within c p.0).1; enough = ltb-false _ _ p.1 }

-- ---- a row's bytes

module _ (c : Chart) (pixels : List ℕ) (y b : ℕ) (fine : Good c pixels) (row : y < c.height) (bytes : b ≡ row_bytes c.width) where
  row_ends : y * b + b ≤ length pixels
  row_ends =
      let h : suc y * b ≤ c.height * b = mul-le-mul_right b row in
      omega (arith, h, suc-mul y b, mul_comm b c.height, fine.enough, ap (λ (n : ℕ). n * c.height) bytes)

  few : b ≤ 64
  unfolding row_bytes
  few = omega (arith, fine.wide)

  start_few : y * b ≤ 512 * 64
  start_few = let q : y ≤ 512 = omega (arith, fine.high) in mul-le-mul q few

  pub row_start_fits : Fits w64 (y * b)
  row_start_fits = record { fits = omega (arith, start_few) }

  -- the i-th byte, and the byte with the last pixels where they do not fill it
  pub in_row : (i : ℕ) → i < b → y * b + i < length pixels
  in_row i h = omega (arith, row_ends)

  pub whole_ends : (i : ℕ) → i ≡ c.width / 8 → y * b + i ≤ length pixels
  unfolding row_bytes
  whole_ends i h = omega (arith, row_ends)

  pub in_rest : (c.width % 8 ≡ 0 → ⊥) → y * b + c.width / 8 < length pixels
  unfolding row_bytes
  in_rest h = in_row (c.width / 8) (omega arith)

-- ---- a row's pixels, byte by byte

module _ (c : Chart) (pixels : List ℕ) (y b : ℕ) (bytes : b ≡ row_bytes c.width) (i : ℕ) where
  pub cell_byte : (j : ℕ) → j < 8 → cell c pixels (i * 8 + j) y ≡ bit_of (get_or pixels (y * b + i) 0) j
  unfolding cell
  cell_byte j h =
      let p : (i * 8 + j) / 8 ≡ i = omega arith in
      let q : (i * 8 + j) % 8 ≡ j % 8 = omega arith in
      rw (bytes, p, q)

  -- the first k pixels of byte i
  pub one_byte : (k : ℕ) → k ≤ 8 → row_area c pixels (i * 8 + k) y ≡ row_area c pixels (i * 8) y + set_bits k (get_or pixels (y * b + i) 0 / 2 ^ (8 - k))
  unfolding row_area set_bits
  one_byte zero h = ap (λ (n : ℕ). row_area c pixels n y) (add-zero (i * 8)) ∙ sym (add-zero (row_area c pixels (i * 8) y))
  one_byte (suc k) h =
      let n = get_or pixels (y * b + i) 0 in
      let z : i * 8 + suc k ≡ suc (i * 8 + k) = omega arith in
      let e : 7 - k % 8 ≡ 8 - suc k = omega arith in
      let r : row_area c pixels (i * 8 + suc k) y ≡ row_area c pixels (i * 8 + k) y + one (cell c pixels (i * 8 + k) y) = ap (λ (n : ℕ). row_area c pixels n y) z in
      let a : one (cell c pixels (i * 8 + k) y) ≡ n / 2 ^ (8 - suc k) % 2 = ap one (cell_byte k (omega arith)) ∙ digit (n / 2 ^ (7 - k % 8)) ∙ ap (λ (m : ℕ). n / 2 ^ m % 2) e in
      omega (arith, r, a, one_byte k (omega arith), set_bits_next 8 k n (omega arith))

-- ---- how many may be set

module _ (c : Chart) (pixels : List ℕ) where
  pub row_le : (n y : ℕ) → row_area c pixels n y ≤ n
  unfolding row_area
  row_le zero y = le_refl 0
  row_le (suc n) y = omega (arith, row_le n y, one_le (cell c pixels n y))

  pub rows_le : (n : ℕ) → rows_area c pixels n ≤ n * c.width
  unfolding rows_area
  rows_le zero = omega arith
  rows_le (suc n) = omega (arith, rows_le n, row_le c.width n, suc-mul n c.width)

  pub area_fits : (y set n : ℕ) → set ≡ rows_area c pixels y → n ≡ row_area c pixels c.width y → Good c pixels → y < c.height → Fits w64 (set + n)
  area_fits y set n e f g h =
      let k : y ≤ 512 = omega (arith, g.high) in
      let l : y * c.width ≤ 512 * 512 = mul-le-mul k g.wide in
      record { fits = omega (arith, rows_le y, row_le c.width y, g.wide) }

-- ---- the loop over a row's whole bytes: i of them are counted

pub none_counted : (c : Chart) (pixels : List ℕ) (y : ℕ) → 0 ≡ row_area c pixels 0 y
unfolding row_area
none_counted c pixels y = refl

module _ (c : Chart) (pixels : List ℕ) (y i set : ℕ) (counted : set ≡ row_area c pixels (i * 8) y) where
  pub sum_fits : (n o : ℕ) → i ≤ c.width / 8 → c.width ≤ 512 → o ≡ set_bits 8 n → Fits w64 (set + o)
  sum_fits n o h w e = record { fits = omega (arith, row_le c pixels (i * 8) y, set_bits_le 8 n) }

  pub last_sum_fits : (n o : ℕ) → i ≤ c.width / 8 → c.width ≤ 512 → o ≡ set_bits (c.width % 8) n → Fits w64 (set + o)
  last_sum_fits n o h w e = record { fits = omega (arith, row_le c pixels (i * 8) y, set_bits_le (c.width % 8) n) }

  -- the i-th of the n bytes that are looked at
  pub counted_more : (b n o : ℕ) → b ≡ row_bytes c.width → i < n → o ≡ set_bits 8 (get_or (take n (drop (y * b) pixels)) i 0) → set + o ≡ row_area c pixels ((i + 1) * 8) y
  counted_more b n o e h f =
      let z : (i + 1) * 8 ≡ i * 8 + 8 = omega arith in
      let d : get_or pixels (y * b + i) 0 / 2 ^ (8 - 8) ≡ get_or pixels (y * b + i) 0 = omega arith in
      let g : get_or (take n (drop (y * b) pixels)) i 0 ≡ get_or pixels (y * b + i) 0 = get_or-take n _ i 0 h ∙ get_or-drop (y * b) pixels i 0 in
      rw (z, one_byte c pixels y b e i 8 (le_refl 8), d, counted, f, g)

  pub all_whole : i ≤ c.width / 8 → c.width / 8 ≤ i → c.width % 8 ≡ 0 → set ≡ row_area c pixels c.width y
  all_whole h k e = counted ∙ ap (λ (n : ℕ). row_area c pixels n y) (omega arith)

  pub with_the_rest : (b o : ℕ) → b ≡ row_bytes c.width → i ≤ c.width / 8 → c.width / 8 ≤ i →
      o ≡ set_bits (c.width % 8) (get_or pixels (y * b + c.width / 8) 0 / 2 ^ (8 - c.width % 8)) → set + o ≡ row_area c pixels c.width y
  with_the_rest b o e h k f =
      let j : i ≡ c.width / 8 = omega arith in
      let z : c.width ≡ c.width / 8 * 8 + c.width % 8 = omega arith in
      rw (counted, f, j) (sym (one_byte c pixels y b e (c.width / 8) (c.width % 8) (omega arith)) ∙ ap (λ (n : ℕ). row_area c pixels n y) (sym z))

-- ---- what the searches are given

pub ruleset counting = (row_start_fits, whole_ends, in_rest, none_counted, sum_fits, last_sum_fits, all_whole, with_the_rest)

pub ruleset in_area = (good, area_fits)
