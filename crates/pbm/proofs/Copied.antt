-- A chart's byte as it is copied: the pixels of its row that it has are its first bits, and behind the last of them nothing is set. And
-- where in its row the next byte lies. Assumes nothing.
use Prim.Native.Nat.{ℕ, suc, ◌+◌, ◌-◌, ◌*◌, ◌/◌, ◌%◌, ◌^◌, ◌≤◌, ◌<◌}
use mathlib.Core.Bool.{true, ◌&&◌}
use mathlib.Core.List.{List}
use mathlib.Core.Path.{◌≡◌, refl, sym, ap, ◌∙◌}
use native.Mathlib.Nat.{mul-one, div-one, div-add-mod', mod-lt, mod_self, mod-eq_of_lt, suc-mod}
use native.Mathlib.Numerals.{add-one}
use native.Mathlib.Omega.{arith}
use mir.Syntax.{w64}
use mir.Val.{Fits}
use lib.Dec.{ltb}
use lib.ListN.{get_or}
use borrow.Author.Tests.{lt-ltb, le-ltb}
use Rattle.chart.specs.Pixels.{side, row_bytes, bit_of, cell}
use Rattle.chart.specs.declared.Chart.{Chart}
use Rattle.chart.proofs.Rows.{cell_byte}
use Rattle.chart.proofs.Sizes.{side_within}
use Rattle.pbm.specs.Bytes.{byte_at}
use Rattle.pbm.proofs.Bytes.{packed_padded, packed_bits, byte_at_is}

-- ---- byte i, of which the first n pixels are its row's

module _ (c : Chart) (pixels : List ℕ) (i : ℕ) (small : get_or pixels i 0 < 256) where
  abbrev b : ℕ
  b = row_bytes c.width

  byte_clear : (n : ℕ) → n ≤ 8 → ((j : ℕ) → j < n → i % b * 8 + j < c.width) → ((j : ℕ) → n ≤ j → j < 8 → c.width ≤ i % b * 8 + j) →
      byte_at c (cell c pixels) i ≡ get_or pixels i 0 / 2 ^ (8 - n) * 2 ^ (8 - n)
  byte_clear n few here past =
      byte_at_is c (cell c pixels) i
      ∙ packed_padded 8 n (λ j. ltb (i % b * 8 + j) c.width && cell c pixels (i % b * 8 + j) (i / b)) (bit_of (get_or pixels i 0)) few
      (λ j h. rw (lt-ltb _ _ (here j h)) (bit j (omega arith)))
      (λ j h l. rw (le-ltb _ _ (past j h l)))
      ∙ ap (λ (m : ℕ). m * 2 ^ (8 - n)) (packed_bits (get_or pixels i 0) n small few)
    where
      bit : (j : ℕ) → j < 8 → cell c pixels (i % b * 8 + j) (i / b) ≡ bit_of (get_or pixels i 0) j
      bit j h = cell_byte c pixels (i / b) b refl (i % b) j h ∙ ap (λ (k : ℕ). bit_of (get_or pixels k 0) j) (div-add-mod' i b)

  module _ (x : ℕ) (column : x ≡ i % b * 8) where
    pub byte_whole : x + 8 < c.width → get_or pixels i 0 ≡ byte_at c (cell c pixels) i
    byte_whole h =
        sym (byte_clear 8 (omega arith) (λ j l. omega arith) (λ j l m. absurd (omega arith)) ∙ mul-one (get_or pixels i 0 / 1) ∙ div-one (get_or pixels i 0))

    pub byte_last : 1 ≤ c.width → c.width ≤ x + 8 → get_or pixels i 0 / 2 ^ (x + 8 - c.width) * 2 ^ (x + 8 - c.width) ≡ byte_at c (cell c pixels) i
    unfolding row_bytes
    byte_last o h =
        let l : i % b < b = mod-lt i (omega arith) in
        let e : 8 - (c.width - x) ≡ x + 8 - c.width = omega arith in
        sym (byte_clear (c.width - x) (omega arith) (λ j l. omega arith) (λ j l m. omega arith) ∙ ap (λ (n : ℕ). get_or pixels i 0 / 2 ^ n * 2 ^ n) e)

-- ---- the column behind byte i: in the next byte it is eight further, or the next row begins

module _ (width i x : ℕ) (wide : side width ≡ true) (column : x ≡ i % row_bytes width * 8) where
  pub place_in_row : i % row_bytes width < row_bytes width
  unfolding row_bytes
  place_in_row = mod-lt i (omega (arith, side_within width wide))

  pub column_fits : Fits w64 (x + 8)
  unfolding row_bytes
  column_fits = record { fits = omega (arith, place_in_row, side_within width wide) }

  pub next_column : x + 8 < width → x + 8 ≡ (i + 1) % row_bytes width * 8
  unfolding row_bytes
  next_column h =
      let l : suc (i % row_bytes width) < row_bytes width = omega arith in
      rw (add-one, suc-mod, mod-eq_of_lt l) (omega arith)

  pub next_row : width ≤ x + 8 → 0 ≡ (i + 1) % row_bytes width * 8
  unfolding row_bytes
  next_row h =
      let l : suc (i % row_bytes width) ≡ row_bytes width = omega (arith, place_in_row) in
      rw (add-one, suc-mod, l, mod_self)
