-- A chart's rows, copied as they are: of each row the last byte alone differs from what it should be, by its padding. Assumes nothing.
use Prim.Native.Nat.{ℕ, zero, suc, ◌+◌, ◌-◌, ◌*◌, ◌/◌, ◌%◌, ◌^◌, ◌≤◌, ◌<◌}
use mathlib.Core.Bool.{true}
use mathlib.Core.List.{List, ◌++◌}
use mathlib.Core.Path.{◌≡◌, sym, ap, ap₂, ◌∙◌}
use native.Mathlib.Nat.{add-zero, add-suc, mul-suc, mul-le-mul_left, mod-eq_of_lt, mul-add-mod_self_left}
use native.Mathlib.Omega.{arith}
use lib.ListN.{length, take, drop, get_or, set}
use lib.Seq.{take-suc, length-take-le, get_or-drop, set-get_or}
use Rattle.std.proofs.lemmas.List.{get_or-append_right}
use Rattle.laws.proofs.Lists.{push}
use Rattle.chart.specs.Pixels.{side, row_bytes, cell, all_bytes}
use Rattle.chart.specs.declared.Chart.{Chart}
use Rattle.chart.proofs.Sizes.{side_within}
use Rattle.pbm.specs.Bytes.{chart_bytes}
use Rattle.pbm.proofs.Bytes.{length_chart_bytes, chart_bytes_at}
use Rattle.pbm.proofs.Copied.{byte_whole, byte_last}

-- ---- a list of which the first n bytes are those of another

abbrev pub begun_with : List ℕ → List ℕ → ℕ → List ℕ
begun_with s old n = take n s ++ drop n old

module _ (s old : List ℕ) where
  pub behind_is : (n i : ℕ) → n ≤ length s → n ≤ i → get_or (begun_with s old n) i 0 ≡ get_or old i 0
  behind_is n i l h =
      let e : n + (i - n) ≡ i = omega arith in
      get_or-append_right (take n s) (drop n old) n i 0 (length-take-le n s l) h
      ∙ get_or-drop n old (i - n) 0
      ∙ ap (λ (k : ℕ). get_or old k 0) e

  one_more : (n : ℕ) → n < length old → n < length s → set (begun_with s old n) n (get_or s n 0) ≡ begun_with s old (suc n)
  one_more n h l =
      let e : n + 1 ≡ suc n = omega arith in
      push (take n s) old n (get_or s n 0) (length-take-le n s (omega arith)) h
      ∙ ap₂ (λ (t : List ℕ) (k : ℕ). t ++ drop k old) (sym (take-suc s n 0 l)) e

  -- bytes that are alike may be of either
  alike : (n j : ℕ) → n + j ≤ length old → n + j ≤ length s → ((i : ℕ) → i < j → get_or old (n + i) 0 ≡ get_or s (n + i) 0) →
      begun_with s old n ≡ begun_with s old (n + j)
  alike n zero h l same = ap (begun_with s old) (sym (add-zero n))
  alike n (suc j) h l same =
      let k = n + j in
      let b = begun_with s old k in
      alike n j (omega arith) (omega arith) (λ i m. same i (omega arith))
      ∙ sym (set-get_or b k 0)
      ∙ ap (set b k) (behind_is k k (omega arith) (omega arith) ∙ same j (omega arith))
      ∙ one_more k (omega arith) (omega arith)
      ∙ ap (begun_with s old) (sym (add-suc n j))

-- ---- row y of a chart: all of its bytes are as they should be but the last, of which the padding is cleared

module _ (c : Chart) (old : List ℕ) (y : ℕ) (small : (k : ℕ) → get_or old k 0 < 256) (wide : side c.width ≡ true) (row : y < c.height)
    (room : length old ≡ all_bytes c) where
  abbrev n : ℕ
  n = row_bytes c.width

  abbrev s : List ℕ
  s = chart_bytes c (cell c old)

  row_ends : n * y + n ≤ n * c.height
  row_ends = omega (arith, mul-le-mul_left n row, mul-suc n y)

  place_in_row : (j : ℕ) → j < n → (n * y + j) % n ≡ j
  place_in_row j h = mul-add-mod_self_left n y j ∙ mod-eq_of_lt h

  byte_stays : (j : ℕ) → j + 1 < n → get_or old (n * y + j) 0 ≡ get_or s (n * y + j) 0
  unfolding row_bytes
  byte_stays j h =
      byte_whole c old (n * y + j) (small (n * y + j)) (j * 8) (ap (λ (k : ℕ). k * 8) (sym (place_in_row j (omega arith)))) (omega arith)
      ∙ sym (chart_bytes_at c (cell c old) (n * y + j) (omega (arith, row_ends)))

  byte_goes : (v : ℕ) → v ≡ get_or old (n * y + (n - 1)) 0 / 2 ^ (n * 8 - c.width) * 2 ^ (n * 8 - c.width) → v ≡ get_or s (n * y + (n - 1)) 0
  unfolding row_bytes
  byte_goes v e =
      let (o, l) = side_within c.width wide in
      let f : (n - 1) * 8 + 8 - c.width ≡ n * 8 - c.width = omega arith in
      e
      ∙ ap (λ (k : ℕ). get_or old (n * y + (n - 1)) 0 / 2 ^ k * 2 ^ k) (sym f)
      ∙ byte_last c old (n * y + (n - 1)) (small (n * y + (n - 1))) ((n - 1) * 8)
      (ap (λ (k : ℕ). k * 8) (sym (place_in_row (n - 1) (omega arith)))) o (omega arith)
      ∙ sym (chart_bytes_at c (cell c old) (n * y + (n - 1)) (omega (arith, row_ends)))

  pub row_cleared : (v : ℕ) → v ≡ get_or old (n * y + (n - 1)) 0 / 2 ^ (n * 8 - c.width) * 2 ^ (n * 8 - c.width) →
      set (begun_with s old (n * y)) (n * y + (n - 1)) v ≡ begun_with s old (n * suc y)
  unfolding row_bytes
  row_cleared v e =
      let (o, l) = side_within c.width wide in
      let k = n * y + (n - 1) in
      let f : suc k ≡ n * suc y = omega (arith, mul-suc n y) in
      let m : length s ≡ n * c.height = length_chart_bytes c (cell c old) in
      ap (λ (p : List ℕ). set p k v) (alike s old (n * y) (n - 1) (omega (arith, row_ends)) (omega (arith, row_ends)) (λ i h. byte_stays i (omega arith)))
      ∙ ap (set (begun_with s old k) k) (byte_goes v e)
      ∙ one_more s old k (omega (arith, row_ends)) (omega (arith, row_ends))
      ∙ ap (begun_with s old) f
