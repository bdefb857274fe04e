-- The first set pixel of a row and of a chart, as code looks for it: past bytes and rows that are blank. Assumes nothing.
use Prim.Native.Nat.{ℕ, zero, suc, ◌+◌, ◌-◌, ◌*◌, ◌≤◌, ◌<◌}
use mathlib.Core.Bool.{Bool, true, false}
use mathlib.Core.List.{List}
use mathlib.Core.Option.{Option, some, none}
use mathlib.Core.Path.{◌≡◌, sym, ap, ap₂, ◌∙◌}
use native.Mathlib.Nat.{zero-sub}
use native.Mathlib.Numerals.{add-one}
use native.Mathlib.Omega.{arith}
use lib.IntN.{ℤ, pos}
use lib.ListN.{get_or}
use Rattle.std.specs.Prelude.{Ok, Err}
use Rattle.point.specs.declared.PointI32.{PointI32}
use Rattle.point.specs.declared.refusal.Refusal.TheVariants.{NoWay}
use Rattle.chart.specs.declared.Chart.{Chart}
use Rattle.chart.specs.Pixels.{row_bytes, cell, bad_chart}
use Rattle.chart.specs.Start.{first_in_row, first_in_rows, first_start}
use Rattle.chart.specs.inside.Rows.{FirstAt, Clear}
use Rattle.chart.proofs.Rows.{good, cell_byte}

abbrev column : Option PointI32 → ℤ
column (some p) = p.x
column none = pos 0

module _ (c : Chart) (pixels : List ℕ) (y : ℕ) where
  -- k pixels that are not set are passed
  skip : (k n x : ℕ) → ((j : ℕ) → j < k → cell c pixels (x + j) y ≡ false) → first_in_row c pixels x y n ≡ first_in_row c pixels (x + k) y (n - k)
  unfolding first_in_row
  skip zero n x f =
      let a : x ≡ x + 0 = omega arith in
      let d : n ≡ n - 0 = omega arith in
      ap₂ (λ (x n : ℕ). first_in_row c pixels x y n) a d
  skip (suc k) zero x f = ap (first_in_row c pixels (x + suc k) y) (sym (zero-sub (suc k)))
  skip (suc k) (suc n) x f =
      let z : x + 0 ≡ x = omega arith in
      let e : cell c pixels x y ≡ false = ap (λ (i : ℕ). cell c pixels i y) (sym z) ∙ f 0 (omega arith) in
      let a : suc x + k ≡ x + suc k = omega arith in
      let d : n - k ≡ suc n - suc k = omega arith in
      rw (e, first_in_row) (skip k n (suc x) (λ j h. shifted j (omega arith)) ∙ ap₂ (λ (x n : ℕ). first_in_row c pixels x y n) a d)
    where
      shifted : (j : ℕ) → suc j < suc k → cell c pixels (suc x + j) y ≡ false
      shifted j h = let i : suc x + j ≡ x + suc j = omega arith in ap (λ (i : ℕ). cell c pixels i y) i ∙ f (suc j) h

  -- a pixel that is set decides
  decides : (n x : ℕ) → 0 < n → cell c pixels x y ≡ true → some (record { x = pos x; y = pos y }) ≡ first_in_row c pixels x y n
  unfolding first_in_row
  decides zero x h e = absurd (omega arith)
  decides (suc n) x h e = rw (e, first_in_row)

  no_pixel : (n x : ℕ) → n ≡ 0 → none ≡ first_in_row c pixels x y n
  unfolding first_in_row
  no_pixel n x e = rw e

  -- what is found lies in the row
  pub first_within : (n x z : ℕ) → some (record { x = pos z; y = pos y }) ≡ first_in_row c pixels x y n → z < x + n
  unfolding first_in_row
  first_within zero x z e =
      let f : ◌≡◌ {A = Option PointI32} (some (record { x = pos z; y = pos y })) none = e in
      absurd (let o : ◌≡◌ {A = ℕ} 0 1 = cc in omega arith)
  first_within (suc n) x z e = go (cell c pixels x y) (first_within n (suc x) z) e
    where
      go : (t : Bool) → (some (record { x = pos z; y = pos y }) ≡ first_in_row c pixels (suc x) y n → z < suc x + n) →
          some (record { x = pos z; y = pos y }) ≡ (elim t as (λ _. Option PointI32) [ true ↦ some (record { x = pos x; y = pos y }) | false ↦ first_in_row c pixels (suc x) y n ]) →
          z < x + suc n
      go true later f =
          let o : pos z ≡ pos x = ap column f in
          let p : z ≡ x = cc in
          omega arith
      go false later f = let h = later f in omega arith

  -- ---- the loop over a row's bytes: i of them are blank

  module _ (b i : ℕ) (so_far : first_in_row c pixels 0 y c.width ≡ first_in_row c pixels (i * 8) y (c.width - i * 8)) (bytes : b ≡ row_bytes c.width) where
    pub blank_byte : Clear (get_or pixels (y * b + i) 0) → first_in_row c pixels 0 y c.width ≡ first_in_row c pixels ((i + 1) * 8) y (c.width - (i + 1) * 8)
    blank_byte none_set =
        let a : i * 8 + 8 ≡ (i + 1) * 8 = omega arith in
        let d : c.width - i * 8 - 8 ≡ c.width - (i + 1) * 8 = omega arith in
        so_far ∙ skip 8 (c.width - i * 8) (i * 8) (λ j h. cell_byte c pixels y b bytes i j h ∙ none_set.clear j h) ∙ ap₂ (λ (x n : ℕ). first_in_row c pixels x y n) a d

    module _ (z : ℕ) (first : FirstAt (get_or pixels (y * b + i) 0) z) where
      to_first : first_in_row c pixels 0 y c.width ≡ first_in_row c pixels (i * 8 + z) y (c.width - i * 8 - z)
      to_first = so_far ∙ skip z (c.width - i * 8) (i * 8) (λ j h. cell_byte c pixels y b bytes i j (omega (arith, first.few)) ∙ first.clear j h)

      pub found : i * 8 + z < c.width → some (record { x = pos (i * 8 + z); y = pos y }) ≡ first_in_row c pixels 0 y c.width
      found h = decides (c.width - i * 8 - z) (i * 8 + z) (omega arith) (cell_byte c pixels y b bytes i z first.few ∙ first.set) ∙ sym to_first

      pub only_padding : c.width ≤ i * 8 + z → none ≡ first_in_row c pixels 0 y c.width
      only_padding h = no_pixel (c.width - i * 8 - z) (i * 8 + z) (omega arith) ∙ sym to_first

    pub blank_row : b ≤ i → none ≡ first_in_row c pixels 0 y c.width
    unfolding row_bytes
    blank_row h = no_pixel (c.width - i * 8) (i * 8) (omega arith) ∙ sym so_far

  pub no_byte_yet : first_in_row c pixels 0 y c.width ≡ first_in_row c pixels (0 * 8) y (c.width - 0 * 8)
  no_byte_yet = let d : c.width ≡ c.width - 0 * 8 = omega arith in ap (first_in_row c pixels 0 y) d

-- ---- the loop over the rows: y of them are blank

module _ (c : Chart) (pixels : List ℕ) where
  pub no_row_yet : first_in_rows c pixels 0 c.height ≡ first_in_rows c pixels 0 (c.height - 0)
  no_row_yet = let e : c.height ≡ c.height - 0 = omega arith in ap (first_in_rows c pixels 0) e

  module _ (y : ℕ) (so_far : first_in_rows c pixels 0 c.height ≡ first_in_rows c pixels y (c.height - y)) where
    pub next_row : y < c.height → none ≡ first_in_row c pixels 0 y c.width → first_in_rows c pixels 0 c.height ≡ first_in_rows c pixels (y + 1) (c.height - (y + 1))
    unfolding first_in_rows
    next_row h row =
        let e : c.height - y ≡ suc (c.height - suc y) = omega arith in
        rw (so_far, e, ← row, add-one)

    module _ (r : Bool) (says : r ≡ bad_chart c pixels) (fine : r ≡ false) where
      pub starts : y < c.height → (p : PointI32) → some p ≡ first_in_row c pixels 0 y c.width → Ok p ≡ first_start c pixels
      unfolding first_start
      starts h p row =
          let e : c.height - y ≡ suc (c.height - suc y) = omega arith in
          rw (← says, fine, so_far, e, ← row)

      pub blank : c.height ≤ y → Err NoWay ≡ first_start c pixels
      unfolding first_start
      blank k =
          let e : c.height - y ≡ 0 = omega arith in
          rw (← says, fine, so_far, e)

-- ---- what the searches are given

pub ruleset in_a_row = (no_byte_yet, blank_byte, found, only_padding, blank_row)

pub ruleset in_rows = (good, no_row_yet, starts, blank, first_within)
