-- A chart's rows of which the padding is cleared row by row: what holds after the first y of them, and that a turn of the loop keeps it. Assumes
-- nothing.
use Prim.Native.Nat.{ℕ, suc, ◌+◌, ◌-◌, ◌*◌, ◌/◌, ◌^◌, ◌≤◌, ◌<◌}
use mathlib.Core.Bool.{false, not, ◌||◌}
use mathlib.Core.List.{List, [], append-nil}
use mathlib.Core.Path.{◌≡◌, refl, sym, ap, ap₂, subst, ◌∙◌}
use native.Mathlib.Nat.{mul-zero, mul-suc, mul-le-mul_left}
use native.Mathlib.Numerals.{add-one}
use native.Mathlib.Omega.{arith}
use mir.Syntax.{w8, w64}
use mir.Val.{Fits}
use lib.ListN.{length, drop, get_or, set, length-set, drop_of_length-le}
use lib.Seq.{take_all}
use Rattle.chart.specs.Pixels.{side, row_bytes, cell, all_bytes, bad_sides}
use Rattle.chart.specs.declared.Chart.{Chart}
use Rattle.chart.proofs.Sizes.{side_within, good_width, width_within}
use Rattle.pbm.specs.Bytes.{chart_bytes}
use Rattle.pbm.proofs.Bytes.{length_chart_bytes}
use Rattle.pbm.proofs.Cleared.{begun_with, behind_is, row_cleared}

-- the chart's rows as they should be
abbrev pub rows : Chart → List ℕ → List ℕ
rows c old = chart_bytes c (cell c old)

-- what holds of the loop
pub record Clearing (c : Chart) (old : List ℕ) (row padding : ℕ) (part : List ℕ) (end y : ℕ) : Type 0 where
  pub wide : row ≡ row_bytes c.width
  pub past : padding ≡ row * 8 - c.width
  pub within : y ≤ c.height
  pub begins : end ≡ row * y
  pub same : length part ≡ length old
  pub so_far : part ≡ begun_with (rows c old) old (row * y)

module _ (c : Chart) (old : List ℕ) where
  pub begun : (row : ℕ) → row ≡ row_bytes c.width → Clearing c old row (row * 8 - c.width) old 0 0
  begun row e = record {
    wide = e;
    past = refl;
    within = omega arith;
    begins = sym (mul-zero row);
    same = refl;
    so_far = ap (begun_with (rows c old) old) (sym (mul-zero row));
  }

-- a row has a byte at least, and padding in the last one alone
module _ (w h row : ℕ) (fine : (not (side w) || not (side h)) ≡ false) (e : row ≡ row_bytes w) where
  within : (1 ≤ w) × (w ≤ 512)
  within = side_within w (good_width (side w) (side h) fine)

  pub bits_fit : Fits w64 (row * 8)
  unfolding row_bytes
  bits_fit = record { fits = omega (arith, within) }

  pub bits_enough : w ≤ row * 8
  unfolding row_bytes
  bits_enough = omega arith

  pub padding_few : row * 8 - w ≤ 7
  unfolding row_bytes
  padding_few = omega (arith, within)

module _ (c : Chart) (old : List ℕ) (row padding : ℕ) (part : List ℕ) (end y : ℕ) (inv : Clearing c old row padding part end y)
    (fine : bad_sides c ≡ false) (more : y < c.height) (room : length old ≡ all_bytes c) where
  row_some : 1 ≤ row
  unfolding row_bytes
  row_some = omega (arith, inv.wide, width_within c fine)

  row_ends : end + row ≤ length part
  row_ends =
      let e : row * c.height ≡ all_bytes c = ap (λ (n : ℕ). n * c.height) inv.wide in
      omega (arith, mul-le-mul_left row more, mul-suc row y, inv.begins, inv.same)

  pub end_fits : length old < 2 ^ 64 → Fits w64 (end + row)
  end_fits l = record { fits = omega (arith, row_ends, inv.same) }

  pub before_end : 1 ≤ end + row
  before_end = omega (arith, row_some)

  pub last_within : end + row - 1 < length part
  last_within = omega (arith, row_some, row_ends)

  module _ (small : (k : ℕ) → Fits w8 (get_or old k 0)) (r : ℕ) (e : r ≡ get_or part (end + row - 1) 0 / 2 ^ padding * 2 ^ padding) where
    abbrev k : ℕ
    k = row * y + (row - 1)

    abbrev Clears : ℕ → Type 0
    Clears n =
        (v : ℕ) → v ≡ get_or old (n * y + (n - 1)) 0 / 2 ^ (n * 8 - c.width) * 2 ^ (n * 8 - c.width) →
        set (begun_with (rows c old) old (n * y)) (n * y + (n - 1)) v ≡ begun_with (rows c old) old (n * suc y)

    clears : Clears row
    clears = subst Clears (sym inv.wide) (row_cleared c old y (λ i. (small i).fits) (good_width (side c.width) (side c.height) fine) more room)

    place : end + row - 1 ≡ k
    place = omega (arith, row_some, inv.begins)

    untouched : get_or part k 0 ≡ get_or old k 0
    untouched =
        let s = rows c old in
        let l : length s ≡ row * c.height = length_chart_bytes c (cell c old) ∙ ap (λ (n : ℕ). n * c.height) (sym inv.wide) in
        ap (λ (list : List ℕ). get_or list k 0) inv.so_far
        ∙ behind_is s old (row * y) k (omega (arith, mul-le-mul_left row more, mul-suc row y)) (omega arith)

    pub row_stored : Clearing c old row padding (set part (end + row - 1) r) (end + row) (y + 1)
    row_stored =
        let v : r ≡ get_or old k 0 / 2 ^ (row * 8 - c.width) * 2 ^ (row * 8 - c.width) =
        e ∙ ap₂ (λ (b p : ℕ). b / 2 ^ p * 2 ^ p) (ap (λ (i : ℕ). get_or part i 0) place ∙ untouched) inv.past in
        record {
          wide = inv.wide;
          past = inv.past;
          within = omega arith;
          begins = rw (inv.begins, add-one, mul-suc) (omega arith);
          same = length-set part (end + row - 1) r ∙ inv.same;
          so_far = rw (place, inv.so_far, add-one) (clears r v);
        }

module _ (c : Chart) (old : List ℕ) (row padding : ℕ) (part : List ℕ) (end y : ℕ) (inv : Clearing c old row padding part end y)
    (room : length old ≡ all_bytes c) where
  pub all : c.height ≤ y → part ≡ rows c old
  all h =
      let n = all_bytes c in
      let l : length (rows c old) ≤ n = omega (arith, length_chart_bytes c (cell c old)) in
      let e : y ≡ c.height = omega (arith, inv.within) in
      let none : drop n old ≡ [] = drop_of_length-le old (omega arith) in
      rw (inv.so_far, inv.wide, e, take_all n (rows c old) l, none, append-nil)
