-- A plain raster's digits put into a chart byte by byte: what holds after the first i bytes, and that a turn of the loop keeps it. Assumes nothing.
use Prim.Native.Nat.{ℕ, ◌+◌, ◌-◌, ◌*◌, ◌/◌, ◌%◌, ◌^◌, ◌≤◌, ◌<◌, min}
use mathlib.Core.Bool.{Bool, true, false, ◌&&◌}
use mathlib.Core.List.{List}
use mathlib.Core.Option.{Option, some}
use mathlib.Core.Path.{◌≡◌, refl, sym, ap, ◌∙◌}
use native.Mathlib.Nat.{le_of_lt, zero-mod}
use native.Mathlib.Omega.{arith}
use mir.Syntax.{w64}
use mir.Val.{Fits}
use lib.Dec.{ltb}
use lib.ListN.{length, get_or, drop, set, length-set}
use borrow.Author.Tests.{lt-ltb, le-ltb}
use Rattle.laws.specs.Lists.{over}
use Rattle.laws.proofs.Lists.{over_nil}
use Rattle.chart.specs.Pixels.{row_bytes, side, all_bytes, bad_sides}
use Rattle.chart.specs.declared.Chart.{Chart}
use Rattle.chart.proofs.Sizes.{good_width}
use Rattle.pbm.specs.Bytes.{packed, byte_at, listed, chart_bytes}
use Rattle.pbm.specs.Raster.{Digits, digits_in}
use Rattle.pbm.specs.inside.Places.{behind_digits, bits_of, whole}
use Rattle.pbm.proofs.Bytes.{packed_padded, byte_at_is, listed_over}
use Rattle.pbm.proofs.Copied.{column_fits, next_column, next_row}
use Rattle.pbm.proofs.Counted.{before, before_none, before_is, before_next, before_within, in_row}
use Rattle.pbm.proofs.Digits.{skip, skip_zero, more_left, more_whole, more_bits}

-- the digits of a whole chart, and the pixels that they are
abbrev pub digits_of : Chart → List ℕ → ℕ → Option Digits
digits_of c file from = digits_in (c.width * c.height) (drop from file)

abbrev pub pixels_of : Chart → Option Digits → ℕ → ℕ → Bool
pixels_of c d = λ x y. get_or (bits_of d) (y * c.width + x) false

-- what holds of the loop: x is the column of byte i, and the digits from `at` on are those behind the pixels before byte i
pub record Packing (c : Chart) (file : List ℕ) (from : ℕ) (old : List ℕ) (bytes : ℕ) (pixels : List ℕ) (at x i : ℕ) : Type 0 where
  pub size : bytes ≡ all_bytes c
  pub within : i ≤ bytes
  pub same : length pixels ≡ length old
  pub column : x ≡ i % row_bytes c.width * 8
  pub left : digits_in (c.width * c.height - before c.width i) (drop at file) ≡ skip (before c.width i) (digits_of c file from)
  pub so_far : pixels ≡ over (listed i (byte_at c (pixels_of c (digits_of c file from)))) old

pub begun : (c : Chart) (file : List ℕ) (from : ℕ) (old : List ℕ) (n : ℕ) → n ≡ all_bytes c → Packing c file from old n old from 0 0
unfolding listed
begun c file from old n e =
    let z : c.width * c.height - 0 ≡ c.width * c.height = omega arith in
    record {
      size = e;
      within = omega arith;
      same = refl;
      column = rw zero-mod;
      left = rw (before_none, z, skip_zero);
      so_far = sym (over_nil old);
    }

-- byte i begins in column x and holds n pixels; the digits from there on begin with them
module _ (c : Chart) (i x n : ℕ) (wide : side c.width ≡ true) (column : x ≡ i % row_bytes c.width * 8) (holds : n ≡ min (c.width - x) 8)
    (inside : i < all_bytes c) (rest : List ℕ) (d : Option Digits)
    (left : digits_in (c.width * c.height - before c.width i) rest ≡ skip (before c.width i) d) where
  enough : before c.width i + n ≤ c.width * c.height
  enough = rw holds (before_within c.width i x wide column c.height inside)

  left_next : (rest' : List ℕ) → behind_digits (digits_in n rest) ≡ some rest'
      → digits_in (c.width * c.height - before c.width (i + 1)) rest' ≡ skip (before c.width (i + 1)) d
  left_next rest' h =
      let next : before c.width (i + 1) ≡ before c.width i + n = rw holds (before_next c.width i x wide column) in
      rw next (more_left (c.width * c.height) (before c.width i) n d rest left enough rest' h)

  module _ (there : whole d ≡ true) where
    whole_next : whole (digits_in n rest) ≡ true
    whole_next = more_whole (c.width * c.height) (before c.width i) n d rest left enough there

    bit_next : (j : ℕ) → j < n → pixels_of c d (i % row_bytes c.width * 8 + j) (i / row_bytes c.width) ≡ get_or (bits_of (digits_in n rest)) j false
    bit_next j h =
        let e : i / row_bytes c.width * c.width + (i % row_bytes c.width * 8 + j) ≡ before c.width i + j
        = omega (arith, before_is c.width i x wide column) in
        ap (λ (k : ℕ). get_or (bits_of d) k false) e
        ∙ sym (more_bits (c.width * c.height) (before c.width i) n d rest left enough there j h)

    byte_next : byte_at c (pixels_of c d) i ≡ packed n (λ j. get_or (bits_of (digits_in n rest)) j false) * 2 ^ (8 - n)
    byte_next =
        let k = i % row_bytes c.width * 8 in
        byte_at_is c (pixels_of c d) i
        ∙ packed_padded 8 n (λ j. ltb (k + j) c.width && pixels_of c d (k + j) (i / row_bytes c.width)) (λ j. get_or (bits_of (digits_in n rest)) j false)
        (omega arith)
        (λ j h. rw (lt-ltb (k + j) c.width (omega arith)) (bit_next j h))
        (λ j h l. rw (le-ltb (k + j) c.width (omega arith)))

-- a turn
module _ (c : Chart) (file : List ℕ) (from : ℕ) (old : List ℕ) (bytes : ℕ) (pixels : List ℕ) (at x i : ℕ)
    (inv : Packing c file from old bytes pixels at x i) (fine : bad_sides c ≡ false) where
  wide : side c.width ≡ true
  wide = good_width (side c.width) (side c.height) fine

  pub not_past : x ≤ c.width
  not_past = le_of_lt (in_row c.width i x wide inv.column)

  pub at_column : Fits w64 (x + 8)
  at_column = column_fits c.width i x wide inv.column

  module _ (more : i < bytes) (n : ℕ) (holds : n ≡ min (c.width - x) 8) (there : whole (digits_of c file from) ≡ true) where
    inside : i < all_bytes c
    inside = rw inv.size at more

    pub some_pixels : 1 ≤ n
    some_pixels = omega (arith, in_row c.width i x wide inv.column)

    pub those_there : whole (digits_in n (drop at file)) ≡ true
    those_there = whole_next c i x n wide inv.column holds inside (drop at file) (digits_of c file from) inv.left there

    module _ (room : all_bytes c ≤ length old) (byte end : ℕ)
        (says : byte ≡ packed n (λ j. get_or (bits_of (digits_in n (drop at file))) j false) * 2 ^ (8 - n))
        (ends : behind_digits (digits_in n (drop at file)) ≡ some (drop end file)) where
      stored : (y : ℕ) → y ≡ (i + 1) % row_bytes c.width * 8 → Packing c file from old bytes (set pixels i byte) end y (i + 1)
      stored y e =
          let l : i < length old = omega (arith, inside) in
          let b : byte ≡ byte_at c (pixels_of c (digits_of c file from)) i
          = says ∙ sym (byte_next c i x n wide inv.column holds inside (drop at file) (digits_of c file from) inv.left there) in
          record {
            size = inv.size;
            within = omega arith;
            same = length-set pixels i byte ∙ inv.same;
            column = e;
            left = left_next c i x n wide inv.column holds inside (drop at file) (digits_of c file from) inv.left (drop end file) ends;
            so_far = rw (inv.so_far, b) (listed_over (byte_at c (pixels_of c (digits_of c file from))) old i l);
          }

      pub row_goes_on : x + 8 < c.width → Packing c file from old bytes (set pixels i byte) end (x + 8) (i + 1)
      row_goes_on h = stored (x + 8) (next_column c.width i x wide inv.column h)

      pub row_ends : c.width ≤ x + 8 → Packing c file from old bytes (set pixels i byte) end 0 (i + 1)
      row_ends h = stored 0 (next_row c.width i x wide inv.column h)

pub all : (c : Chart) (old : List ℕ) (bytes : ℕ) (pixels : List ℕ) (i : ℕ) (p : ℕ → ℕ → Bool) → pixels ≡ over (listed i (byte_at c p)) old
    → bytes ≡ all_bytes c → i ≤ bytes → bytes ≤ i → pixels ≡ over (chart_bytes c p) old
unfolding chart_bytes
all c old bytes pixels i p so_far size most least =
    let e : i ≡ all_bytes c = omega arith in
    so_far ∙ ap (λ (k : ℕ). over (listed k (byte_at c p)) old) e
