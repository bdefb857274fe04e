-- A raster that was written is read back, raw or plain, whatever follows it: the image within the chart is the one that was written. Assumes nothing.
use Prim.Native.Nat.{ℕ, suc, ◌+◌, ◌*◌, ◌/◌, ◌%◌, ◌≤◌, ◌<◌}
use mathlib.Core.Bool.{Bool, true, false, ◌||◌}
use mathlib.Core.List.{List, [], ◌∷◌, ◌++◌, map}
use mathlib.Core.Option.{some}
use mathlib.Core.Path.{◌≡◌, refl, ap, ap₂, ◌∙◌}
use native.Mathlib.Omega.{arith}
use lib.Dec.{eqb}
use lib.ListN.{length, get_or, drop, length-append, get_or-map}
use lib.Seq.{drop_at}
use Rattle.chart.specs.Pixels.{cell, one, all_bytes}
use Rattle.chart.specs.declared.Chart.{Chart}
use Rattle.pbm.specs.Header.{white, raster_in}
use Rattle.pbm.specs.Raster.{Image, onto, digits_in, rows_of, plain_in, image_in}
use Rattle.pbm.specs.Bytes.{listed, chart_bytes}
use Rattle.pbm.proofs.RowByRow.{place_column, place_row, place_below}
use Rattle.pbm.proofs.Bytes.{length_chart_bytes, length_listed, listed_at}
use Rattle.pbm.proofs.Digits.{zero_or_one, pixel_first}
use Rattle.pbm.proofs.Images.{raw_whole, image_of_raster}

-- the raster begins behind one newline
line_passed : (raster : List ℕ) → raster_in (10 ∷ raster) ≡ some raster
unfolding raster_in white
line_passed raster = refl

-- ---- raw: a chart's bytes

module _ (c : Chart) (set : ℕ → ℕ → Bool) (more : List ℕ) where
  enough : all_bytes c ≤ length (chart_bytes c set ++ more)
  enough = omega (arith, length_chart_bytes c set, length-append (chart_bytes c set) more)

  pub raw_image : image_in (record { plain = false; chart = c; rest = 10 ∷ (chart_bytes c set ++ more) })
      ≡ some (record { set = cell c (chart_bytes c set ++ more); rest = more })
  raw_image =
      let raster = chart_bytes c set ++ more in
      let behind : drop (all_bytes c) raster ≡ more = drop_at (chart_bytes c set) more _ (length_chart_bytes c set) in
      image_of_raster _ raster (line_passed raster) ∙ raw_whole c raster enough ∙ rw behind

-- ---- plain: a digit for each pixel

abbrev is_one : ℕ → Bool
is_one d = eqb d 49

digit_back : (t : Bool) → is_one (48 + one t) ≡ t
digit_back true = refl
digit_back false = refl

zero_or_one_digit : (t : Bool) → (eqb (48 + one t) 48 || eqb (48 + one t) 49) ≡ true
zero_or_one_digit true = refl
zero_or_one_digit false = refl

-- digits without anything between them
digits_back : (digits more : List ℕ) (f : ℕ → Bool) → ((i : ℕ) → i < length digits → get_or digits i 0 ≡ 48 + one (f i)) →
    digits_in (length digits) (digits ++ more) ≡ some (record { bits = map is_one digits; rest = more })
unfolding digits_in
digits_back [] more f all = refl
digits_back (d ∷ digits) more f all =
    let first : d ≡ 48 + one (f 0) = all 0 (omega arith) in
    let later = digits_back digits more (λ i. f (suc i)) (λ i h. all (suc i) (omega arith)) in
    pixel_first (length digits) d (digits ++ more) (is_one d) (zero_or_one d (rw first (zero_or_one_digit (f 0)))) ∙ ap (onto (is_one d)) later

-- row by row
module _ (c : Chart) (set : ℕ → ℕ → Bool) where
  abbrev there : ℕ → Bool
  there i = set (i % c.width) (i / c.width)

  abbrev pub digits : List ℕ
  digits = listed (c.width * c.height) (λ i. 48 + one (there i))

  digit_at : (i : ℕ) → i < c.width * c.height → get_or digits i 0 ≡ 48 + one (there i)
  digit_at i h = listed_at (c.width * c.height) (λ i. 48 + one (there i)) i h

  many : length digits ≡ c.width * c.height
  many = length_listed (c.width * c.height) (λ i. 48 + one (there i))

  -- what the reader makes of them
  abbrev digit_image : List ℕ → Image
  digit_image more = rows_of c (record { bits = map is_one digits; rest = more })

  pub plain_image : (more : List ℕ) → image_in (record { plain = true; chart = c; rest = 10 ∷ (digits ++ more) }) ≡ some (digit_image more)
  unfolding plain_in
  plain_image more =
      let raster = digits ++ more in
      let read = digits_back digits more there (λ i h. digit_at i (omega (arith, many))) in
      image_of_raster _ raster (line_passed raster) ∙ rw (rw many at read, plain_in)

  pub digit_image_same : (more : List ℕ) (x y : ℕ) → x < c.width → y < c.height → (digit_image more).set x y ≡ set x y
  digit_image_same more x y column row =
      let i = y * c.width + x in
      get_or-map is_one digits i 0
      ∙ ap is_one (digit_at i (place_below c.width x y column c.height row))
      ∙ digit_back (there i)
      ∙ ap₂ set (place_column c.width x y column) (place_row c.width x y column)
