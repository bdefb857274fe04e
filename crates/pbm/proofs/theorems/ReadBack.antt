-- A chart that was written as a picture, raw or plain, is read back, whatever follows the picture. Assumes nothing.
use Prim.Native.Nat.{ℕ, ◌-◌, ◌≤◌, ◌<◌}
use mathlib.Core.Bool.{Bool, false}
use mathlib.Core.List.{List, ◌∷◌, ◌++◌, append_assoc}
use mathlib.Core.Option.{some}
use mathlib.Core.Path.{◌≡◌, refl, sym, ap, ◌∙◌}
use native.Mathlib.Omega.{arith}
use lib.ListN.{length, length-append}
use Rattle.laws.specs.Lists.{over}
use Rattle.chart.specs.Pixels.{all_bytes, bad_sides}
use Rattle.chart.specs.declared.Chart.{Chart}
use Rattle.chart.proofs.Sizes.{width_within, height_within}
use Rattle.pbm.specs.Header.{Header, header_in}
use Rattle.pbm.specs.Raster.{Image, image_in}
use Rattle.pbm.specs.Bytes.{chart_bytes}
use Rattle.pbm.specs.Read.{was_read, read_of}
use Rattle.pbm.specs.Write.{head_text}
use Rattle.pbm.proofs.Bytes.{cell_append, chart_bytes_same}
use Rattle.pbm.proofs.theorems.HeadRead.{sizes_text, raw_read, plain_read}
use Rattle.pbm.proofs.theorems.Rasters.{digits, raw_image, plain_image, digit_image_same}
use Rattle.pbm.proofs.Outcomes.{room}
use Rattle.pbm.proofs.theorems.Told.{read_is}

module _ (c : Chart) (set : ℕ → ℕ → Bool) (buffer : List ℕ) (fine : bad_sides c ≡ false)
    (enough : all_bytes c ≤ length buffer) (more : List ℕ) where
  -- only the pixels within the chart count
  by_image : (text : List ℕ) (h : Header) (image : Image) → header_in (text ++ more) ≡ some h → h.chart ≡ c → image_in h ≡ some image → image.rest ≡ more →
      ((x y : ℕ) → x < c.width → y < c.height → image.set x y ≡ set x y) →
      read_of (text ++ more) buffer ≡ record { answer = was_read c (length text); out = over (chart_bytes c set) buffer }
  by_image text h image head chart whole behind same =
      let count : length (text ++ more) - length more ≡ length text = omega (arith, length-append text more) in
      let bytes : chart_bytes c image.set ≡ chart_bytes c set = chart_bytes_same c image.set set same in
      read_is (text ++ more) h image buffer head (rw (chart, fine)) whole
      ∙ sym (room (text ++ more) buffer h.chart image (rw chart enough))
      ∙ rw (chart, behind, count, bytes)

  pub raw_back : read_of (head_text c ++ chart_bytes c set ++ more) buffer
      ≡ record { answer = was_read c (length (head_text c ++ chart_bytes c set)); out = over (chart_bytes c set) buffer }
  raw_back =
      let raster = chart_bytes c set ++ more in
      let head = ap header_in (append_assoc (head_text c) (chart_bytes c set) more) ∙ raw_read c (width_within c fine).1 (height_within c fine).1 raster in
      by_image (head_text c ++ chart_bytes c set) _ _ head refl (raw_image c set more) refl (λ x y column row. cell_append c set x y row more column)

  pub plain_back : read_of (80 ∷ 49 ∷ sizes_text c ++ digits c set ++ more) buffer
      ≡ record { answer = was_read c (length (80 ∷ 49 ∷ sizes_text c ++ digits c set)); out = over (chart_bytes c set) buffer }
  plain_back =
      let raster = digits c set ++ more in
      let head = ap header_in (append_assoc (80 ∷ 49 ∷ sizes_text c) (digits c set) more) ∙ plain_read c (width_within c fine).1 (height_within c fine).1 raster in
      by_image (80 ∷ 49 ∷ sizes_text c ++ digits c set) _ _ head refl (plain_image c set more) refl (digit_image_same c set more)
