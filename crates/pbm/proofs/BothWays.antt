-- Document 02, 1/13, beyond what one call answers: what was written is read back, what was read is written back, padding is 0, bytes behind an
-- image change nothing, and plain and raw pictures are read alike. These are theorems about the definitions of specs/, which the promises of
-- `read_pbm` and `write_pbm` cite. Assumes nothing.
use Prim.Native.Nat.{ℕ, ◌+◌, ◌*◌, ◌/◌, ◌%◌, ◌≤◌, ◌<◌}
use mathlib.Core.Bool.{false}
use mathlib.Core.List.{List, [], ◌∷◌, ◌++◌, append-nil}
use mathlib.Core.Option.{some}
use mathlib.Core.Path.{◌≡◌, refl, sym, ap, ◌∙◌}
use lib.ListN.{length, take, drop}
use lib.Seq.{drop-append_seam}
use Rattle.laws.specs.Lists.{over}
use Rattle.laws.proofs.Lists.{take_over_all}
use Rattle.std.specs.Prelude.{Ok}
use Rattle.chart.specs.Pixels.{row_bytes, cell, one, bad_chart, all_bytes}
use Rattle.chart.specs.declared.Chart.{Chart}
use Rattle.texts.specs.Text.{natural_text}
use Rattle.pbm.specs.Header.{Header, header_in}
use Rattle.pbm.specs.Raster.{Image, image_in}
use Rattle.pbm.specs.Bytes.{listed, chart_bytes}
use Rattle.pbm.specs.Read.{Reading, was_read, read_of}
use Rattle.pbm.specs.Write.{head_text, picture_text, written_of}
use Rattle.pbm.proofs.Bytes.{cell_over, padding_over, padding_chart, chart_bytes_again}
use Rattle.pbm.proofs.theorems.ReadBack.{raw_back, plain_back}
use Rattle.pbm.proofs.Images.{good_parts}
use Rattle.pbm.proofs.theorems.ReadInto.{read_into, read_good}
use Rattle.pbm.proofs.theorems.Alike.{ReadAlike, both_there, read_alike}
use Rattle.pbm.proofs.theorems.Behind.{nothing_behind_matters}
use Rattle.pbm.proofs.theorems.CutShort.{Refuses, cut_short_is_refused}
use Rattle.pbm.proofs.theorems.Spaces.{inked, spaces_alike}
use Rattle.pbm.proofs.theorems.Written.{written_done, written_same}

-- a chart's pixels with their padding cleared, over the start of a buffer
abbrev pub cleared : Chart → List ℕ → List ℕ → List ℕ
cleared c pixels buffer = over (chart_bytes c (cell c pixels)) buffer

-- a chart as a plain picture: `P1`, newline, width, space, height, newline, and a digit for each pixel, row by row
abbrev pub plain_head : Chart → List ℕ
plain_head c = 80 ∷ 49 ∷ 10 ∷ natural_text c.width ++ (32 ∷ natural_text c.height) ++ (10 ∷ [])

abbrev pub plain_text : Chart → List ℕ → List ℕ
plain_text c pixels = plain_head c ++ listed (c.width * c.height) (λ i. 48 + one (cell c pixels (i % c.width) (i / c.width)))

-- it is written as it was
cleared_again : (c : Chart) (pixels buffer : List ℕ) → picture_text c (cleared c pixels buffer) ≡ picture_text c pixels
unfolding picture_text
cleared_again c pixels buffer = ap (λ (bytes : List ℕ). head_text c ++ bytes) (chart_bytes_again c (cell c pixels) buffer)

-- ---- "reading back what we write gives the same chart with padding cleared"

-- a chart that is not refused as bad, and a buffer with room for it
module _ (c : Chart) (pixels buffer : List ℕ) (fine : bad_chart c pixels ≡ false) (room : all_bytes c ≤ length buffer) where
  -- whatever follows the picture: it is not taken
  pub reading_what_was_written : (more : List ℕ) → read_of (picture_text c pixels ++ more) buffer
      ≡ record { answer = was_read c (length (picture_text c pixels)); out = cleared c pixels buffer }
  unfolding picture_text
  reading_what_was_written more = let p = good_parts c pixels fine in raw_back c (cell c pixels) buffer p.0 room more

  -- and where nothing follows
  alone : read_of (picture_text c pixels) buffer ≡ record { answer = was_read c (length (picture_text c pixels)); out = cleared c pixels buffer }
  alone = ap (λ (file : List ℕ). read_of file buffer) (sym (append-nil (picture_text c pixels))) ∙ reading_what_was_written []

  -- "the same chart", pixel by pixel
  pub the_same_pixels : (x y : ℕ) → x < c.width → y < c.height → cell c (read_of (picture_text c pixels) buffer).out x y ≡ cell c pixels x y
  the_same_pixels x y column row = rw alone (cell_over c (cell c pixels) x y row buffer column)

  -- a file that we wrote, read and written again, is that file
  pub writing_what_was_read : picture_text c (read_of (picture_text c pixels) buffer).out ≡ picture_text c pixels
  writing_what_was_read = ap (λ (o : Reading). picture_text c o.out) alone ∙ cleared_again c pixels buffer

  -- and so `write_pbm` answers as it did, and puts the same into its output, whatever room it has
  pub writing_once_more : (out : List ℕ) → written_of c (read_of (picture_text c pixels) buffer).out out ≡ written_of c pixels out
  writing_once_more out =
      let good = read_good c buffer _ (read_into (picture_text c pixels) buffer c _ (ap (λ (o : Reading). o.answer) alone)) in
      written_same c _ out pixels good fine writing_what_was_read

-- all that `write_pbm` put into its output is read back, and every byte of it is taken
pub reading_the_output : (c : Chart) (pixels out buffer : List ℕ) (n : ℕ) → (written_of c pixels out).answer ≡ Ok n →
    all_bytes c ≤ length buffer →
    read_of (take n (written_of c pixels out).out) buffer ≡ record { answer = was_read c n; out = cleared c pixels buffer }
reading_the_output c pixels out buffer n done room =
    let w = written_done c pixels out n done in
    let text : take n (written_of c pixels out).out ≡ picture_text c pixels = rw (w.1, w.2) (take_over_all (picture_text c pixels) out) in
    rw (text, w.1) (alone c pixels buffer w.0 room)

-- ---- what was read, of any file, plain or raw

module _ (file buffer : List ℕ) (c : Chart) (n : ℕ) (read : (read_of file buffer).answer ≡ was_read c n) where
  -- is a chart that no call refuses as bad
  pub what_was_read_is_good : bad_chart c (read_of file buffer).out ≡ false
  what_was_read_is_good = read_good c buffer (read_of file buffer).out (read_into file buffer c n read)

  -- "Reader and writer set padding to 0": past the last column of a row, to the end of its last byte
  pub padding_is_0 : (x y : ℕ) → c.width ≤ x → x < row_bytes c.width * 8 → y < c.height → cell c (read_of file buffer).out x y ≡ false
  padding_is_0 x y past within row =
      let r = read_into file buffer c n read in
      rw r.lies (padding_over c r.set x y row buffer past within)

  -- "Bytes after the first image are left unread": whatever follows those that were counted, all is the same
  pub what_follows_changes_nothing : (more : List ℕ) → read_of (take n file ++ more) buffer ≡ read_of file buffer
  what_follows_changes_nothing more = nothing_behind_matters file more buffer c n read

  -- and all that were counted are needed: a file that ends before the last of them is refused
  pub cut_off_is_refused : (k : ℕ) → k < n → Refuses (take k file) buffer
  cut_off_is_refused k short = cut_short_is_refused file buffer c n read k short

  -- written, and read again: the same bytes
  pub reading_once_more : (read_of (picture_text c (read_of file buffer).out) buffer).out ≡ (read_of file buffer).out
  reading_once_more =
      let pixels = (read_of file buffer).out in
      let r = read_into file buffer c n read in
      let same : chart_bytes c (cell c pixels) ≡ chart_bytes c r.set = rw r.lies (chart_bytes_again c r.set buffer) in
      ap (λ (o : Reading). o.out) (alone c pixels buffer what_was_read_is_good r.room)
      ∙ ap (λ (bytes : List ℕ). over bytes buffer) same
      ∙ sym r.lies

-- the same in what was written, behind the header
pub written_padding_is_0 : (c : Chart) (pixels : List ℕ) (x y : ℕ) → c.width ≤ x → x < row_bytes c.width * 8 → y < c.height →
    cell c (drop (length (head_text c)) (picture_text c pixels)) x y ≡ false
unfolding picture_text
written_padding_is_0 c pixels x y past within row =
    rw (drop-append_seam (head_text c) (chart_bytes c (cell c pixels))) (padding_chart c (cell c pixels) x y row past within)

-- ---- plain and raw alike

-- Any two files with the same sizes and the same pixels, of either kind each, give the same chart or the same refusal, and the same pixels.
pub the_same_picture : (file file' buffer : List ℕ) (h h' : Header) (image image' : Image) → header_in file ≡ some h → header_in file' ≡ some h' →
    image_in h ≡ some image → image_in h' ≡ some image' → h.chart ≡ h'.chart →
    ((x y : ℕ) → x < h.chart.width → y < h.chart.height → image.set x y ≡ image'.set x y) → ReadAlike (read_of file buffer) (read_of file' buffer)
the_same_picture file file' buffer h h' image image' head head' whole whole' chart same =
    read_alike file file' buffer h h' chart (rw (whole, whole') (both_there image image' same)) head head'

module _ (c : Chart) (pixels buffer : List ℕ) (fine : bad_chart c pixels ≡ false) (room : all_bytes c ≤ length buffer) where
  -- the plain picture of a chart, whatever follows it
  pub reading_a_plain_picture : (more : List ℕ) → read_of (plain_text c pixels ++ more) buffer
      ≡ record { answer = was_read c (length (plain_text c pixels)); out = cleared c pixels buffer }
  reading_a_plain_picture more = let p = good_parts c pixels fine in plain_back c (cell c pixels) buffer p.0 room more

  -- and the raw one
  pub plain_and_raw_alike : (more more' : List ℕ) → ReadAlike (read_of (plain_text c pixels ++ more) buffer) (read_of (picture_text c pixels ++ more') buffer)
  plain_and_raw_alike more more' =
      rw (reading_a_plain_picture more, reading_what_was_written c pixels buffer fine room more') (record { answers = refl; buffers = refl })

-- "Plain digits may stand without spaces between them": a plain raster, and its bytes that are no white space, are read alike.
pub spaces_say_nothing : (c : Chart) (raster buffer : List ℕ) → c.width ≤ 512 → c.height ≤ 512 →
    ReadAlike (read_of (plain_head c ++ raster) buffer) (read_of (plain_head c ++ inked raster) buffer)
spaces_say_nothing c raster buffer wide high = spaces_alike c wide high raster buffer
