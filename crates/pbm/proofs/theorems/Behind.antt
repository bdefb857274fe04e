-- What follows an image changes nothing of the answer: of a file that is read, only the bytes that were taken count. Assumes nothing.
use Prim.Native.Nat.{ℕ, ◌-◌, ◌≤◌}
use mathlib.Core.Bool.{Bool, true, false}
use mathlib.Core.List.{List, ◌++◌, append_assoc}
use mathlib.Core.Option.{Option, some, none, none-ne-some}
use mathlib.Core.Path.{◌≡◌, refl, sym, ap, ◌∙◌}
use native.Mathlib.Omega.{arith}
use lib.Dec.{ltb}
use lib.ListN.{length, take, drop, length-append, take-append-drop}
use lib.Seq.{take_at}
use Rattle.chart.specs.Pixels.{all_bytes}
use Rattle.chart.specs.declared.Chart.{Chart}
use Rattle.chart.proofs.Sizes.{width_within, height_within}
use Rattle.pbm.specs.Header.{header_in}
use Rattle.pbm.specs.Raster.{Image, image_in}
use Rattle.pbm.specs.Bytes.{chart_bytes}
use Rattle.pbm.specs.Read.{was_read, laid, read_of}
use Rattle.pbm.proofs.theorems.Front.{Front, anything}
use Rattle.pbm.proofs.theorems.HeaderFront.{parted, headed, header_front}
use Rattle.pbm.proofs.theorems.ImageFront.{Seen, seen, showing, image_front, image_is_parted}
use Rattle.pbm.proofs.theorems.Told.{ImageFound, read_is, image_found}

-- ---- an image that is seen, taken out

-- the image that shows so
record Sight (c : Chart) (o : Option Image) (s : Seen) : Type 0 where
  pub image : Image
  pub is : o ≡ some image
  pub bytes : chart_bytes c image.set ≡ s.bytes
  pub rest : image.rest ≡ s.rest

-- there is one
sight : (c : Chart) (o : Option Image) (s : Seen) → seen c o ≡ some s → Sight c o s
sight c none s e = absurd (none-ne-some s e)
sight c (some image) s e = record { image = image; is = refl; bytes = cc; rest = cc }

-- it is laid as another one that gives the same bytes and takes as many
laid_alike : (file file' : List ℕ) (c : Chart) (image image' : Image) (pixels : List ℕ) → chart_bytes c image.set ≡ chart_bytes c image'.set
    → length file - length image.rest ≡ length file' - length image'.rest → laid file c image pixels ≡ laid file' c image' pixels
unfolding laid
laid_alike file file' c image image' pixels p q = go (ltb (length pixels) (all_bytes c)) refl
  where
    go : (t : Bool) → ltb (length pixels) (all_bytes c) ≡ t → laid file c image pixels ≡ laid file' c image' pixels
    go true e = rw (e, laid)
    go false e = rw (e, laid, p, q)

-- ---- what an image takes of its file: the header, what parts, and the raster

module _ (file : List ℕ) (n : ℕ) (f : ImageFound file n) where
  -- its chart
  abbrev c : Chart
  c = f.header.chart

  -- what the header takes
  header_part : Front header_in (λ o. some (headed f.header o)) parted file f.header.rest
  header_part = header_front file f.header f.begun

  -- and behind it what the image does
  image_part : Front (λ l. seen c (image_in (headed f.header l))) (showing c f.image) anything f.header.rest f.image.rest
  image_part =
      image_front f.header f.image f.ended
      (width_within c f.sized).0 (height_within c f.sized).0

  -- both
  taken : List ℕ
  taken = header_part.front ++ image_part.front

  -- and the rest
  file_is : taken ++ f.image.rest ≡ file
  unfolding taken
  file_is =
      append_assoc header_part.front image_part.front f.image.rest
      ∙ ap (λ (l : List ℕ). header_part.front ++ l) image_part.whole
      ∙ header_part.whole

  -- so many bytes as were counted
  taken_length : length taken ≡ n
  taken_length = omega (arith, f.counted, length-append taken f.image.rest, ap length file_is)

  -- those at the start of the file
  taken_are_the_first : take n file ≡ taken
  taken_are_the_first = ap (take n) (sym file_is) ∙ take_at taken f.image.rest n taken_length

  -- with something else behind them
  module _ (more : List ℕ) where
    -- what follows the header then
    abbrev raster : List ℕ
    raster = image_part.front ++ more

    -- the image gives the same bytes
    same_image : Sight c (image_in (headed f.header raster)) (record { bytes = chart_bytes c f.image.set; rest = more })
    same_image = sight c _ _ (image_part.again more refl)

    -- the header is the same
    same_header : header_in (taken ++ more) ≡ some (headed f.header raster)
    unfolding taken
    same_header =
        ap header_in (append_assoc header_part.front image_part.front more)
        ∙ header_part.again raster (image_is_parted f.header raster _ (image_part.again more refl))

    -- the image takes as many
    same_count : length (taken ++ more) - length same_image.image.rest ≡ length file - length f.image.rest
    same_count = omega (arith, length-append taken more, ap length same_image.rest, f.counted, taken_length)

    -- so the answer is the same, and the buffer
    same_outcome : (pixels : List ℕ) → read_of (taken ++ more) pixels ≡ read_of file pixels
    same_outcome pixels =
        read_is (taken ++ more) (headed f.header raster) same_image.image pixels same_header f.sized same_image.is
        ∙ laid_alike (taken ++ more) file c same_image.image f.image pixels same_image.bytes same_count
        ∙ sym (read_is file f.header f.image pixels f.begun f.sized f.ended)

-- ---- a file of which an image was read

-- no more bytes are counted than there are
pub taken_at_most : (file pixels : List ℕ) (c : Chart) (n : ℕ) → (read_of file pixels).answer ≡ was_read c n → n ≤ length file
taken_at_most file pixels c n read = omega (arith, (image_found file pixels c n read).counted)

-- those that are counted say all, whatever stands behind them
pub nothing_behind_matters : (file more pixels : List ℕ) (c : Chart) (n : ℕ) → (read_of file pixels).answer ≡ was_read c n
    → read_of (take n file ++ more) pixels ≡ read_of file pixels
nothing_behind_matters file more pixels c n read =
    let f = image_found file pixels c n read in
    rw (taken_are_the_first file n f) (same_outcome file n f more pixels)

-- so more may follow the file
pub nothing_more_matters : (file more pixels : List ℕ) (c : Chart) (n : ℕ) → (read_of file pixels).answer ≡ was_read c n
    → read_of (file ++ more) pixels ≡ read_of file pixels
nothing_more_matters file more pixels c n read =
    let parts : file ++ more ≡ take n file ++ (drop n file ++ more)
    = ap (λ (l : List ℕ). l ++ more) (sym (take-append-drop n file)) ∙ append_assoc (take n file) (drop n file) more in
    rw parts (nothing_behind_matters file (drop n file ++ more) pixels c n read)
