-- What the raster takes of a file, raw or plain, with what parts it from the header: whatever follows it, the chart's bytes are the same. Assumes
-- nothing.
use Prim.Native.Nat.{ℕ, zero, suc, ◌*◌, ◌≤◌, ◌<◌}
use mathlib.Core.Bool.{Bool, true, false, ◌||◌}
use mathlib.Core.List.{List, [], ◌∷◌, ◌++◌}
use mathlib.Core.Option.{Option, some, none, none-ne-some, some-injective}
use mathlib.Core.Path.{◌≡◌, refl, sym, ap, ◌∙◌}
use native.Mathlib.Nat.{mul-pos}
use native.Mathlib.Omega.{arith}
use lib.ListN.{length, take, drop, length-append, take-append-drop, get_or-append}
use lib.Seq.{length-take-le, drop_at}
use Rattle.chart.specs.Pixels.{row_bytes, cell, all_bytes}
use Rattle.chart.specs.declared.Chart.{Chart}
use Rattle.pbm.specs.Header.{white, line_end, hash, Header, past_line, raster_in}
use Rattle.pbm.specs.Raster.{Image, raw_in, Sign, blank, pixel, wrong, sign_of, Digits, onto, digits_in, rows_of, plain_in, image_in}
use Rattle.pbm.specs.Bytes.{chart_bytes}
use Rattle.pbm.specs.inside.Places.{has_image, image_of}
use Rattle.pbm.proofs.Bytes.{rows_alike}
use Rattle.pbm.proofs.Digits.{blank_first, pixel_first, wrong_first}
use Rattle.pbm.proofs.Images.{raw_whole, raw_enough, no_raster, image_of_raster}
use Rattle.pbm.proofs.theorems.Front.{Front, anything, at_once, longer, joined}
use Rattle.pbm.proofs.theorems.HeaderFront.{parted, headed}

-- ---- a comment with the end of its line: it has one, if anything is left behind it

-- the definition, by its test
line_ends_lem : (b : ℕ) (bs : List ℕ) → line_end b ≡ true → past_line (b ∷ bs) ≡ bs
unfolding past_line
line_ends_lem b bs e = rw (e, past_line)

line_goes_on : (b : ℕ) (bs : List ℕ) → line_end b ≡ false → past_line (b ∷ bs) ≡ past_line bs
unfolding past_line
line_goes_on b bs e = rw (e, past_line)

-- a line that ends before its list does
abbrev TakesLine : List ℕ → Type 0
TakesLine bs = 1 ≤ length (past_line bs) → Front past_line (λ o. o) anything bs (past_line bs)

-- what a comment takes
line_front : (bs : List ℕ) → TakesLine bs
line_front [] h = unfold past_line in absurd (omega arith)
line_front (b ∷ bs) h = go (line_end b) refl (line_front bs) h
  where
    go : (t : Bool) → line_end b ≡ t → TakesLine bs → TakesLine (b ∷ bs)
    go true e before h = rw (line_ends_lem b bs e) (longer _ _ b (at_once {read = λ l. l} bs (λ o k. refl)) (λ l o p. line_ends_lem b l e ∙ p))
    go false e before h =
        let k : 1 ≤ length (past_line bs) = rw (line_goes_on b bs e) at h in
        rw (line_goes_on b bs e) (longer _ _ b (before k) (λ l o p. line_goes_on b l e ∙ p))

-- ---- what parts the header from the raster

-- the definition, by its tests
white_parts : (b : ℕ) (bs : List ℕ) → white b ≡ true → raster_in (b ∷ bs) ≡ some bs
unfolding raster_in
white_parts b bs e = rw (e, raster_in)

comment_parts : (b : ℕ) (bs : List ℕ) → white b ≡ false → hash b ≡ true → raster_in (b ∷ bs) ≡ some (past_line bs)
unfolding raster_in
comment_parts b bs e f = rw (e, raster_in, f)

-- what it takes, where a raster is left
raster_front : (bs raster : List ℕ) → raster_in bs ≡ some raster → 1 ≤ length raster → Front raster_in some anything bs raster
unfolding raster_in
raster_front [] raster is some_left = absurd (none-ne-some raster is)
raster_front (b ∷ bs) raster is some_left = go (white b) refl (hash b) refl
  where
    go : (w : Bool) → white b ≡ w → (s : Bool) → hash b ≡ s → Front raster_in some anything (b ∷ bs) raster
    go true e s f =
        let same : bs ≡ raster = some-injective _ _ (sym (white_parts b bs e) ∙ is) in
        rw (← same) (longer _ _ b (at_once {read = some} bs (λ o h. refl)) (λ l o p. white_parts b l e ∙ p))
    go false e true f =
        let same : past_line bs ≡ raster = some-injective _ _ (sym (comment_parts b bs e f) ∙ is) in
        rw (← same) (longer _ _ b (line_front bs (rw same some_left)) (λ l o p. comment_parts b l e f ∙ ap some p))
    go false e false f = absurd (none-ne-some raster (rw (e, raster_in, f) at is))

-- it fits behind a size
raster_is_parted : (bs raster : List ℕ) → raster_in bs ≡ some raster → parted bs ≡ true
unfolding raster_in
raster_is_parted [] raster is = absurd (none-ne-some raster is)
raster_is_parted (b ∷ bs) raster is = go (white b) refl (hash b) refl
  where
    go : (w : Bool) → white b ≡ w → (s : Bool) → hash b ≡ s → (w || s) ≡ true
    go true e s f = refl
    go false e true f = refl
    go false e false f = absurd (none-ne-some raster (rw (e, raster_in, f) at is))

-- ---- the digits of a plain raster

-- the same pixels with another list left behind them
abbrev leaving : Digits → List ℕ → Digits
leaving d o = record { bits = d.bits; rest = o }

-- n pixels, wherever they are there
abbrev TakesPixels : ℕ → List ℕ → Type 0
TakesPixels n bs = (d : Digits) → digits_in n bs ≡ some d → Front (digits_in n) (λ o. some (leaving d o)) anything bs d.rest

-- what n pixels take
digits_front : (n : ℕ) (bs : List ℕ) → TakesPixels n bs
unfolding digits_in
digits_front zero bs d is =
    let same : record { bits = []; rest = bs } ≡ d = some-injective _ _ is in
    rw (← same) (at_once bs (λ o h. refl))
digits_front (suc n) [] d is = absurd (none-ne-some d is)
digits_front (suc n) (b ∷ bs) d is = by_sign (sign_of b) refl (digits_front (suc n) bs) (digits_front n bs)
  where
    a_pixel : (set : Bool) → sign_of b ≡ pixel set → TakesPixels n bs → (o : Option Digits) → digits_in n bs ≡ o
        → Front (digits_in (suc n)) (λ o. some (leaving d o)) anything (b ∷ bs) d.rest
    a_pixel set e fewer o f = by_rest o f (ap (onto set) (sym f) ∙ sym (pixel_first n b bs set e) ∙ is)
      where
        by_rest : (o : Option Digits) → digits_in n bs ≡ o → onto set o ≡ some d
            → Front (digits_in (suc n)) (λ o. some (leaving d o)) anything (b ∷ bs) d.rest
        by_rest none f k = absurd (none-ne-some d k)
        by_rest (some r) f k =
            let same : record { bits = set ∷ r.bits; rest = r.rest } ≡ d = some-injective _ _ k in
            rw (← same) (longer _ _ b (fewer r f) (λ l o p. pixel_first n b l set e ∙ ap (onto set) p))

    by_sign : (s : Sign) → sign_of b ≡ s → TakesPixels (suc n) bs → TakesPixels n bs
        → Front (digits_in (suc n)) (λ o. some (leaving d o)) anything (b ∷ bs) d.rest
    by_sign blank e as_many fewer = longer _ _ b (as_many d (sym (blank_first n b bs e) ∙ is)) (λ l o p. blank_first n b l e ∙ p)
    by_sign (pixel set) e as_many fewer = a_pixel set e fewer (digits_in n bs) refl
    by_sign wrong e as_many fewer = absurd (none-ne-some d (sym (wrong_first n b bs e) ∙ is))

-- ---- an image, by what shows of it in a chart: its bytes, and what is left behind it

pub record Seen : Type 0 where
  pub bytes : List ℕ
  pub rest : List ℕ

abbrev pub seen : Chart → Option Image → Option Seen
seen c none = none
seen c (some image) = some (record { bytes = chart_bytes c image.set; rest = image.rest })

-- the same image with another list left behind it
abbrev pub showing : Chart → Image → List ℕ → Option Seen
showing c image o = some (record { bytes = chart_bytes c image.set; rest = o })

module _ (c : Chart) where
  -- ---- plain

  -- the definition, where the digits are there
  plain_is : (bs : List ℕ) (d : Digits) → digits_in (c.width * c.height) bs ≡ some d → plain_in c bs ≡ some (rows_of c d)
  unfolding plain_in
  plain_is bs d e = rw (e, plain_in)

  -- what a plain raster takes
  plain_front : (bs : List ℕ) (image : Image) → plain_in c bs ≡ some image → Front (λ l. seen c (plain_in c l)) (showing c image) anything bs image.rest
  unfolding plain_in
  plain_front bs image is = go (digits_in (c.width * c.height) bs) refl
    where
      go : (o : Option Digits) → digits_in (c.width * c.height) bs ≡ o → Front (λ l. seen c (plain_in c l)) (showing c image) anything bs image.rest
      go none e = absurd (none-ne-some image (rw (e, plain_in) at is))
      go (some d) e =
          let same : rows_of c d ≡ image = some-injective _ _ (sym (plain_is bs d e) ∙ is) in
          let f = digits_front (c.width * c.height) bs d e in
          rw (← same) (record { front = f.front; whole = f.whole; again = λ o h. ap (seen c) (plain_is (f.front ++ o) (leaving d o) (f.again o h)) })

  -- ---- raw

  abbrev size : ℕ
  size = all_bytes c

  -- the bytes of all rows say every pixel of the chart
  rows_are_enough : (rows a b : List ℕ) → size ≤ length rows → chart_bytes c (cell c (rows ++ a)) ≡ chart_bytes c (cell c (rows ++ b))
  rows_are_enough rows a b enough =
      rows_alike c (rows ++ a) (rows ++ b)
      (λ i h. let l : i < length rows = omega arith in get_or-append rows a 0 i l ∙ sym (get_or-append rows b 0 i l))

  -- what a raw raster takes
  raw_front : (bs : List ℕ) (image : Image) → raw_in c bs ≡ some image → Front (λ l. seen c (raw_in c l)) (showing c image) anything bs image.rest
  raw_front bs image is =
      let enough = raw_enough c bs (ap has_image is) in
      let same : record { set = cell c bs; rest = drop size bs } ≡ image = some-injective _ _ (sym (raw_whole c bs enough) ∙ is) in
      let rows = take size bs in
      let long : length rows ≡ size = length-take-le size bs enough in
      let still : (o : List ℕ) → size ≤ length (rows ++ o) = λ o. omega (arith, length-append rows o) in
      let alike : (o : List ℕ) → chart_bytes c (cell c (rows ++ o)) ≡ chart_bytes c (cell c bs)
      = λ o. rows_are_enough rows o (drop size bs) (omega arith) ∙ ap (λ (l : List ℕ). chart_bytes c (cell c l)) (take-append-drop size bs) in
      rw (← same) (record {
        front = rows;
        whole = take-append-drop size bs;
        again = λ o h. rw (raw_whole c (rows ++ o) (still o), alike o, drop_at rows o size long);
      })

  -- ---- either

  -- what a raster takes
  pixels_front : (plain : Bool) (bs : List ℕ) (image : Image) → image_of plain c bs ≡ some image
      → Front (λ l. seen c (image_of plain c l)) (showing c image) anything bs image.rest
  pixels_front true = plain_front
  pixels_front false = raw_front

  -- a chart with a pixel is not read of nothing
  something_is_read : (plain : Bool) (bs : List ℕ) (image : Image) → image_of plain c bs ≡ some image → 1 ≤ c.width → 1 ≤ c.height → 1 ≤ length bs
  unfolding plain_in row_bytes
  something_is_read true [] image is wide high = go (c.width * c.height) refl
    where
      go : (n : ℕ) → c.width * c.height ≡ n → 1 ≤ 0
      go zero e = omega (arith, mul-pos wide high)
      go (suc n) e = absurd (none-ne-some image (rw (e, plain_in) at is))
  something_is_read true (b ∷ bs) image is wide high = omega arith
  something_is_read false bs image is wide high =
      let row : 1 ≤ row_bytes c.width = omega arith in
      omega (arith, raw_enough c bs (ap has_image is), mul-pos row high)

-- ---- behind a header

module _ (h : Header) where
  -- an image stands behind white space or a comment
  pub image_is_parted : (l : List ℕ) (s : Seen) → seen h.chart (image_in (headed h l)) ≡ some s → parted l ≡ true
  image_is_parted l s is = go (raster_in l) refl
    where
      go : (o : Option (List ℕ)) → raster_in l ≡ o → parted l ≡ true
      go none e = absurd (none-ne-some s (ap (seen h.chart) (sym (no_raster (headed h l) e)) ∙ is))
      go (some raster) e = raster_is_parted l raster e

  -- what an image takes, with what parts it from the header
  pub image_front : (image : Image) → image_in h ≡ some image → 1 ≤ h.chart.width → 1 ≤ h.chart.height
      → Front (λ l. seen h.chart (image_in (headed h l))) (showing h.chart image) anything h.rest image.rest
  image_front image is wide high = go (raster_in h.rest) refl
    where
      go : (o : Option (List ℕ)) → raster_in h.rest ≡ o
          → Front (λ l. seen h.chart (image_in (headed h l))) (showing h.chart image) anything h.rest image.rest
      go none e = absurd (none-ne-some image (sym (no_raster h e) ∙ is))
      go (some raster) e =
          let pixels : image_of h.plain h.chart raster ≡ some image = sym (image_of_raster h raster e) ∙ is in
          let parts = raster_front h.rest raster e (something_is_read h.chart h.plain raster image pixels wide high) in
          joined _ _ parts (pixels_front h.chart h.plain raster image pixels)
          (λ m o p. refl)
          (λ l m o p q. ap (seen h.chart) (image_of_raster (headed h l) m p) ∙ q)
