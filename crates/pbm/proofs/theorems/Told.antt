-- What comes of a file: a refusal, which leaves the buffer as lent, or an image, which is laid over its start. Assumes nothing.
use Prim.Native.Nat.{ℕ, ◌-◌, ◌≤◌}
use mathlib.Core.Bool.{Bool, true, false}
use mathlib.Core.List.{List}
use mathlib.Core.Option.{Option, some, none}
use mathlib.Core.Path.{◌≡◌, refl, sym, ap, subst, ◌∙◌}
use lib.Dec.{ltb}
use lib.ListN.{length}
use borrow.Author.Tests.{ltb-true, ltb-false}
use Rattle.laws.specs.Lists.{over}
use Rattle.point.specs.declared.refusal.Refusal.{Refusal}
use Rattle.point.specs.declared.refusal.Refusal.TheVariants.{BadSize, NoRoom, BadPicture}
use Rattle.chart.specs.Pixels.{all_bytes, bad_sides}
use Rattle.chart.specs.declared.Chart.{Chart}
use Rattle.pbm.specs.Header.{Header, header_in}
use Rattle.pbm.specs.Raster.{Image, image_in}
use Rattle.pbm.specs.Bytes.{chart_bytes}
use Rattle.pbm.specs.Read.{Reading, refused, was_read, laid, read_of}
use Rattle.std.specs.Prelude.{Err}
use Rattle.pbm.specs.declared.Picture.{Picture}
use Rattle.pbm.proofs.Outcomes.{no_header, a_header, bad_sides_lem, no_image, an_image, no_room, room}

-- an image that takes n bytes
pub record ImageFound (file : List ℕ) (n : ℕ) : Type 0 where
  pub header : Header
  pub image : Image
  pub begun : header_in file ≡ some header
  pub sized : bad_sides header.chart ≡ false
  pub ended : image_in header ≡ some image
  pub counted : n ≡ length file - length image.rest

-- what comes of a file: a refusal, which leaves the buffer as lent, or an image, for whose bytes there is room
pub data Told (file pixels : List ℕ) : Type 0 where
  told_refused : (r : Refusal) → read_of file pixels ≡ refused r pixels → Told file pixels
  told_read : (n : ℕ) (f : ImageFound file n) → all_bytes f.header.chart ≤ length pixels
      → read_of file pixels ≡ record { answer = was_read f.header.chart n; out = over (chart_bytes f.header.chart f.image.set) pixels }
      → Told file pixels

-- the definition, where an image is there
pub read_is : (file : List ℕ) (h : Header) (image : Image) (pixels : List ℕ) → header_in file ≡ some h → bad_sides h.chart ≡ false → image_in h ≡ some image
    → read_of file pixels ≡ laid file h.chart image pixels
read_is file h image pixels e f g = sym (an_image file pixels h f image g ∙ a_header file pixels h e)

-- one of them for any file
pub told : (file pixels : List ℕ) → Told file pixels
told file pixels = by_header (header_in file) refl
  where
    by_room : (h : Header) → header_in file ≡ some h → bad_sides h.chart ≡ false → (image : Image) → image_in h ≡ some image
        → (t : Bool) → ltb (length pixels) (all_bytes h.chart) ≡ t → Told file pixels
    by_room h e f image g true short =
        told_refused NoRoom (read_is file h image pixels e f g ∙ sym (no_room file pixels h.chart image (ltb-true _ _ short)))
    by_room h e f image g false enough =
        told_read (length file - length image.rest)
        (record { header = h; image = image; begun = e; sized = f; ended = g; counted = refl })
        (ltb-false _ _ enough)
        (read_is file h image pixels e f g ∙ sym (room file pixels h.chart image (ltb-false _ _ enough)))

    by_image : (h : Header) → header_in file ≡ some h → bad_sides h.chart ≡ false → (o : Option Image) → image_in h ≡ o → Told file pixels
    by_image h e f none g = told_refused BadPicture (sym (no_image file pixels h f g ∙ a_header file pixels h e))
    by_image h e f (some image) g = by_room h e f image g (ltb (length pixels) (all_bytes h.chart)) refl

    by_size : (h : Header) → header_in file ≡ some h → (t : Bool) → bad_sides h.chart ≡ t → Told file pixels
    by_size h e true f = told_refused BadSize (sym (bad_sides_lem file pixels h f ∙ a_header file pixels h e))
    by_size h e false f = by_image h e f (image_in h) refl

    by_header : (o : Option Header) → header_in file ≡ o → Told file pixels
    by_header none e = told_refused BadPicture (sym (no_header file pixels e))
    by_header (some h) e = by_size h e (bad_sides h.chart) refl

-- two kinds of answer
pub refused_is_not_read : (r : Refusal) (c : Chart) (n : ℕ) → Err r ≡ was_read c n → ⊥
refused_is_not_read r c n e = cc

-- what was read is one chart, and one count
pub same_read : (c c' : Chart) (m n : ℕ) → was_read c m ≡ was_read c' n → (c ≡ c') × (m ≡ n)
same_read c c' m n e =
    let p : ◌≡◌ {A = Picture} (record { chart = c; bytes = m }) (record { chart = c'; bytes = n }) = cc in
    (ap (λ (p : Picture). p.chart) p, ap (λ (p : Picture). p.bytes) p)

-- an image that was read was found
pub image_found : (file pixels : List ℕ) (c : Chart) (n : ℕ) → (read_of file pixels).answer ≡ was_read c n → ImageFound file n
image_found file pixels c n is = go (told file pixels)
  where
    go : Told file pixels → ImageFound file n
    go (told_refused r e) = absurd (refused_is_not_read r c n (ap (λ (o : Reading). o.answer) (sym e) ∙ is))
    go (told_read m f room e) =
        let said : was_read f.header.chart m ≡ was_read c n = ap (λ (o : Reading). o.answer) (sym e) ∙ is in
        let same : m ≡ n = (same_read f.header.chart c m n said).1 in
        subst (ImageFound file) same f

-- a refusal leaves the buffer as lent
pub refused_leaves : (file pixels : List ℕ) (r : Refusal) → (read_of file pixels).answer ≡ Err r → (read_of file pixels).out ≡ pixels
refused_leaves file pixels r is = go (told file pixels)
  where
    go : Told file pixels → (read_of file pixels).out ≡ pixels
    go (told_refused q e) = ap (λ (o : Reading). o.out) e
    go (told_read n f room e) = absurd (refused_is_not_read r f.header.chart n (sym is ∙ ap (λ (o : Reading). o.answer) e))
