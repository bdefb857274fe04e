-- What reading a picture answers, case by case: each test on the way picks a line of the definition. Assumes nothing.
use Prim.Native.Nat.{ℕ, ◌-◌, ◌≤◌, ◌<◌, min}
use mathlib.Core.Bool.{Bool, true, false, not, ◌&&◌, ◌||◌}
use mathlib.Core.List.{List}
use mathlib.Core.Option.{some, none}
use mathlib.Core.Path.{◌≡◌, refl, sym, ◌∙◌}
use native.Mathlib.Omega.{arith}
use lib.Dec.{leb}
use lib.ListN.{length}
use borrow.Author.Tests.{lt-ltb, le-ltb, leb-true, leb-false}
use Rattle.laws.specs.Lists.{over}
use Rattle.point.specs.declared.refusal.Refusal.TheVariants.{BadSize, NoRoom, BadPicture}
use Rattle.chart.specs.Pixels.{side, all_bytes, bad_sides}
use Rattle.chart.specs.declared.Chart.{Chart}
use Rattle.chart.proofs.Sizes.{side_within}
use Rattle.pbm.specs.Header.{Header, header_in}
use Rattle.pbm.specs.Raster.{Image, image_in}
use Rattle.pbm.specs.Bytes.{chart_bytes}
use Rattle.pbm.specs.Read.{refused, was_read, laid, read_behind, read_of}
use Rattle.pbm.specs.inside.Places.{cut}

-- ---- the header

pub no_header : (file pixels : List ℕ) → header_in file ≡ none → refused BadPicture pixels ≡ read_of file pixels
unfolding read_of
no_header file pixels e = rw (e, read_of)

pub a_header : (file pixels : List ℕ) (h : Header) → header_in file ≡ some h → read_behind file h pixels ≡ read_of file pixels
unfolding read_of
a_header file pixels h e = rw (e, read_of)

-- ---- what stands behind it

module _ (file pixels : List ℕ) (h : Header) where
  pub bad_sides_lem : bad_sides h.chart ≡ true → refused BadSize pixels ≡ read_behind file h pixels
  unfolding read_behind
  bad_sides_lem bad = rw (bad, read_behind)

  module _ (fine : bad_sides h.chart ≡ false) where
    pub no_image : image_in h ≡ none → refused BadPicture pixels ≡ read_behind file h pixels
    unfolding read_behind
    no_image e = rw (fine, e, read_behind)

    pub an_image : (image : Image) → image_in h ≡ some image → laid file h.chart image pixels ≡ read_behind file h pixels
    unfolding read_behind
    an_image image e = rw (fine, e, read_behind)

-- ---- the room

module _ (file pixels : List ℕ) (c : Chart) (image : Image) where
  pub no_room : length pixels < all_bytes c → refused NoRoom pixels ≡ laid file c image pixels
  unfolding laid
  no_room h = rw (lt-ltb (length pixels) (all_bytes c) h, laid)

  pub room : all_bytes c ≤ length pixels
      → record { answer = was_read c (length file - length image.rest); out = over (chart_bytes c image.set) pixels } ≡ laid file c image pixels
  unfolding laid
  room h = rw (le-ltb (length pixels) (all_bytes c) h, laid)

-- ---- 513 may stand for every size past 512

second_false : (a b : Bool) → b ≡ false → (a && b) ≡ false
second_false true b e = e
second_false false b e = refl

cut_side : (n : ℕ) → side (min n 513) ≡ side n
unfolding side
cut_side n = go (leb n 512) refl
  where
    go : (t : Bool) → leb n 512 ≡ t → side (min n 513) ≡ side n
    go true e = let m : min n 513 ≡ n = omega (arith, leb-true n 512 e) in rw m
    go false e = let m : min n 513 ≡ 513 = omega (arith, leb-false n 512 e) in rw m (sym (second_false (leb 1 n) (leb n 512) e))

cut_nothing : (n : ℕ) → side n ≡ true → min n 513 ≡ n
cut_nothing n h = omega (arith, side_within n h)

pub cut_reads_same : (file pixels : List ℕ) (plain : Bool) (c : Chart) (rest : List ℕ)
    → read_behind file (record { plain = plain; chart = cut c; rest = rest }) pixels ≡ read_behind file (record { plain = plain; chart = c; rest = rest }) pixels
cut_reads_same file pixels plain c rest = go (side c.width) (side c.height) refl refl
  where
    bad : bad_sides c ≡ true
        → read_behind file (record { plain = plain; chart = cut c; rest = rest }) pixels ≡ read_behind file (record { plain = plain; chart = c; rest = rest }) pixels
    bad e =
        let f : (not (side (min c.width 513)) || not (side (min c.height 513))) ≡ true = rw (cut_side c.width, cut_side c.height) e in
        sym (bad_sides_lem file pixels (record { plain = plain; chart = cut c; rest = rest }) f)
        ∙ bad_sides_lem file pixels (record { plain = plain; chart = c; rest = rest }) e

    go : (a b : Bool) → side c.width ≡ a → side c.height ≡ b
        → read_behind file (record { plain = plain; chart = cut c; rest = rest }) pixels ≡ read_behind file (record { plain = plain; chart = c; rest = rest }) pixels
    go true true p q = rw (cut_nothing c.width p, cut_nothing c.height q)
    go false b p q = bad (rw p)
    go true false p q = bad (rw (p, q))
