-- What the definitions of an image say, case by case: a plain one and a raw one, and the sides that it may have. Assumes nothing.
use Prim.Native.Nat.{ℕ, ◌+◌, ◌*◌, ◌≤◌, ◌<◌}
use mathlib.Core.Bool.{Bool, true, false, not, ◌||◌, false≢true}
use mathlib.Core.List.{List}
use mathlib.Core.Option.{Option, some, none}
use mathlib.Core.Path.{◌≡◌, refl, sym, ap, ◌∙◌}
use native.Mathlib.Nat.{mul-le-mul}
use native.Mathlib.Omega.{arith}
use lib.Dec.{ltb}
use lib.ListN.{length, get_or, drop}
use mir.Syntax.{w64}
use mir.Val.{Fits}
use borrow.Author.Tests.{lt-ltb, le-ltb, ltb-true, ltb-false}
use Rattle.laws.proofs.Joined.{both_false}
use Rattle.chart.specs.Pixels.{side, cell, all_bytes, bad_sides, bad_chart}
use Rattle.chart.specs.declared.Chart.{Chart}
use Rattle.chart.proofs.Sizes.{side_within, good_width, good_height}
use Rattle.pbm.specs.Header.{Header, raster_in}
use Rattle.pbm.specs.Raster.{Digits, raw_in, digits_in, plain_in, image_in}
use Rattle.pbm.specs.inside.Places.{behind_digits, behind_image, has_image, set_of, image_of, bits_of, whole}

-- ---- sides

pub area_fits : (w h : ℕ) → (not (side w) || not (side h)) ≡ false → Fits w64 (w * h)
area_fits w h fine =
    let p = side_within w (good_width (side w) (side h) fine) in
    let q = side_within h (good_height (side w) (side h) fine) in
    let l : w * h ≤ 512 * 512 = mul-le-mul p.1 q.1 in
    record { fits = omega arith }

-- a chart that is not bad: its size is in range, and each of its rows is there
pub good_parts : (c : Chart) (pixels : List ℕ) → bad_chart c pixels ≡ false → (bad_sides c ≡ false) × (all_bytes c ≤ length pixels)
unfolding bad_chart
good_parts c pixels fine = let p = both_false (bad_sides c) _ fine in (p.0, ltb-false _ _ p.1)

-- ---- raw

module _ (c : Chart) (raster : List ℕ) where
  pub raw_short : length raster < all_bytes c → raw_in c raster ≡ none
  unfolding raw_in
  raw_short h = rw (lt-ltb (length raster) (all_bytes c) h, raw_in)

  pub raw_whole : all_bytes c ≤ length raster
      → raw_in c raster ≡ some (record { set = cell c raster; rest = drop (all_bytes c) raster })
  unfolding raw_in
  raw_whole h = rw (le-ltb (length raster) (all_bytes c) h, raw_in)

  pub raw_enough : has_image (raw_in c raster) ≡ true → all_bytes c ≤ length raster
  raw_enough has = enough (ltb (length raster) (all_bytes c)) refl
    where
      enough : (t : Bool) → ltb (length raster) (all_bytes c) ≡ t → all_bytes c ≤ length raster
      enough true e =
          let f : false ≡ true = sym (ap has_image (raw_short (ltb-true _ _ e))) ∙ has in
          absurd (false≢true f)
      enough false e = ltb-false _ _ e

  pub raw_set : has_image (raw_in c raster) ≡ true → set_of (raw_in c raster) ≡ cell c raster
  raw_set has = ap set_of (raw_whole (raw_enough has))

  -- ---- plain

  pub plain_behind : behind_image (plain_in c raster) ≡ behind_digits (digits_in (c.width * c.height) raster)
  unfolding plain_in
  plain_behind = go (digits_in (c.width * c.height) raster)
    where
      go : (o : Option Digits) → behind_image (elim o [ none ↦ none | some d ↦ some (record { set = λ x y. get_or d.bits (y * c.width + x) false; rest = d.rest }) ]) ≡ behind_digits o
      go none = refl
      go (some d) = refl

  pub plain_whole : whole (digits_in (c.width * c.height) raster) ≡ has_image (plain_in c raster)
  unfolding plain_in
  plain_whole = go (digits_in (c.width * c.height) raster)
    where
      go : (o : Option Digits) → whole o ≡ has_image (elim o [ none ↦ none | some d ↦ some (record { set = λ x y. get_or d.bits (y * c.width + x) false; rest = d.rest }) ])
      go none = refl
      go (some d) = refl

  pub plain_set : set_of (plain_in c raster) ≡ (λ x y. get_or (bits_of (digits_in (c.width * c.height) raster)) (y * c.width + x) false)
  unfolding plain_in
  plain_set = go (digits_in (c.width * c.height) raster)
    where
      go : (o : Option Digits) → set_of (elim o [ none ↦ none | some d ↦ some (record { set = λ x y. get_or d.bits (y * c.width + x) false; rest = d.rest }) ])
          ≡ (λ x y. get_or (bits_of o) (y * c.width + x) false)
      go none = refl
      go (some d) = refl

-- ---- both

pub no_raster : (h : Header) → raster_in h.rest ≡ none → image_in h ≡ none
unfolding image_in
no_raster h e = rw (e, image_in)

pub image_of_raster : (h : Header) (raster : List ℕ) → raster_in h.rest ≡ some raster → image_in h ≡ image_of h.plain h.chart raster
unfolding image_in
image_of_raster h raster e = rw (e, image_in) (kind h.plain)
  where
    kind : (t : Bool) → elim t [ true ↦ plain_in h.chart raster | false ↦ raw_in h.chart raster ] ≡ image_of t h.chart raster
    kind true = refl
    kind false = refl
