-- White space in a plain raster says nothing: without it the same digits are read. Assumes nothing.
use Prim.Native.Nat.{ℕ, zero, suc, ◌*◌, ◌≤◌}
use mathlib.Core.Bool.{Bool, true, false}
use mathlib.Core.List.{List, [], ◌∷◌, ◌++◌}
use mathlib.Core.Option.{Option, some, none}
use mathlib.Core.Path.{◌≡◌, refl, sym, ap, ◌∙◌}
use Rattle.chart.specs.declared.Chart.{Chart}
use Rattle.pbm.specs.Header.{white, Header}
use Rattle.pbm.specs.Raster.{Sign, blank, pixel, wrong, sign_of, Digits, onto, digits_in, rows_of, plain_in, image_in}
use Rattle.pbm.specs.Read.{read_of}
use Rattle.pbm.proofs.theorems.HeadRead.{sizes_text, plain_read}
use Rattle.pbm.proofs.theorems.Alike.{ReadAlike, ImagesAlike, both_missing, both_there, read_alike}
use Rattle.pbm.proofs.Digits.{white_blank, blank_first, pixel_first, wrong_first}

-- the bytes that are no white space
unfoldable pub inked : List ℕ → List ℕ
inked [] = []
inked (b ∷ bs) = elim (white b) [ true ↦ inked bs | false ↦ b ∷ inked bs ]

-- digits, with what is left behind them
abbrev thin : Option Digits → Option Digits
thin none = none
thin (some d) = some (record { bits = d.bits; rest = inked d.rest })

onto_thin : (t : Bool) (o : Option Digits) → onto t (thin o) ≡ thin (onto t o)
onto_thin t none = refl
onto_thin t (some d) = refl

digits_inked : (n : ℕ) (raster : List ℕ) → digits_in n (inked raster) ≡ thin (digits_in n raster)
unfolding digits_in inked
digits_inked zero raster = refl
digits_inked (suc n) [] = refl
digits_inked (suc n) (b ∷ bs) = by_white (white b) refl (digits_inked (suc n) bs) (digits_inked n bs)
  where
    by_sign : (s : Sign) → sign_of b ≡ s → digits_in (suc n) (inked bs) ≡ thin (digits_in (suc n) bs) → digits_in n (inked bs) ≡ thin (digits_in n bs) →
        digits_in (suc n) (b ∷ inked bs) ≡ thin (digits_in (suc n) (b ∷ bs))
    by_sign blank s later next = rw (blank_first n b (inked bs) s, blank_first n b bs s) later
    by_sign (pixel t) s later next = rw (pixel_first n b (inked bs) t s, pixel_first n b bs t s, next) (onto_thin t (digits_in n bs))
    by_sign wrong s later next = rw (wrong_first n b (inked bs) s, wrong_first n b bs s)

    by_white : (t : Bool) → white b ≡ t → digits_in (suc n) (inked bs) ≡ thin (digits_in (suc n) bs) → digits_in n (inked bs) ≡ thin (digits_in n bs) →
        digits_in (suc n) (inked (b ∷ bs)) ≡ thin (digits_in (suc n) (b ∷ bs))
    by_white true w later next = rw (w, inked) (later ∙ ap thin (sym (blank_first n b bs (white_blank b w))))
    by_white false w later next = rw (w, inked) (by_sign (sign_of b) refl later next)

-- behind the same sizes
module _ (c : Chart) (wide : c.width ≤ 512) (high : c.height ≤ 512) (raster buffer : List ℕ) where
  abbrev head : List ℕ → Header
  head raster = record { plain = true; chart = c; rest = 10 ∷ raster }

  images : ImagesAlike c (image_in (head raster)) (image_in (head (inked raster)))
  unfolding image_in white
  images = rw (digits_inked (c.width * c.height) raster, plain_in) (by_digits (digits_in (c.width * c.height) raster))
    where
      by_digits : (o : Option Digits) → ImagesAlike c (elim o [ none ↦ none | some d ↦ some (rows_of c d) ]) (elim (thin o) [ none ↦ none | some d ↦ some (rows_of c d) ])
      by_digits none = both_missing
      by_digits (some d) = both_there _ _ (λ x y column row. refl)

  pub spaces_alike : ReadAlike (read_of (80 ∷ 49 ∷ sizes_text c ++ raster) buffer) (read_of (80 ∷ 49 ∷ sizes_text c ++ inked raster) buffer)
  spaces_alike = read_alike _ _ buffer (head raster) (head (inked raster)) refl images (plain_read c wide high raster) (plain_read c wide high (inked raster))
