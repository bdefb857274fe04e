-- What the pixels of a picture are, behind its header: raw, as a chart has them, or plain, a digit for each.
use Rattle.std.specs.Prelude.{ℕ, zero, suc, ◌+◌, ◌*◌, Bool, true, false, List, [], ◌∷◌, ltb, eqb, length, get_or, drop}
use Rattle.std.proofs.Math.Option.{Option, some, none}
use Rattle.chart.specs.Pixels.{row_bytes, cell, all_bytes}
use Rattle.chart.specs.declared.Chart.{Chart}
use Rattle.pbm.specs.Header.{white, Header, raster_in}

-- whether the pixel in column x of row y is set, and what is left behind the image
pub record Image : Type 0 where
  pub set : ℕ → ℕ → Bool
  pub rest : List ℕ

-- ---- raw

-- rows lie as in a chart, "each padded to whole bytes"; all of them have to be there
unfoldable pub raw_in : Chart → List ℕ → Option Image
unfolding row_bytes cell
raw_in c raster = elim (ltb (length raster) (all_bytes c)) [
  | true ↦ none
  | false ↦ some (record { set = cell c raster; rest = drop (all_bytes c) raster })
]

-- ---- plain

-- what a byte of a plain raster is: "a plain raster byte other than 0, 1 or white space" is wrong
pub data Sign : Type 0 where
  blank : Sign
  pixel : Bool → Sign
  wrong : Sign

unfoldable pub sign_of : ℕ → Sign
unfolding white
sign_of b = elim (white b) [
  | true ↦ blank
  | false ↦ elim (eqb b 48) [
    | true ↦ pixel false
    | false ↦ elim (eqb b 49) [ true ↦ pixel true | false ↦ wrong ]
  ]
]

pub record Digits : Type 0 where
  pub bits : List Bool
  pub rest : List ℕ

abbrev pub onto : Bool → Option Digits → Option Digits
onto b none = none
onto b (some d) = some (record { bits = b ∷ d.bits; rest = d.rest })

-- n pixels: "Plain digits may stand without spaces between them." Nothing behind the last of them is looked at.
unfoldable pub digits_in : ℕ → List ℕ → Option Digits
unfolding sign_of
digits_in zero raster = some (record { bits = []; rest = raster })
digits_in (suc n) [] = none
digits_in (suc n) (b ∷ bs) = elim (sign_of b) [
  | blank ↦ digits_in (suc n) bs
  | pixel set ↦ onto set (digits_in n bs)
  | wrong ↦ none
]

-- row by row, from the top
abbrev pub rows_of : Chart → Digits → Image
rows_of c d = record { set = λ x y. get_or d.bits (y * c.width + x) false; rest = d.rest }

unfoldable pub plain_in : Chart → List ℕ → Option Image
unfolding digits_in
plain_in c raster = elim (digits_in (c.width * c.height) raster) [ none ↦ none | some d ↦ some (rows_of c d) ]

-- ---- both

unfoldable pub image_in : Header → Option Image
unfolding raw_in plain_in raster_in
image_in h = elim (raster_in h.rest) [
  | none ↦ none
  | some raster ↦ elim h.plain [ true ↦ plain_in h.chart raster | false ↦ raw_in h.chart raster ]
]
