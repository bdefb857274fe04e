-- Worked examples: antt computes each, so `refl` proves it. 80 is `P`, 49 is `1`, 52 is `4`, 35 is `#` and 10 ends a line.
use Rattle.std.specs.Prelude.{[], ◌∷◌, ◌≡◌, refl, Ok, Err}
use Rattle.point.specs.declared.refusal.Refusal.TheVariants.{BadSize, NoRoom, BadPicture}
use Rattle.laws.specs.Lists.{over}
use Rattle.chart.specs.Pixels.{bad_chart, side, cell}
use Rattle.texts.specs.Text.{decimal_digits}
use Rattle.pbm.specs.Header.{white, line_end, hash, digit}
use Rattle.pbm.specs.Read.{read_of}
use Rattle.pbm.specs.Write.{written_of}

-- `P4 9 1`, a raw raster with rubbish in its padding, and a byte behind the image
raw : read_of (80 ∷ 52 ∷ 32 ∷ 57 ∷ 32 ∷ 49 ∷ 10 ∷ 0b10000001 ∷ 0b11111111 ∷ 7 ∷ []) (1 ∷ 2 ∷ 3 ∷ [])
    ≡ record { answer = Ok (record { chart = record { width = 9; height = 1 }; bytes = 9 }); out = 0b10000001 ∷ 0b10000000 ∷ 3 ∷ [] }
unfolding read_of over white line_end hash digit side cell
raw = refl

-- `P1 2 2` and `01 10`: the two pixels of a row are the highest bits of its byte
plain : read_of (80 ∷ 49 ∷ 32 ∷ 50 ∷ 32 ∷ 50 ∷ 10 ∷ 48 ∷ 49 ∷ 32 ∷ 49 ∷ 48 ∷ []) (1 ∷ 2 ∷ [])
    ≡ record { answer = Ok (record { chart = record { width = 2; height = 2 }; bytes = 12 }); out = 0b01000000 ∷ 0b10000000 ∷ [] }
unfolding read_of over white line_end hash digit side cell
plain = refl

-- `P4#`, and a comment behind the height is what parts it from the raster
comments : read_of (80 ∷ 52 ∷ 35 ∷ 10 ∷ 49 ∷ 32 ∷ 49 ∷ 35 ∷ 55 ∷ 10 ∷ 255 ∷ []) (1 ∷ [])
    ≡ record { answer = Ok (record { chart = record { width = 1; height = 1 }; bytes = 11 }); out = 0b10000000 ∷ [] }
unfolding read_of over white line_end hash digit side cell
comments = refl

-- `P4 0 1x`: the size comes before what stands behind it
no_width : read_of (80 ∷ 52 ∷ 32 ∷ 48 ∷ 32 ∷ 49 ∷ 120 ∷ []) (1 ∷ []) ≡ record { answer = Err BadSize; out = 1 ∷ [] }
unfolding read_of white line_end hash digit side cell
no_width = refl

-- `P4 9`: the second size is missing
no_height : read_of (80 ∷ 52 ∷ 32 ∷ 57 ∷ []) (1 ∷ []) ≡ record { answer = Err BadPicture; out = 1 ∷ [] }
unfolding read_of white line_end hash digit side cell
no_height = refl

-- `P41 1`: nothing parts the magic number from the width
not_parted : read_of (80 ∷ 52 ∷ 49 ∷ 32 ∷ 49 ∷ 32 ∷ 255 ∷ []) (1 ∷ []) ≡ record { answer = Err BadPicture; out = 1 ∷ [] }
unfolding read_of white line_end hash digit side cell
not_parted = refl

-- `P1 1 1 2`, into no room: 12 comes before 10
no_digit : read_of (80 ∷ 49 ∷ 32 ∷ 49 ∷ 32 ∷ 49 ∷ 32 ∷ 50 ∷ []) [] ≡ record { answer = Err BadPicture; out = [] }
unfolding read_of white line_end hash digit side cell
no_digit = refl

no_room : read_of (80 ∷ 49 ∷ 32 ∷ 49 ∷ 32 ∷ 49 ∷ 32 ∷ 49 ∷ []) [] ≡ record { answer = Err NoRoom; out = [] }
unfolding read_of white line_end hash digit side cell
no_room = refl

-- a pixel of a 1 by 1 chart with rubbish beside it: `P4`, newline, `1 1`, newline and 128
written_out : written_of (record { width = 1; height = 1 }) (255 ∷ []) (0 ∷ 0 ∷ 0 ∷ 0 ∷ 0 ∷ 0 ∷ 0 ∷ 0 ∷ 5 ∷ [])
    ≡ record { answer = Ok 8; out = 80 ∷ 52 ∷ 10 ∷ 49 ∷ 32 ∷ 49 ∷ 10 ∷ 0b10000000 ∷ 5 ∷ [] }
unfolding written_of over bad_chart cell decimal_digits
written_out = refl
