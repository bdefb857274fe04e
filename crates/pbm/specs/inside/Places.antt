-- Places of a file, in place of what is left of it. `Option` is the code's own, `Maybe` that of the definitions.
use Rattle.std.specs.Prelude.{ℕ, ◌-◌, min, Bool, true, false, List, [], length, drop, Option, Some, None}
use Rattle.std.proofs.Math.Option.{Option as Maybe, some, none}
use Rattle.chart.specs.declared.Chart.{Chart}
use Rattle.pbm.specs.Header.{Number, Header}
use Rattle.pbm.specs.Raster.{Image, Digits, raw_in, plain_in}
use Rattle.pbm.specs.declared.header.Header as Read
use Rattle.pbm.specs.declared.decimal.Size.{Size}

-- the place of a file at which so much of it is left
abbrev pub place_of : List ℕ → Maybe (List ℕ) → Option ℕ
place_of file none = None
place_of file (some rest) = Some (length file - length rest)

-- 513 stands for every size out of range past 512
abbrev pub cut : Chart → Chart
cut c = record { width = min c.width 513; height = min c.height 513 }

abbrev pub size_at : List ℕ → Number → Size
size_at file n = record { value = min n.value 513; end = length file - length n.rest }

abbrev pub size_of : List ℕ → Maybe Number → Option Size
size_of file none = None
size_of file (some n) = Some (size_at file n)

abbrev pub head_of : List ℕ → Maybe Header → Option Read.Header
head_of file none = None
head_of file (some h) = Some (record { plain = h.plain; chart = cut h.chart; end = length file - length h.rest })

-- a header that was read, with what is left behind it
abbrev pub header_at : List ℕ → Read.Header → Header
header_at file h = record { plain = h.plain; chart = h.chart; rest = drop h.end file }

abbrev pub behind_digits : Maybe Digits → Maybe (List ℕ)
behind_digits none = none
behind_digits (some d) = some d.rest

abbrev pub behind_image : Maybe Image → Maybe (List ℕ)
behind_image none = none
behind_image (some i) = some i.rest

abbrev pub has_image : Maybe Image → Bool
has_image none = false
has_image (some i) = true

abbrev pub set_of : Maybe Image → ℕ → ℕ → Bool
set_of none = λ x y. false
set_of (some i) = i.set

abbrev pub image_of : Bool → Chart → List ℕ → Maybe Image
image_of true c raster = plain_in c raster
image_of false c raster = raw_in c raster

-- the pixels of a plain raster that is whole
abbrev pub bits_of : Maybe Digits → List Bool
bits_of none = []
bits_of (some d) = d.bits

abbrev pub whole : Maybe Digits → Bool
whole none = false
whole (some d) = true
