-- Document 01, "Frames": what the bytes of a frame ask for. "Big-endian; points as i16 x, y."
use Rattle.std.specs.Prelude.{ℕ, ◌+◌, ◌*◌, Bool, ◌&&◌, List, [], ◌∷◌, ltb, leb, eqb, ℤ, pos, ◌-ℤ◌, length, get_or, drop, if◌then◌else◌}
use Rattle.point.specs.declared.PointI32.{PointI32}
use Rattle.chart.specs.Pixels.{row_bytes}
use Rattle.chart.specs.declared.Chart.{Chart}

-- ---- numbers of two bytes

-- at a place, the higher byte first
abbrev pub word_at : List ℕ → ℕ → ℕ
word_at bytes k = get_or bytes k 0 * 256 + get_or bytes (k + 1) 0

-- read as a signed one
abbrev pub signed : ℕ → ℤ
signed n = if ltb n 32768 then pos n else (pos n -ℤ pos 65536)

-- a signed value for any two bytes
unfoldable pub values_of : List ℕ → List ℤ
values_of [] = []
values_of (a ∷ []) = []
values_of (a ∷ b ∷ rest) = signed (a * 256 + b) ∷ values_of rest

-- ---- the four kinds, and what is none

-- a walk: clockwise or not, the chart, the start and the rows; a simplification: clockwise or not, and the points; a reduction: the tolerance in
-- sixteenths, and the points; a numbering: the points

pub data Request : Type 0 where
  walk : Bool → Chart → PointI32 → List ℕ → Request
  simplify : Bool → List ℤ → Request
  reduce : ℕ → List ℤ → Request
  numbers : List ℤ → Request
  no_frame : Request

-- "direction byte, 1 clockwise"; "direction over 1" is no frame
abbrev pub clockwise : List ℕ → Bool
clockwise bytes = eqb (get_or bytes 1 0) 1

abbrev pub directed : List ℕ → Bool
directed bytes = leb (get_or bytes 1 0) 1

-- "01 walk (direction byte, 1 clockwise; width u16, height u16; start; rows)"
abbrev pub chart_in : List ℕ → Chart
chart_in bytes = record { width = word_at bytes 2; height = word_at bytes 4 }

abbrev pub start_in : List ℕ → PointI32
start_in bytes = record { x = signed (word_at bytes 6); y = signed (word_at bytes 8) }

-- the place of the rows
abbrev pub rows_from : ℕ
rows_from = 10

unfoldable pub walk_in : List ℕ → Request
walk_in bytes =
    if directed bytes && eqb (length bytes) (rows_from + row_bytes (word_at bytes 2) * word_at bytes 4)
    then walk (clockwise bytes) (chart_in bytes) (start_in bytes) (drop rows_from bytes)
    else no_frame

-- "02 simplify (direction byte, count u16, points)"
unfoldable pub simplify_in : List ℕ → Request
unfolding values_of
simplify_in bytes =
    if directed bytes && eqb (length bytes) (4 + word_at bytes 2 * 4)
    then simplify (clockwise bytes) (values_of (drop 4 bytes))
    else no_frame

-- "03 reduce (tolerance u16 in sixteenths, count u16, points)"
unfoldable pub reduce_in : List ℕ → Request
unfolding values_of
reduce_in bytes =
    if eqb (length bytes) (5 + word_at bytes 3 * 4)
    then reduce (word_at bytes 1) (values_of (drop 5 bytes))
    else no_frame

-- "04 numbers (count u16, points; answers are f64 bits)"
unfoldable pub numbers_in : List ℕ → Request
unfolding values_of
numbers_in bytes =
    if eqb (length bytes) (3 + word_at bytes 1 * 4)
    then numbers (values_of (drop 3 bytes))
    else no_frame

-- by the kind; "unknown kind" is no frame
unfoldable pub kind_in : ℕ → List ℕ → Request
unfolding walk_in simplify_in reduce_in numbers_in
kind_in kind bytes =
    if eqb kind 1 then walk_in bytes else
    if eqb kind 2 then simplify_in bytes else
    if eqb kind 3 then reduce_in bytes else
    if eqb kind 4 then numbers_in bytes else
    no_frame

-- "Frames both ways hold at most 16,384 bytes"
unfoldable pub request_in : List ℕ → Request
unfolding kind_in
request_in bytes = if ltb 16384 (length bytes) then no_frame else kind_in (get_or bytes 0 0) bytes
