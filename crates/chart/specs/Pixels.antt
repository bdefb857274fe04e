-- Document 01, "Sizes": a chart, its rows and its pixels.
use Rattle.std.specs.Prelude.{ℕ, ◌+◌, ◌-◌, ◌*◌, ◌/◌, ◌%◌, ◌^◌, Bool, true, false, not, ◌&&◌, ◌||◌, List, ltb, leb, eqb, ℤ, pos, negsuc, ◌-ℤ◌, length, get_or, if◌then◌else◌}
use Rattle.chart.specs.declared.Chart.{Chart}

-- "each padded to whole bytes": how many bytes a row of so many pixels takes
unfoldable pub row_bytes : ℕ → ℕ
row_bytes width = (width + 7) / 8

-- how many bytes all rows of a chart take
abbrev pub all_bytes : Chart → ℕ
all_bytes c = row_bytes c.width * c.height

-- "width and height 1 to 512"
unfoldable pub side : ℕ → Bool
side size = leb 1 size && leb size 512

-- "chart size .. out of range"
abbrev pub bad_sides : Chart → Bool
bad_sides c = not (side c.width) || not (side c.height)

-- "or pixel slice too short"
unfoldable pub bad_chart : Chart → List ℕ → Bool
unfolding side row_bytes
bad_chart c pixels = bad_sides c || ltb (length pixels) (all_bytes c)

-- how many bytes a chart asks for: none where a side is out of range, since then it is refused whatever is lent
abbrev pub bytes_asked : Chart → ℕ
bytes_asked c = if bad_sides c then 0 else all_bytes c

-- "a pixel is one bit of a byte, the leftmost the highest": the bit of a byte in column x
abbrev pub bit_of : ℕ → ℕ → Bool
bit_of byte x = eqb (byte / 2 ^ (7 - x % 8) % 2) 1

-- the pixel in column x of row y, within the chart
unfoldable pub cell : Chart → List ℕ → ℕ → ℕ → Bool
unfolding row_bytes
cell c pixels x y = bit_of (get_or pixels (y * row_bytes c.width + x / 8) 0) x

-- column x of row y lies within the chart; no chart is wider than 512
unfoldable pub has_pixel : Chart → ℕ → ℕ → Bool
has_pixel c x y = leb c.width 512 && ltb x c.width && ltb y c.height

-- The pixel at any place: "false outside the chart". Past the last byte nothing is set.
unfoldable pub pixel_at : Chart → List ℕ → ℤ → ℤ → Bool
unfolding has_pixel cell
pixel_at c pixels (pos x) (pos y) = has_pixel c x y && cell c pixels x y
pixel_at c pixels (pos x) (negsuc y) = false
pixel_at c pixels (negsuc x) y = false

-- a pixel as a number
abbrev pub one : Bool → ℕ
one true = 1
one false = 0

-- The four pixels around the lattice point x, y as one number. A lattice point is the top left corner of the pixel at x, y.
unfoldable pub around_of : Chart → List ℕ → ℤ → ℤ → ℕ
unfolding pixel_at
around_of c pixels x y =
    8 * one (pixel_at c pixels (x -ℤ pos 1) (y -ℤ pos 1)) +
    4 * one (pixel_at c pixels x (y -ℤ pos 1)) +
    2 * one (pixel_at c pixels (x -ℤ pos 1) y) +
    one (pixel_at c pixels x y)
