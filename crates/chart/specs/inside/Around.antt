-- The four pixels around a lattice point as `lattice.rt` reads them: a pair of bits above and a pair below.
use Rattle.std.specs.Prelude.{ℕ, ◌+◌, ◌*◌, ◌/◌, Bool, ◌&&◌, List, ltb, leb, ℤ, pos, ◌-ℤ◌, length, get_or}
use Rattle.chart.specs.Pixels.{row_bytes, bit_of, has_pixel, pixel_at, one}
use Rattle.chart.specs.declared.Chart.{Chart}

-- the n-th bit of a list of bytes
abbrev pub bit_at : List ℕ → ℕ → Bool
bit_at bytes n = bit_of (get_or bytes (n / 8) 0) n

-- a pixel and the one on its left, as one number
unfoldable pub pair_of : Chart → List ℕ → ℤ → ℤ → ℕ
unfolding pixel_at
pair_of c pixels x y = 2 * one (pixel_at c pixels (x -ℤ pos 1) y) + one (pixel_at c pixels x y)

-- all four are in the chart, and their bytes are there
unfoldable pub surrounded : Chart → List ℕ → ℕ → ℕ → Bool
surrounded c pixels x y = leb 1 x && leb 1 y && has_pixel c x y && ltb ((y * (row_bytes c.width * 8) + x) / 8) (length pixels)
