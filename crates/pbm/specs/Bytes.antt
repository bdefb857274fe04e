-- How pixels lie in a chart's bytes: one definition for what is read, plain or raw, and for what is written.
use Rattle.std.specs.Prelude.{ℕ, zero, suc, ◌+◌, ◌*◌, ◌/◌, ◌%◌, Bool, ◌&&◌, List, [], ◌∷◌, ◌++◌, ltb}
use Rattle.chart.specs.Pixels.{row_bytes, one, all_bytes}
use Rattle.chart.specs.declared.Chart.{Chart}

-- n pixels as one number, "the leftmost the highest"
unfoldable pub packed : ℕ → (ℕ → Bool) → ℕ
packed zero pixel = 0
packed (suc n) pixel = packed n pixel * 2 + one (pixel n)

-- The byte at place i of a chart whose pixel in column x of row y is `set x y`: the eight columns from 8 (i % row_bytes) on, of row
-- i / row_bytes. "Reader and writer set padding to 0": a column past the last is not set.
unfoldable pub byte_at : Chart → (ℕ → ℕ → Bool) → ℕ → ℕ
unfolding packed row_bytes
byte_at c set i =
    let row = row_bytes c.width in
    packed 8 (λ j. let x = i % row * 8 + j in ltb x c.width && set x (i / row))

-- what a function gives for 0, 1, .. n - 1
unfoldable pub listed : ℕ → (ℕ → ℕ) → List ℕ
listed zero f = []
listed (suc n) f = listed n f ++ (f n ∷ [])

-- all bytes of a chart
unfoldable pub chart_bytes : Chart → (ℕ → ℕ → Bool) → List ℕ
unfolding byte_at listed
chart_bytes c set = listed (all_bytes c) (byte_at c set)
