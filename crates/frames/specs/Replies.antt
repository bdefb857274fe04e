-- Document 01, "Frames": an answer line. "Answer: kind + 80, number above, count u16, values, lowercase." Two digits are a byte, the highest first.
use Rattle.std.specs.Prelude.{ℕ, ◌+◌, ◌*◌, ◌/◌, List, [], ◌∷◌, ◌++◌, ℤ, Float, length, take}
use Rattle.std.specs.Float.{binary64}
use Rattle.std.specs.Float.Ieee.{to_bits}
use Rattle.std.specs.Int.{w32}
use Rattle.std.proofs.Common.{of_z}
use Rattle.texts.specs.Text.{hex_text}

-- "points as i16 x, y": the lowest 16 bits of each value
unfoldable pub coordinates : List ℤ → List ℕ
coordinates [] = []
coordinates (v ∷ vs) = hex_text 4 (of_z w32 v) ++ coordinates vs

-- "answers are f64 bits"
unfoldable pub doubles : List Float → List ℕ
doubles [] = []
doubles (v ∷ vs) = hex_text 16 (to_bits binary64 v) ++ doubles vs

-- "kind + 80, number above, count u16"
abbrev pub head : ℕ → ℕ → ℕ → List ℕ
head kind number count = hex_text 2 (kind + 128) ++ hex_text 2 number ++ hex_text 4 count

-- an answer of points: how many, and each x and y
unfoldable pub points_text : ℕ → ℕ → List ℤ → List ℕ
unfolding coordinates
points_text kind number values = head kind number (length values / 2) ++ coordinates values

-- of the first points of a buffer, as many as a call counted
abbrev pub counted_text : ℕ → ℕ → ℕ → List ℤ → List ℕ
counted_text kind number count values = points_text kind number (take (count * 2) values)

-- an answer of numbers: how many, and each
unfoldable pub numbers_text : ℕ → ℕ → List Float → List ℕ
unfolding doubles
numbers_text kind number values = head kind number (length values) ++ doubles values
