-- A chart that is not bad, and the first set pixel of a row and of a byte.
use Rattle.std.specs.Prelude.{ℕ, ◌≤◌, ◌<◌, true, false, List, ◌≡◌, pos, length, Option as Found, Some, None}
use Rattle.std.proofs.Math.Option.{Option, some, none}
use Rattle.point.specs.declared.PointI32.{PointI32}
use Rattle.chart.specs.Pixels.{all_bytes, bit_of}
use Rattle.chart.specs.declared.Chart.{Chart}

-- what a chart that is not bad has: every byte of every row
pub record Good (c : Chart) (pixels : List ℕ) : Type 0 where
  pub wide : c.width ≤ 512
  pub high : c.height ≤ 512
  pub enough : all_bytes c ≤ length pixels

-- the point in a column that was found in row y
abbrev pub in_column : ℕ → Found ℕ → Option PointI32
in_column y (Some x) = some (record { x = pos x; y = pos y })
in_column y None = none

-- a byte's first set pixel is in column r
pub record FirstAt (byte r : ℕ) : Type 0 where
  pub few : r < 8
  pub clear : (j : ℕ) → j < r → bit_of byte j ≡ false
  pub set : bit_of byte r ≡ true

-- a byte has no set pixel
pub record Clear (byte : ℕ) : Type 0 where
  pub clear : (j : ℕ) → j < 8 → bit_of byte j ≡ false

-- the column of a byte's first set pixel was found, or it has none
abbrev pub FirstBit : ℕ → Found ℕ → Type 0
FirstBit byte (Some r) = FirstAt byte r
FirstBit byte None = Clear byte
