-- The buffers that a call is lent so that its answer fits a line. Document 01, "Frames": "Frames both ways hold at most 16,384 bytes, so 01 has room
-- for 4,095 points and 04 for 2,047 numbers, else 10." What they hold first does not matter.
use Rattle.std.specs.Prelude.{ℕ, List, ℤ, pos, Float, replicate}
use Rattle.std.specs.Float.{binary64}
use Rattle.std.specs.Float.Ieee.{of_int}

abbrev pub room : List ℤ
room = replicate 8190 (pos 0)

abbrev pub marks : List ℕ
marks = replicate 4095 0

abbrev pub number_room : List Float
number_room = replicate 2047 (of_int binary64 (pos 0))
