-- The least of two floats.
use Rattle.std.specs.Prelude.{true, false, Float}
use Rattle.std.specs.Float.Ieee.{lt}

-- the first of equals: what `if y < x { x = y; }` leaves in x
unfoldable pub least : Float → Float → Float
least x y = elim (lt y x) [ true ↦ y | false ↦ x ]
