-- Document 01: "Square (0,0) (4,0) (4,4) (0,4) (0,0), ratio 8, length 1, no corners: (2,-0.5) enters after (0,0); with (0,0) a corner, (2,-0.25);
-- all corners: nothing enters, finished."
use Rattle.std.specs.Prelude.{true, false, List, [], ◌∷◌, ◌≡◌, refl, ℤ, pos, Float, Some}
use Rattle.std.specs.Float.{binary64}
use Rattle.std.specs.Float.Ieee.{of_int, of_bits, add, sub, mul, div, lt, le}
use Rattle.sqrt.specs.Root.{root_of}
use Rattle.smooth.specs.declared.scheme.Settings.{Settings}
use Rattle.smooth.specs.Segments.{entering_behind}
use Rattle.smooth.specs.Round.{round_of}

abbrev whole : ℤ → Float
whole n = of_int binary64 n

abbrev square : List Float
square = whole (pos 0) ∷ whole (pos 0) ∷ whole (pos 4) ∷ whole (pos 0) ∷ whole (pos 4) ∷ whole (pos 4) ∷ whole (pos 0) ∷ whole (pos 4) ∷ whole (pos 0) ∷ whole (pos 0) ∷ []

abbrev settings : Settings
settings = record { ratio = whole (pos 8); length = whole (pos 1) }

-- (2, -0.5), and both new parts are longer than 1
no_corners : entering_behind square (0 ∷ 0 ∷ 0 ∷ 0 ∷ []) settings true 4 0 ≡ Some (record { point = record { x = whole (pos 2); y = of_bits binary64 0xbfe0000000000000 }; settled = false })
unfolding entering_behind of_int of_bits add sub mul div lt le root_of
no_corners = refl

-- (2, -0.25)
first_a_corner : entering_behind square (1 ∷ 0 ∷ 0 ∷ 0 ∷ []) settings true 4 0 ≡ Some (record { point = record { x = whole (pos 2); y = of_bits binary64 0xbfd0000000000000 }; settled = false })
unfolding entering_behind of_int of_bits add sub mul div lt le root_of
first_a_corner = refl

all_corners : (round_of square (1 ∷ 1 ∷ 1 ∷ 1 ∷ []) settings true).finished ≡ true
unfolding round_of of_int of_bits add sub mul div lt le root_of
all_corners = refl
