-- Points with fractions in lists x, y, x, y.
use Rattle.std.specs.Prelude.{ℕ, ◌+◌, ◌*◌, List, [], ◌∷◌, pos, Float, get_or}
use Rattle.std.specs.Float.{binary64}
use Rattle.std.specs.Float.Ieee.{of_int}
use Rattle.point.specs.declared.PointF64.{PointF64}

-- the point at a position: a value that is not there is 0
abbrev pub place_at : List Float → ℕ → PointF64
place_at list k = record { x = get_or list (k * 2) (of_int binary64 (pos 0)); y = get_or list (k * 2 + 1) (of_int binary64 (pos 0)) }

-- points as values
unfoldable pub flat_f64 : List PointF64 → List Float
flat_f64 [] = []
flat_f64 (p ∷ ps) = p.x ∷ p.y ∷ flat_f64 ps
