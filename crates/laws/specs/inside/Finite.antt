-- Floats with the sign +.
use Rattle.std.specs.Prelude.{false, ◌≡◌, Float}
use Rattle.std.specs.Float.{nan, inf, fin}

abbrev pub Plus : Float → Type 0
Plus nan = ⊥
Plus (inf s) = s ≡ false
Plus (fin s m e) = s ≡ false

-- a number with the sign +: finite or +infinity. So neither a NaN nor -0
pub record NonNeg (x : Float) : Type 0 where
  pub plus : Plus x
