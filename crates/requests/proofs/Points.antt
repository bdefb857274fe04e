-- What stands behind a place of a frame, as the code hands it on. Assumes nothing.
use Prim.Native.Nat.{ℕ, ◌-◌}
use mathlib.Core.List.{List}
use mathlib.Core.Path.{◌≡◌}
use native.Mathlib.Omega.{arith}
use lib.ListN.{length, take, drop, length-drop}
use lib.Seq.{take_all}

-- what stands behind place m
pub rest_is : (f : List ℕ) (m : ℕ) → take (length f - m) (drop m f) ≡ drop m f
rest_is f m = take_all (length f - m) (drop m f) (omega (arith, length-drop m f))
