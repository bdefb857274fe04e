-- Numbers of the sizes that a corner is judged by, handed on by their bits, are their own. Assumes nothing.
use Prim.Native.Nat.{◌≤◌}
use mathlib.Core.Path.{◌≡◌}
use native.Mathlib.Omega.{arith}
use mir.Syntax.{w64}
use mir.Val.{of_z, to_z}
use mir.ValLaws.{to_z-of_z}
use lib.IntN.{ℤ, nat_abs}
use Rattle.laws.proofs.Integers.{sfits_abs}

pub wide_by_bits : (z : ℤ) → nat_abs z ≤ 2147221512000 → to_z w64 (of_z w64 z) ≡ z
wide_by_bits z h = to_z-of_z w64 z (sfits_abs (omega arith))
