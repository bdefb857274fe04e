-- A test of the area's sign for each way round.
use Prim.Native.Nat.{ℕ, zero, suc}
use mathlib.Core.Bool.{Bool, true, false}
use mathlib.Core.Path.{◌≡◌, refl}
use native.Mathlib.Nat.{zero-lt-suc}
use native.Mathlib.Omega.{arith}
use lib.IntN.{ℤ, pos, negsuc}
use lib.Signed.{lt_z}
use borrow.Author.Rules.{rules}
use borrow.Author.Tests.{lt-ltb, le-ltb, ne_eqb}
use Rattle.util.proofs.ByBits.{area_by_cross}
use Rattle.simplify.specs.Staircase.{outwards}
use Rattle.simplify.proofs.steps.outwards.Goals as goal

not_zero : (n : ℕ) → suc n ≡ 0 → ⊥
not_zero n e = omega arith

above : (area : ℤ) → lt_z (pos 0) area ≡ outwards true area
above (pos zero) = refl
above (pos (suc n)) = rw (lt-ltb 0 (suc n) (zero-lt-suc n), ne_eqb (suc n) 0 (not_zero n))
above (negsuc n) = rw (ne_eqb (suc n) 0 (not_zero n))

below : (area : ℤ) → lt_z area (pos 0) ≡ outwards false area
below (pos zero) = refl
below (pos (suc n)) = rw (le-ltb (suc n) 0 (omega arith), lt-ltb 0 (suc n) (zero-lt-suc n), ne_eqb (suc n) 0 (not_zero n))
below (negsuc n) = rw (ne_eqb (suc n) 0 (not_zero n))

module _ (clockwise : Bool) (z area : ℤ) (e : z ≡ area) where
  clockwise_turn : clockwise ≡ true → lt_z (pos 0) z ≡ outwards clockwise area
  clockwise_turn t = rw (t, e) (above area)

  other_turn : clockwise ≡ false → lt_z z (pos 0) ≡ outwards clockwise area
  other_turn t = rw (t, e) (below area)

pub returns-then-clockwise : goal.returns-then-clockwise
returns-then-clockwise c = search (clockwise_turn, area_by_cross, rules)

pub returns-else-clockwise : goal.returns-else-clockwise
returns-else-clockwise c = search (other_turn, area_by_cross, rules)
