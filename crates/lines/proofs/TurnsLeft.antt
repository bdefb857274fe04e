-- How many turns are to come at most before a program that answers lines ends: each turn makes them fewer. Assumes nothing.
use Prim.Native.Nat.{ℕ, ◌+◌, ◌*◌, ◌≤◌, ◌<◌, min}
use mathlib.Core.Bool.{Bool, true, false}
use mathlib.Core.Path.{◌≡◌, refl}
use native.Mathlib.Omega.{arith}
use lib.Dec.{eqb}
use borrow.Author.Tests.{eqb-false}

-- the read that brings nothing, if it is to come
abbrev pub to_read : Bool → ℕ
to_read true = 0
to_read false = 1

-- the line of which all that is held was dropped, if there is one, and its write
abbrev pub to_drop : Bool → ℕ
to_drop true = 2
to_drop false = 0

-- a read, a line and a write for each byte that is left, a line and a write for each that is held, and a write of what waits
abbrev pub turns_to : Bool → Bool → ℕ → ℕ → ℕ → ℕ
turns_to over long held left waiting = 3 * left + 2 * held + to_drop long + min 1 waiting + to_read over

-- a read that brings nothing is the last
pub last_read : (n : ℕ) → to_read (eqb n 0) ≤ n
last_read n = by (eqb n 0) refl
  where
    by : (t : Bool) → eqb n 0 ≡ t → to_read t ≤ n
    by true e = omega arith
    by false e = omega (arith, eqb-false n 0 e)

-- a line that is not empty, or was too long, has its two turns
pub two_back : (long : Bool) (n : ℕ) → (long ≡ false → 0 < n) → 2 ≤ 2 * n + to_drop long
two_back true n h = omega arith
two_back false n h = omega (arith, h refl)
