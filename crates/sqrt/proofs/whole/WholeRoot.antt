-- The whole part of a square root: its square is at most n, the square of the next number is not, and no other number is like that.
-- So a search for digits that ends with such a number has found `whole_root n`. Assumes nothing.
use Prim.Native.Nat.{ℕ, zero, suc, ◌*◌, ◌/◌, ◌^◌, ◌≤◌, ◌<◌}
use mathlib.Core.Bool.{Bool, true, false}
use mathlib.Core.Path.{◌≡◌, refl}
use native.Mathlib.Nat.{lt_of_not-le, not-le_of_lt, lt_of_le_of_lt, mul-le-mul, le-mul_of_pos_right, pow-suc}
use native.Mathlib.Omega.{arith}
use lib.Dec.{leb}
use lib.Ieee.{size}
use lib.Ieee.Digits.{size-lt}
use lib.Pow.{pow_pos}
use borrow.Author.Tests.{leb-true, leb-false}
use Rattle.sqrt.specs.Root.{step, root_below, whole_root}

abbrev pub IsRoot : ℕ → ℕ → Type 0
IsRoot n r = (r * r ≤ n) × (n < suc r * suc r)

-- ---- the definition is such a root

-- one digit more, by the test that `step` makes
next_digit : (n r : ℕ) → IsRoot (n / 4) r → IsRoot n (step n (2 * r) (leb (suc (2 * r) * suc (2 * r)) n))
next_digit n r h = by_test (leb (suc (2 * r) * suc (2 * r)) n) (leb-true _ _) (leb-false _ _)
  where
    by_test : (b : Bool) → (b ≡ true → suc (2 * r) * suc (2 * r) ≤ n) → (b ≡ false → n < suc (2 * r) * suc (2 * r)) →
        IsRoot n (step n (2 * r) b)
    by_test true y n = (y refl, omega arith)
    by_test false y n = (omega arith, n refl)

quarter_below : (n k : ℕ) → n < 2 ^ suc k * 2 ^ suc k → n / 4 < 2 ^ k * 2 ^ k
quarter_below n k h = let e : 2 ^ suc k ≡ 2 ^ k * 2 = pow-suc 2 k in let g : n < 2 ^ k * 2 * (2 ^ k * 2) = rw e at h in omega arith

root_below_is : (k n : ℕ) → n < 2 ^ k * 2 ^ k → IsRoot n (root_below k n)
unfolding root_below
root_below_is zero n h = omega arith
root_below_is (suc k) n h = next_digit n (root_below k (n / 4)) (root_below_is k (n / 4) (quarter_below n k h))

pub whole_root_is : (n : ℕ) → IsRoot n (whole_root n)
unfolding whole_root
whole_root_is n = root_below_is (size n) n (omega (arith, size-lt n, le-mul_of_pos_right (2 ^ size n) (pow_pos (size n))))

-- ---- and there is no other

pub squares_lt : (a b : ℕ) → a * a < b * b → a < b
squares_lt a b h = lt_of_not-le (λ (g : b ≤ a). not-le_of_lt h (mul-le-mul g g))

pub whole_root_only : (n r : ℕ) → r * r ≤ n → n < suc r * suc r → whole_root n ≡ r
whole_root_only n r lo hi =
    let w = whole_root_is n in
    omega (arith, squares_lt (whole_root n) (suc r) (lt_of_le_of_lt w.0 hi), squares_lt r (suc (whole_root n)) (lt_of_le_of_lt lo w.1))
