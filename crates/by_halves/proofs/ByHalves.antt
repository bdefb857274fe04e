-- The arithmetic of a root found by halves (P. Zimmermann, Karatsuba square root, 1999). Of a number's leading digits s is the whole root,
-- and r is left; high and low are the two digits that follow, in base b. What is left, with high, is divided by twice s: the quotient is the
-- root's next digit, or one more than that. Nothing here is about words. Assumes nothing.
use Prim.Native.Nat.{ℕ, zero, suc, ◌+◌, ◌-◌, ◌*◌, ◌/◌, ◌%◌, ◌^◌, ◌≤◌, ◌<◌}
use mathlib.Core.Path.{◌≡◌, ap}
use native.Mathlib.Nat.{le_of_suc-le-suc, lt_of_mul-lt-mul_left, mul-le-mul, mul-le-mul_right, mul-pos, mod-lt, div-add-mod}
use native.Mathlib.Omega.{arith}
use Rattle.sqrt.specs.inside.Whole.{Found}

module _ (s r b high low : ℕ) (small : r ≤ 2 * s) (long : b ≤ 2 * s) (first : high < b) (second : low < b) where
  abbrev digit : ℕ
  digit = (r * b + high) / (s * 2)

  abbrev rest : ℕ
  rest = (r * b + high) % (s * 2)

  divided : s * 2 * digit + rest ≡ r * b + high
  divided = div-add-mod (r * b + high) (s * 2)

  -- what a division by twice s leaves of t, whatever t is
  pub rest_small : (t : ℕ) → t % (s * 2) < s * 2
  rest_small t = mod-lt t (omega arith)

  -- the quotient is a digit, or the base itself
  pub digit_le : digit ≤ b
  digit_le = le_of_suc-le-suc (lt_of_mul-lt-mul_left (s * 2) (omega (arith, divided, mul-le-mul_right b small)))

  -- the bits of the root: 54 at the most
  pub root_small : s < 2 ^ 27 → b ≤ 2 ^ 26 → s * b + digit < 2 ^ 54
  root_small few base = let t : s ≤ 2 ^ 27 = omega arith in omega (arith, digit_le, mul-le-mul t base)

  -- with the quotient for a digit, rest * b + low is left, and the square of the digit is to be taken off
  pub left_small : (t : ℕ) → t % (s * 2) * b + low ≤ 2 * (s * b + digit)
  left_small t = omega (arith, mul-le-mul_right b (rest_small t))

  pub square_small : digit * digit < 2 * (s * b + digit)
  square_small = by_digit digit (omega (arith, mul-le-mul digit_le digit_le, mul-le-mul_right b long))
    where
      by_digit : (d : ℕ) → d * d ≤ 2 * (s * b) → d * d < 2 * (s * b + d)
      by_digit zero h = let p : 0 < s * b = mul-pos (omega arith) (omega arith) in omega arith
      by_digit (suc d) h = omega arith

  pub longer : (root left : ℕ) →
      Found ((s * b + digit) * (s * b + digit) + (rest * b + low) - digit * digit) root left 1 →
      Found ((s * s + r) * (b * b) + high * b + low) root left 1
  longer root left found =
      let all : (s * s + r) * (b * b) + high * b + low + digit * digit ≡ (s * b + digit) * (s * b + digit) + (rest * b + low) =
      omega (arith, ap (λ (x : ℕ). x * b) divided) in
      record { square = omega (arith, found.square); near = found.near }

-- ---- more is to be taken off a square than is left beside it

module _ (root left square : ℕ) where
  pub from_root : square < 2 * root → left < square → Found (root * root + left - square) (root - 1) (left + (root * 2 - 1) - square) 1
  from_root small h = by_root root small
    where
      by_root : (n : ℕ) → square < 2 * n → Found (n * n + left - square) (n - 1) (left + (n * 2 - 1) - square) 1
      by_root zero s = absurd (omega arith)
      by_root (suc n) s = let e : suc n - 1 ≡ n = omega arith in rw e (record { square = omega arith; near = omega arith })
