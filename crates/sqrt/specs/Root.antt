-- The square root of a value of a format, as IEEE 754 has it (2019, 5.4.1 and 4.3.1): the value of the format that is nearest to the
-- exact root, and of two that are equally near the even one. It compares squares of whole numbers, so it speaks of no real number.
use Prim.Native.Nat.{ℕ, zero, suc, ◌+◌, ◌-◌, ◌*◌, ◌/◌, ◌^◌, compare}
use Rattle.std.specs.Prelude.{Bool, true, false, leb, Float}
use Rattle.std.specs.Float.{nan, inf, fin, Format, binary64}
use Rattle.std.specs.Float.Ieee.{prec, low, up, down, size, nearest, units, to_bits, of_bits}

-- r, or r + 1 if the square of that is still at most n
abbrev pub step : ℕ → ℕ → Bool → ℕ
step n r true = suc r
step n r false = r

-- The whole part of the root of n, an n below 4 ^ k: the greatest whole number whose square is at most n.
-- Twice that of n / 4 is it, or one less.
unfoldable pub root_below : ℕ → ℕ → ℕ
root_below zero n = 0
root_below (suc k) n = let r = 2 * root_below k (n / 4) in step n r (leb (suc r * suc r) n)

unfoldable pub whole_root : ℕ → ℕ
unfolding root_below size
whole_root n = root_below (size n) n

-- The value of the format that is nearest to the root of n squares of the format's smallest value.
-- In units of that smallest value the whole part of the root keeps its `prec` leading digits, q, and drops k. The values on the two
-- sides of the root are q * 2 ^ k and (q + 1) * 2 ^ k, and twice the middle between them is compared with twice the root, by squares.
unfoldable pub nearest_root : Format → ℕ → Float
unfolding whole_root size units
nearest_root f n =
    let k = size (whole_root n) - prec f in
    let q = whole_root n / 2 ^ k in
    let middle = (2 * q + 1) * 2 ^ k in
    units f false (nearest q (compare (4 * n) (middle * middle))) k

-- A value x in squares of the format's smallest value: x / (2 ^ -low) ^ 2. It is a whole number for a value that fits the format.
abbrev pub in_squares : Format → ℕ → ℕ → ℕ
in_squares f num den = num * 2 ^ low f * 2 ^ low f / den

-- "-0 gives -0, +infinity itself, NaN or below zero the NaN"
unfoldable pub root_of : Format → Float → Float
unfolding nearest_root
root_of f nan = nan
root_of f (inf false) = inf false
root_of f (inf true) = nan
root_of f (fin s zero e) = fin s zero e
root_of f (fin true (suc m) e) = nan
root_of f (fin false (suc m) e) = nearest_root f (in_squares f (suc m * up e) (down e))

-- The answer to a pattern: the pattern of the root of the double that it stands for.
abbrev pub root_bits : ℕ → ℕ
root_bits p = to_bits binary64 (root_of binary64 (of_bits binary64 p))
