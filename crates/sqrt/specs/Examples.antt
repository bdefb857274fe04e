-- Worked examples: antt computes each, so `refl` proves it.
use Rattle.std.specs.Prelude.{◌≡◌, refl}
use Rattle.std.specs.Float.Ieee.{to_bits, of_bits}
use Rattle.sqrt.specs.Root.{root_of, root_bits}

-- document 01: "Root of 2: 3ff6a09e667f3bcd"
root_of_2 : root_bits 0x4000000000000000 ≡ 0x3ff6a09e667f3bcd
unfolding to_bits root_of of_bits
root_of_2 = refl

root_of_4 : root_bits 0x4010000000000000 ≡ 0x4000000000000000
unfolding to_bits root_of of_bits
root_of_4 = refl

root_of_a_quarter : root_bits 0x3fd0000000000000 ≡ 0x3fe0000000000000
unfolding to_bits root_of of_bits
root_of_a_quarter = refl

-- the smallest double, 2^-1074, and the largest finite one
root_of_smallest : root_bits 1 ≡ 0x1e60000000000000
unfolding to_bits root_of of_bits
root_of_smallest = refl

root_of_largest : root_bits 0x7fefffffffffffff ≡ 0x5fefffffffffffff
unfolding to_bits root_of of_bits
root_of_largest = refl

-- -1, -infinity and a NaN with a payload have no root but the NaN
root_of_minus_1 : root_bits 0xbff0000000000000 ≡ 0x7ff8000000000000
unfolding to_bits root_of of_bits
root_of_minus_1 = refl

root_of_minus_infinity : root_bits 0xfff0000000000000 ≡ 0x7ff8000000000000
unfolding to_bits root_of of_bits
root_of_minus_infinity = refl

root_of_a_nan : root_bits 0x7ff0000000000001 ≡ 0x7ff8000000000000
unfolding to_bits root_of of_bits
root_of_a_nan = refl
