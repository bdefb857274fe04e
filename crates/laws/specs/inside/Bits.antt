-- The digits that are set in a number.
use Rattle.std.specs.Prelude.{ℕ, zero, suc, ◌+◌, ◌/◌, ◌%◌, ◌^◌}

-- how many of the k low digits of n are set
unfoldable pub set_bits : ℕ → ℕ → ℕ
set_bits zero n = 0
set_bits (suc k) n = n / 2 ^ k % 2 + set_bits k n
