-- The four pixels around a lattice point, out of their number. Assumes nothing.
use Prim.Native.Nat.{ℕ, ◌+◌, ◌*◌, ◌/◌, ◌%◌, ◌≤◌, ◌<◌}
use mathlib.Core.List.{List}
use mathlib.Core.Path.{◌≡◌}
use native.Mathlib.Omega.{arith}
use lib.IntN.{ℤ, pos, ◌-ℤ◌}
use Rattle.chart.specs.declared.Chart.{Chart}
use Rattle.chart.specs.Pixels.{pixel_at, one, around_of}
use Rattle.chart.proofs.BitPlaces.{one_le}

abbrev Digits : ℕ → ℕ → ℕ → ℕ → ℕ → Type 0
Digits n a b c d = (n < 16) × (n / 8 % 2 ≡ a) × (n / 4 % 2 ≡ b) × (n / 2 % 2 ≡ c) × (n % 2 ≡ d)

digits : (a b c d : ℕ) → a ≤ 1 → b ≤ 1 → c ≤ 1 → d ≤ 1 → Digits (8 * a + 4 * b + 2 * c + d) a b c d
digits a b c d h i j k = omega arith

module _ (c : Chart) (pixels : List ℕ) (x y : ℤ) where
  abbrev at : ℤ → ℤ → ℕ
  at u v = one (pixel_at c pixels u v)

  at_le : (u v : ℤ) → at u v ≤ 1
  at_le u v = one_le (pixel_at c pixels u v)

  four : Digits (around_of c pixels x y) (at (x -ℤ pos 1) (y -ℤ pos 1)) (at x (y -ℤ pos 1)) (at (x -ℤ pos 1) y) (at x y)
  unfolding around_of
  four = digits _ _ _ _ (at_le (x -ℤ pos 1) (y -ℤ pos 1)) (at_le x (y -ℤ pos 1)) (at_le (x -ℤ pos 1) y) (at_le x y)

  pub around_lt : around_of c pixels x y < 16
  around_lt = four.0

  pub above_left : around_of c pixels x y / 8 % 2 ≡ one (pixel_at c pixels (x -ℤ pos 1) (y -ℤ pos 1))
  above_left = four.1

  pub above_right : around_of c pixels x y / 4 % 2 ≡ one (pixel_at c pixels x (y -ℤ pos 1))
  above_right = four.2

  pub below_left : around_of c pixels x y / 2 % 2 ≡ one (pixel_at c pixels (x -ℤ pos 1) y)
  below_left = four.3

  pub below_right : around_of c pixels x y % 2 ≡ one (pixel_at c pixels x y)
  below_right = four.4
