-- Part of a buffer as an answer: the first values, as many as a call counted. Assumes nothing.
use Prim.Native.Nat.{ℕ, ◌*◌, ◌-◌, ◌≤◌}
use mathlib.Core.List.{List}
use mathlib.Core.Path.{◌≡◌, sym}
use native.Mathlib.Nat.{le_refl, le_trans, mul-le-mul}
use native.Mathlib.Omega.{arith}
use lib.Ieee.{Float}
use lib.IntN.{ℤ}
use lib.ListN.{length, take, length-take}
use lib.Seq.{length-take-le}
use mir.Syntax.{w64}
use mir.Val.{Fits}
use Rattle.frames.specs.Replies.{points_text, numbers_text}
use Rattle.frames.proofs.Sizes.{length_points, length_numbers}

-- all of a part from the start
pub from_start : (n : ℕ) → n - 0 ≡ n
from_start n = omega arith

-- a part of a room for 8,190 values: at most two for each of so few points
module _ (k : ℕ) (few : k * 2 ≤ 8190) where
  at_most_two : (j : ℕ) → j ≤ 2 → k * j ≤ 8190
  at_most_two j h = le_trans (mul-le-mul (le_refl k) h) few

  pub part_fits : (j : ℕ) → j ≤ 2 → Fits w64 (k * j)
  part_fits j h = record { fits = omega (arith, at_most_two j h) }

  pub part_within : (values : List ℤ) (j : ℕ) → j ≤ 2 → length values ≡ 8190 → k * j ≤ length values
  part_within values j h e = omega (arith, at_most_two j h)

pub part_length : {A : Type 0} (n : ℕ) (values : List A) → n ≤ length values → n ≡ length (take n values)
part_length n values h = sym (length-take-le n values h)

-- ---- "Frames both ways hold at most 16,384 bytes": an answer in its room has at most 32,768 digits.

pub points_short : (kind number n : ℕ) (values : List ℤ) → n ≤ 8190 → length (points_text kind number (take n values)) ≤ 32768
points_short kind number n values h = omega (arith, length_points kind number (take n values), length-take n values)

pub numbers_short : (kind number n : ℕ) (values : List Float) → n ≤ 2047 → length (numbers_text kind number (take n values)) ≤ 32768
numbers_short kind number n values h = omega (arith, length_numbers kind number (take n values), length-take n values)
