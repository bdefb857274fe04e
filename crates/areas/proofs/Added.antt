-- An edge more, added to a sum that is small enough, or taken off: by its bits it is the sum, or the difference. Assumes nothing.
use Prim.Native.Nat.{ℕ, ◌≤◌}
use mathlib.Core.Path.{◌≡◌}
use native.Mathlib.Nat.{le_trans}
use native.Mathlib.Omega.{arith}
use lib.Dec.{T, leb, leb→le}
use mir.Syntax.{w64}
use mir.Val.{of_z, to_z}
use lib.IntN.{ℤ, nat_abs, ◌+ℤ◌, ◌-ℤ◌}
use Rattle.laws.proofs.Integers.{abs_add_le, abs_sub_le}
use Rattle.util.proofs.ByBits.{wide_by_bits}
use Rattle.point.specs.declared.PointI32.{PointI32}
use Rattle.areas.specs.Areas.{edge}
use Rattle.areas.specs.declared.Areas.{Areas}
use Rattle.areas.specs.inside.Added.{Small, Smallish, edge_added, chord_added, closing_added}

module _ (a b : ℤ) {m : ℕ} (h : nat_abs a ≤ m) (few : T (leb m 9000536805378)) (k : nat_abs b ≤ 536805378) where
  most : nat_abs a ≤ 9000536805378
  most = le_trans h (leb→le m 9000536805378 few)

  pub sum_is : to_z w64 (of_z w64 (to_z w64 (of_z w64 a) +ℤ to_z w64 (of_z w64 b))) ≡ a +ℤ b
  sum_is = rw (wide_by_bits a (omega (arith, most)), wide_by_bits b (omega arith)) (wide_by_bits (a +ℤ b) (omega (arith, abs_add_le a b most k)))

  pub difference_is : to_z w64 (of_z w64 (to_z w64 (of_z w64 a) -ℤ to_z w64 (of_z w64 b))) ≡ a -ℤ b
  difference_is = rw (wide_by_bits a (omega (arith, most)), wide_by_bits b (omega arith)) (wide_by_bits (a -ℤ b) (omega (arith, abs_sub_le a b most k)))

-- ---- three sums, and an edge that is added to some of them

abbrev bits : ℤ → ℤ
bits z = to_z w64 (of_z w64 z)

module _ (sums : Areas) (r : ℤ) (k : nat_abs r ≤ 536805378) (small : Small sums) where
  pub along_small : Smallish (record { whole = bits (bits sums.whole +ℤ bits r); kept = bits sums.kept; gaps = bits (bits sums.gaps +ℤ bits r) })
  along_small =
      rw (sum_is sums.whole r small.whole tt k, sum_is sums.gaps r small.gaps tt k, wide_by_bits sums.kept (omega (arith, small.kept)))
      (record {
        whole = abs_add_le sums.whole r small.whole k;
        kept = omega (arith, small.kept);
        gaps = abs_add_le sums.gaps r small.gaps k;
      })

module _ (sums : Areas) (p q : PointI32) (r : ℤ) (is : r ≡ edge p q) (k : nat_abs r ≤ 536805378) where
  module _ (small : Small sums) where
    pub along_made : record { whole = bits (bits sums.whole +ℤ bits r); kept = bits sums.kept; gaps = bits (bits sums.gaps +ℤ bits r) } ≡ edge_added sums p q
    along_made =
        rw (
          sum_is sums.whole r small.whole tt k,
          sum_is sums.gaps r small.gaps tt k,
          wide_by_bits sums.kept (omega (arith, small.kept)),
          is,
        )

    pub closed_made : record { whole = bits (bits sums.whole +ℤ bits r); kept = bits (bits sums.kept +ℤ bits r); gaps = bits sums.gaps } ≡ closing_added sums p q
    closed_made =
        rw (
          sum_is sums.whole r small.whole tt k,
          sum_is sums.kept r small.kept tt k,
          wide_by_bits sums.gaps (omega (arith, small.gaps)),
          is,
        )

  pub across_made : Smallish sums →
      record { whole = bits sums.whole; kept = bits (bits sums.kept +ℤ bits r); gaps = bits (bits sums.gaps -ℤ bits r) } ≡ chord_added sums p q
  across_made small =
      rw (sum_is sums.kept r small.kept tt k, difference_is sums.gaps r small.gaps tt k, wide_by_bits sums.whole (omega (arith, small.whole)), is)
