-- Three sums, as they are added up on the way along a list.
use Rattle.std.specs.Prelude.{ℕ, ◌≤◌, nat_abs, ◌+ℤ◌, ◌-ℤ◌}
use Rattle.point.specs.declared.PointI32.{PointI32}
use Rattle.areas.specs.Areas.{edge}
use Rattle.areas.specs.declared.Areas.{Areas}

-- an edge of the list; a chord from a kept point to the next; and the edge that closes the list
abbrev pub edge_added : Areas → PointI32 → PointI32 → Areas
edge_added sums prev p = record { whole = sums.whole +ℤ edge prev p; kept = sums.kept; gaps = sums.gaps +ℤ edge prev p }

abbrev pub chord_added : Areas → PointI32 → PointI32 → Areas
chord_added sums from p = record { whole = sums.whole; kept = sums.kept +ℤ edge from p; gaps = sums.gaps -ℤ edge from p }

abbrev pub closing_added : Areas → PointI32 → PointI32 → Areas
closing_added sums last first = record { whole = sums.whole +ℤ edge last first; kept = sums.kept +ℤ edge last first; gaps = sums.gaps }

-- they are so small that an edge can be added, and behind it a chord
pub record Within (most : ℕ) (sums : Areas) : Type 0 where
  pub whole : nat_abs sums.whole ≤ most
  pub kept : nat_abs sums.kept ≤ most
  pub gaps : nat_abs sums.gaps ≤ most

abbrev pub Small : Areas → Type 0
Small sums = Within 9000000000000 sums

abbrev pub Smallish : Areas → Type 0
Smallish sums = Within 9000536805378 sums
