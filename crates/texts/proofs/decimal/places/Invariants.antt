-- Behind the digits of `rest` stand `k` - 1 more.
use Rattle.std.proofs.Common.{◌≡◌, ◌+◌, ◌-◌, ◌^◌, ◌<◌, ◌≤◌, length}
use Rattle.texts.specs.Text.{decimal_digits, natural_text}
use Rattle.texts.proofs.decimal.places.Given as goal

abbrev pub invariant-loop-rest : goal.invariant-loop-rest
invariant-loop-rest l =
    (l.k ≤ 20) × (l.rest < 10 ^ (21 - l.k)) × (length (natural_text l.n) + 1 ≡ l.k + length (decimal_digits (21 - l.k) l.rest))

abbrev pub decreases-loop-rest : goal.decreases-loop-rest
decreases-loop-rest l = l.rest
