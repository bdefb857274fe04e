-- What the digits from `i` on say, behind `value`, is what all say.
use Rattle.std.proofs.Common.{◌≡◌, ◌≤◌, drop}
use Rattle.pbm.specs.Header.{digits_from}
use Rattle.pbm.specs.inside.Places.{size_at}
use Rattle.pbm.proofs.decimal.digits.Given as goal

abbrev pub invariant-loop-i : goal.invariant-loop-i
invariant-loop-i l = (l.value ≤ 513) × (size_at l.file (digits_from 0 (drop l.from l.file)) ≡ size_at l.file (digits_from l.value (drop l.i l.file)))
