-- The digits from the place on, behind `n`, decide what all say.
use Rattle.std.proofs.Common.{◌≡◌, ◌<◌, drop}
use Rattle.words.specs.inside.Numbers.{number_from}
use Rattle.words.proofs.digits.read_digits.Given as goal

abbrev pub invariant-loop-b : goal.invariant-loop-b
invariant-loop-b g l = (l.n < 18446744073709551616) × (number_from g.row.BASE 0 l.word ≡ number_from g.row.BASE l.n (drop l.b-index l.word))
