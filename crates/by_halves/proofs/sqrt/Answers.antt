-- The bits that are written for a value are read as that value.
use Rattle.std.proofs.Common.{◌≡◌, ℕ, ◌%◌, ◌^◌, ◌<◌, sym, ap, ◌∙◌, rules}
use lib.Dec.{T}
use lib.Ieee.{Float, binary64, fits, to_bits, of_bits}
use lib.Ieee.Bits.{of_bits-to_bits}
use Rattle.sqrt.specs.Root.{root_of}
use Rattle.sqrt.proofs.CorrectlyRounded.{zero_itself}
use Rattle.sqrt.proofs.nearest.RootFits.{through_bits}
use Rattle.by_halves.proofs.sqrt.Goals as goal

zero : (x : Float) (b : ℕ) → T (fits binary64 x) → b ≡ to_bits binary64 x → b < 2 ^ 64 → b % 2 ^ 63 ≡ 0 →
    x ≡ root_of binary64 x
zero x b h e short none =
    through_bits x x b b h e (zero_itself b short none) (sym (ap (of_bits binary64) e ∙ of_bits-to_bits binary64 x h))

pub returns-then-b-eq0 : goal.returns-then-b-eq0
returns-then-b-eq0 c = search (zero, rules)

pub returns : goal.returns
returns c = search (through_bits, rules)
