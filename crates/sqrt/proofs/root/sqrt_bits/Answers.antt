-- The tests on the way tell what the pattern stands for, and so which root is asked.
use Rattle.std.proofs.Common.{◌≡◌, ℕ, ◌*◌, ◌%◌, ◌^◌, ◌<◌, ap, ◌∙◌, sym, arith}
use lib.Ieee.{binary64, to_bits, of_bits}
use Rattle.sqrt.specs.Root.{nearest_root, root_bits}
use Rattle.sqrt.proofs.CorrectlyRounded.{root_of_infinity}
use Rattle.sqrt.proofs.nearest.Patterns.{root_of_units, reads_subnormal}
use Rattle.sqrt.proofs.root.sqrt_bits.Goals as goal

pub returns-then-b-eq-INFINITY : goal.returns-then-b-eq-INFINITY
returns-then-b-eq-INFINITY c = sym root_of_infinity ∙ ap root_bits (sym c.if-b-eq-INFINITY.true)

-- a positive number without the leading digit is so many units as its pattern says
subnormal : (b r : ℕ) → 0 < b → b % 2 ^ 52 ≡ b → b < 2 ^ 52 →
    r ≡ to_bits binary64 (nearest_root binary64 (b % 2 ^ 52 * 2 ^ 1074)) → r ≡ root_bits b
subnormal b r p e l h =
    h ∙ ap (λ (n : ℕ). to_bits binary64 (nearest_root binary64 (n * 2 ^ 1074))) e
    ∙ ap (to_bits binary64) (sym (root_of_units binary64 b p (of_bits binary64 b) (reads_subnormal binary64 b l)))

pub returns-then-field-eq0 : goal.returns-then-field-eq0
returns-then-field-eq0 c =
    subnormal c.args.b c.subnormal_root.result (omega arith) (omega arith) (omega arith) c.subnormal_root.ensures
