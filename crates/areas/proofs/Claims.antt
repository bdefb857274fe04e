-- What follows of the contracts, for their readers and their callers. Assumes nothing.
use mathlib.Core.List.{List}
use lib.IntN.{ℤ}
use lib.Ieee.{Float}
use Prim.Native.Nat.{ℕ}
use Rattle.std.specs.Prelude.{Result}
use Rattle.laws.specs.Outcome.{Outcome}
use Rattle.laws.proofs.Determined.{Determined, same}
use Rattle.point.specs.declared.refusal.Refusal.{Refusal}
use Rattle.areas.specs.declared.Areas.{Areas}
use Rattle.areas.specs.Calls.{twice_area_of, areas_by_of, areas_at_of}
use Rattle.areas.specs.Totals.{together_of}
use Rattle.areas.proofs.lists.twice_area.Reads.{Post as TwiceArea}
use Rattle.areas.proofs.lists.areas_by.Reads.{Post as AreasBy}
use Rattle.areas.proofs.lists.areas_at.Reads.{Post as AreasAt}
use Rattle.areas.proofs.totals.together.Reads.{Post as Together}

-- ---- Each contract leaves no choice: of equal arguments it allows one result. `Post` is the contract itself, as Rattle reads it off the source.

pub twice_area_determined : Determined (List ℤ) (Result ℤ Refusal) TwiceArea (λ _ a. a.0.now) (λ _ r s. r)
twice_area_determined = same twice_area_of (λ _ a r s p. p)

pub areas_by_determined : Determined (List ℤ × List ℕ) (Result Areas Refusal) AreasBy (λ _ a. (a.0.now, a.1.0.now)) (λ _ r s. r)
areas_by_determined = same (λ x. areas_by_of x.0 x.1) (λ _ a r s p. p)

pub areas_at_determined : Determined (List ℤ × Float × List ℕ) (Outcome (Result Areas Refusal) (List ℕ)) AreasAt
    (λ _ a. (a.0.now, a.1.0, a.1.1.0.now))
    (λ _ r s. record { answer = r; out = s.1.1.0.now })
areas_at_determined = same (λ x. areas_at_of x.0 x.1 x.2) (λ _ a r s p. p)

pub together_determined : Determined (Areas × Areas) (Result Areas Refusal) Together (λ _ a. (a.0, a.1.0)) (λ _ r s. r)
together_determined = same (λ x. together_of x.0 x.1) (λ _ a r s p. p)
