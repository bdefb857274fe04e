-- What follows of the contracts, for readers and callers. Assumes nothing.
use Prim.Native.Nat.{ℕ}
use lib.Ieee.{Float, binary64, to_bits, of_bits}
use Rattle.bits.proofs.to_bits.Reads.{Post as ToBits}
use Rattle.bits.proofs.from_bits.Reads.{Post as FromBits}
use Rattle.laws.proofs.Determined.{Determined, same}

-- Each contract leaves no choice: of equal arguments it allows one result. `Post` is the contract itself, as Rattle reads it off the source.

pub to_bits_determined : Determined Float ℕ ToBits (λ _ a. a.0) (λ _ r s. r)
to_bits_determined = same (to_bits binary64) (λ _ a r s p. p)

pub from_bits_determined : Determined ℕ Float FromBits (λ _ a. a.0) (λ _ r s. r)
from_bits_determined = same (of_bits binary64) (λ _ a r s p. p)
