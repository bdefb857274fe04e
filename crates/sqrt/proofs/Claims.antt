-- What follows of the contracts, for readers and callers; what the root is like stands in CorrectlyRounded. Assumes nothing.
use Prim.Native.Nat.{ℕ}
use lib.Ieee.{Float, binary64}
use Rattle.sqrt.specs.Root.{root_of, root_bits}
use Rattle.sqrt.proofs.root.sqrt.Reads.{Post as Sqrt}
use Rattle.sqrt.proofs.root.sqrt_bits.Reads.{Post as SqrtBits}
use Rattle.laws.proofs.Determined.{Determined, same}

-- Each contract leaves no choice: of equal arguments it allows one result. `Post` is the contract itself, as Rattle reads it off the source.

pub sqrt_determined : Determined Float Float Sqrt (λ _ a. a.0) (λ _ r s. r)
sqrt_determined = same (root_of binary64) (λ _ a r s p. p)

pub sqrt_bits_determined : Determined ℕ ℕ SqrtBits (λ _ a. a.0) (λ _ r s. r)
sqrt_bits_determined = same root_bits (λ _ a r s p. p)
