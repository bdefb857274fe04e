-- What follows of the contract, for readers and callers. The contract is that of `sqrt::sqrt`, word for word: so both answer alike, and what is
-- proved of the root (CorrectlyRounded of that crate) holds here too. Assumes nothing.
use lib.Ieee.{Float, binary64}
use Rattle.sqrt.specs.Root.{root_of}
use Rattle.by_halves.proofs.sqrt.Reads.{Post as Sqrt}
use Rattle.laws.proofs.Determined.{Determined, same}

-- The contract leaves no choice: of equal arguments it allows one result. `Post` is the contract itself, as Rattle reads it off the source.
pub sqrt_determined : Determined Float Float Sqrt (λ _ a. a.0) (λ _ r s. r)
sqrt_determined = same (root_of binary64) (λ _ a r s p. p)
