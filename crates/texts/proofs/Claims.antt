-- What follows of the contracts, for their readers and their callers. Assumes nothing.
use Prim.Native.Nat.{ℕ, ◌+◌, ◌≤◌}
use mathlib.Core.List.{List, [], ◌∷◌}
use lib.Dec.{leb}
use lib.IntN.{ℤ}
use lib.ListN.{length}
use borrow.Author.Tests.{leb-true}
use Rattle.laws.proofs.Determined.{Determined, same}
use Rattle.laws.proofs.If.{if_cases}
use Rattle.texts.specs.Text.{natural_text, decimal_text, hex_text}
use Rattle.texts.specs.Put.{Placed, put, held}
use Rattle.texts.proofs.put.Pen.put_byte.Reads.{Post as PutByte}
use Rattle.texts.proofs.put.Pen.put_bytes.Reads.{Post as PutBytes}
use Rattle.texts.proofs.put.Pen.put_hex.Reads.{Post as PutHex}
use Rattle.texts.proofs.put.Pen.put_natural.Reads.{Post as PutNatural}
use Rattle.texts.proofs.put.Pen.put_decimal.Reads.{Post as PutDecimal}

-- Each contract leaves no choice: of equal arguments it allows one answer, and one last content of the buffer. `Post` is the contract itself, as
-- Rattle reads it off the source.

pub put_byte_determined : Determined (ℕ × Placed) Placed PutByte (λ _ a. (a.1.0, held a.0.now)) (λ _ r s. held s.0.now)
put_byte_determined = same (λ x. put (x.0 ∷ []) x.1.out x.1.answer) (λ _ a r s p. p.0)

pub put_bytes_determined : Determined (List ℕ × Placed) Placed PutBytes (λ _ a. (a.1.0.now, held a.0.now)) (λ _ r s. held s.0.now)
put_bytes_determined = same (λ x. put x.0 x.1.out x.1.answer) (λ _ a r s p. p.0)

pub put_hex_determined : Determined (ℕ × ℕ × Placed) Placed PutHex (λ _ a. (a.1.0, a.1.1.0, held a.0.now)) (λ _ r s. held s.0.now)
put_hex_determined = same (λ x. put (hex_text x.1 x.0) x.2.out x.2.answer) (λ _ a r s p. p.0)

pub put_natural_determined : Determined (ℕ × Placed) Placed PutNatural (λ _ a. (a.1.0, held a.0.now)) (λ _ r s. held s.0.now)
put_natural_determined = same (λ x. put (natural_text x.0) x.1.out x.1.answer) (λ _ a r s p. p.0)

pub put_decimal_determined : Determined (ℤ × Placed) Placed PutDecimal (λ _ a. (a.1.0, held a.0.now)) (λ _ r s. held s.0.now)
put_decimal_determined = same (λ x. put (decimal_text x.0) x.1.out x.1.answer) (λ _ a r s p. p.0)

-- The place behind lies in the buffer, or is its end.
pub next_within : (text out : List ℕ) (at : ℕ) → at ≤ length out → (put text out at).answer ≤ length out
unfolding put
next_within text out at h =
    if_cases (λ (o : Placed). o.answer ≤ length out) (leb (at + length text) (length out)) _ _
    (λ t. leb-true (at + length text) (length out) t) (λ t. h)
