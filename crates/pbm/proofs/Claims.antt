-- What follows of the contracts, for their readers and their callers: more stands in `BothWays`. Assumes nothing.
use Prim.Native.Nat.{ℕ}
use mathlib.Core.List.{List}
use mathlib.Core.Path.{◌≡◌, refl}
use lib.ListN.{length}
use Rattle.laws.proofs.Determined.{Determined, same}
use Rattle.std.specs.Prelude.{Err}
use Rattle.point.specs.declared.refusal.Refusal.{Refusal}
use Rattle.point.proofs.Claims.{refusal_changes_nothing}
use Rattle.chart.specs.declared.Chart.{Chart}
use Rattle.pbm.specs.Read.{Reading, read_of}
use Rattle.pbm.specs.Write.{picture_text, Written, text_handed, write_refusal, written_of}
use Rattle.pbm.proofs.theorems.Told.{refused_leaves}
use Rattle.pbm.proofs.read.read_pbm.Reads.{Post as Read}
use Rattle.pbm.proofs.write.write_pbm.Reads.{Post as Write}

-- ---- Each contract leaves no choice: of equal arguments it allows one answer, and one last content of the buffer. `Post` is the contract
-- itself, as Rattle reads it off the source, at arguments `a`, a result `r` and parameters at exit `s`.

pub read_pbm_determined : Determined (List ℕ × List ℕ) Reading Read
    (λ _ a. (a.0.now, a.1.0.now))
    (λ _ r s. record { answer = r; out = s.1.0.now })
read_pbm_determined = same (λ x. read_of x.0 x.1) (λ _ a r s p. p)

pub write_pbm_determined : Determined (Chart × List ℕ × List ℕ) Written Write
    (λ _ a. (a.0, a.1.0.now, a.1.1.0.now))
    (λ _ r s. record { answer = r; out = s.1.1.0.now })
write_pbm_determined = same (λ x. written_of x.0 x.1 x.2) (λ _ a r s p. p)

-- ---- A refusal changes nothing.

pub read_pbm_unchanged : (file pixels : List ℕ) (r : Refusal) → (read_of file pixels).answer ≡ Err r → (read_of file pixels).out ≡ pixels
read_pbm_unchanged = refused_leaves

pub write_pbm_unchanged : (c : Chart) (pixels out : List ℕ) (r : Refusal) → (written_of c pixels out).answer ≡ Err r → (written_of c pixels out).out ≡ out
unfolding written_of
write_pbm_unchanged c pixels out r =
    refusal_changes_nothing (write_refusal c pixels out) out (text_handed (picture_text c pixels) out) (length (picture_text c pixels)) refl r
