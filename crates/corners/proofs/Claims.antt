-- What follows of the contract, for its readers and its callers. Assumes nothing.
use Prim.Native.Nat.{ℕ}
use mathlib.Core.Bool.{Bool}
use mathlib.Core.List.{List}
use mathlib.Core.Path.{◌≡◌, refl}
use lib.IntN.{ℤ}
use lib.ListN.{length}
use Rattle.laws.specs.Outcome.{Outcome}
use Rattle.laws.proofs.Determined.{Determined, same}
use Rattle.point.specs.Points.{count, seen}
use Rattle.std.specs.Prelude.{Result, Err}
use Rattle.point.specs.declared.refusal.Refusal.{Refusal}
use Rattle.point.proofs.Claims.{refusal_changes_nothing}
use Rattle.corners.specs.declared.Pair.{Pair}
use Rattle.corners.specs.Corners.{corners_of}
use Rattle.corners.specs.Calls.{corners_refusal, flagged, find_corners_of}
use Rattle.corners.proofs.Flagged.{one_each}
use Rattle.corners.proofs.flags.find_corners.Reads.{Post as FindCorners}

-- ---- The contract leaves no choice: of equal arguments it allows one answer, and one last content of the flags. `Post` is the contract
-- itself, as Rattle reads it off the source, at arguments `a`, a result `r` and parameters at exit `s`.

pub find_corners_determined : Determined (List ℤ × Pair × Bool × List ℕ) (Outcome (Result ℕ Refusal) (List ℕ)) FindCorners
    (λ _ a. (a.0.now, a.1.0, a.1.1.0, a.1.1.1.0.now))
    (λ _ r s. record { answer = r; out = s.1.1.1.0.now })
find_corners_determined = same (λ x. find_corners_of x.0 x.1 x.2 x.3) (λ _ a r s p. p)

module _ (list : List ℤ) (pair : Pair) (closed : Bool) where
  -- ---- a refusal changes no flag

  pub find_corners_unchanged : (flags : List ℕ) (r : Refusal) → (find_corners_of list pair closed flags).answer ≡ Err r →
      (find_corners_of list pair closed flags).out ≡ flags
  unfolding find_corners_of
  find_corners_unchanged flags r =
      refusal_changes_nothing (corners_refusal list pair closed (length flags)) flags (flagged list pair closed flags) (seen (count list) closed) refl r

  -- ---- there is one flag for each point that is looked at

  pub one_flag_each : length (corners_of list pair closed) ≡ seen (count list) closed
  one_flag_each = one_each list pair closed (seen (count list) closed) refl
