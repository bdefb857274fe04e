-- What follows of the contracts, for their readers and their callers. Assumes nothing.
use Prim.Native.Nat.{ℕ, ◌*◌, ◌≤◌}
use mathlib.Core.Bool.{Bool}
use mathlib.Core.List.{List}
use mathlib.Core.Path.{◌≡◌}
use lib.Ieee.{Float}
use lib.ListN.{length}
use Rattle.laws.specs.Outcome.{Outcome}
use Rattle.laws.proofs.Determined.{Determined, same}
use Rattle.point.specs.Points.{count, seen}
use Rattle.point.specs.declared.refusal.Refusal.{Refusal}
use Rattle.point.proofs.Claims.{refusal_changes_nothing}
use Rattle.smooth.specs.Round.{round_of, closing}
use Rattle.smooth.specs.Calls.{round_refusal, rounded, subdivided_of}
use Rattle.std.specs.Prelude.{Result, Err}
use Rattle.smooth.specs.declared.scheme.Settings.{Settings}
use Rattle.smooth.specs.declared.Subdivided.{Subdivided}
use Rattle.smooth.proofs.Turns.{twice_at_most, flag_for_each}
use Rattle.smooth.proofs.subdivide.subdivide_keep_corners.Reads.{Post as Subdivide}

-- ---- Each contract leaves no choice: of equal arguments it allows one answer, and one last content of both buffers. `Post` is the contract
-- itself, as Rattle reads it off the source, at arguments `a`, a result `r` and parameters at exit `s`.

pub subdivide_determined : Determined (List Float × List ℕ × Settings × Bool × List Float × List ℕ) (Outcome (Result Subdivided Refusal) (List Float × List ℕ)) Subdivide
    (λ _ a. (a.0.now, a.1.0.now, a.1.1.0, a.1.1.1.0, a.1.1.1.1.0.now, a.1.1.1.1.1.0.now))
    (λ _ r s. record { answer = r; out = (s.1.1.1.1.0.now, s.1.1.1.1.1.0.now) })
subdivide_determined = same (λ x. subdivided_of x.0 x.1 x.2 x.3 x.4 x.5) (λ _ a r s p. p)

module _ (list : List Float) (corners : List ℕ) (settings : Settings) (closed : Bool) where
  -- ---- a refusal changes no buffer

  pub subdivide_unchanged : (out : List Float) (flags : List ℕ) (r : Refusal) → (subdivided_of list corners settings closed out flags).answer ≡ Err r →
      (subdivided_of list corners settings closed out flags).out ≡ (out, flags)
  unfolding subdivided_of
  subdivide_unchanged out flags r =
      refusal_changes_nothing (round_refusal list corners settings closed (length out) (length flags)) (out, flags)
      (rounded (round_of list corners settings closed) (closing list closed) out flags) _ (λ i. (rounded (round_of list corners settings closed) (closing list closed) out flags).answer) r

  -- ---- a round makes at most twice as many points as it looks at, and a flag for each; the closing point of a closed list has none

  pub twice_as_many : length (round_of list corners settings closed).points ≤ seen (count list) closed * 2
  unfolding round_of
  twice_as_many = twice_at_most list corners settings closed (seen (count list) closed) 0 (seen (count list) closed)

  pub one_flag_each : length (round_of list corners settings closed).flags ≡ length (round_of list corners settings closed).points
  unfolding round_of
  one_flag_each = flag_for_each list corners settings closed (seen (count list) closed) 0 (seen (count list) closed)
