-- How a verdict leads to the outcome of the call. Assumes nothing.
use Prim.Native.Nat.{ℕ}
use mathlib.Core.Bool.{Bool}
use mathlib.Core.List.{List}
use mathlib.Core.Path.{◌≡◌}
use lib.Ieee.{Float}
use lib.ListN.{length}
use Rattle.point.specs.declared.refusal.Refusal.{Refusal}
use Rattle.smooth.specs.declared.scheme.Settings.{Settings}
use Rattle.point.specs.Outcomes.{verdict}
use Rattle.std.specs.Prelude.{Result, Ok, Err}
use Rattle.std.specs.Result.{IsErrAnd}
use Rattle.point.proofs.Verdicts.{refused_is, fine_is}
use Rattle.smooth.specs.declared.Subdivided.{Subdivided}
use Rattle.smooth.specs.Round.{round_of, closing}
use Rattle.smooth.specs.Calls.{round_refusal, rounded, subdivided_of}

module _ (list : List Float) (corners : List ℕ) (settings : Settings) (closed : Bool) (out : List Float) (flags : List ℕ) (v : Result Unit Refusal)
    (says : v ≡ verdict (round_refusal list corners settings closed (length out) (length flags))) where
  -- `a` is what a `?` hands on
  pub refused_outcome : (r : Refusal) → v ≡ Err r → (a : Result Subdivided Refusal) → IsErrAnd a (λ e. e ≡ r) →
      record { answer = a; out = (out, flags) } ≡ subdivided_of list corners settings closed out flags
  unfolding subdivided_of
  refused_outcome r e (Ok x) h = absurd h
  refused_outcome r e (Err q) h = rw (h, refused_is v (round_refusal list corners settings closed (length out) (length flags)) r says e)

  pub done_outcome : v ≡ Ok tt → (r : Result Subdivided Refusal) (out' : List Float) (flags' : List ℕ) →
      record { answer = r; out = (out', flags') } ≡ rounded (round_of list corners settings closed) (closing list closed) out flags →
      record { answer = r; out = (out', flags') } ≡ subdivided_of list corners settings closed out flags
  unfolding subdivided_of
  done_outcome fine r out' flags' e = rw (fine_is v (round_refusal list corners settings closed (length out) (length flags)) says fine) e
