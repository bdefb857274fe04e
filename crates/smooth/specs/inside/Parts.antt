-- The parts of a round as the code has them.
use Rattle.std.specs.Prelude.{ℕ, ◌+◌, ◌-◌, ◌*◌, Bool, true, false, List, [], ◌∷◌, ◌≡◌, Float, length, set, get_or, Option, Some, None}
use Rattle.point.specs.declared.PointF64.{PointF64}
use Rattle.smooth.specs.Places.{place_at}
use Rattle.smooth.specs.Segments.{entering_behind}
use Rattle.smooth.specs.declared.scheme.Settings.{Settings}
use Rattle.smooth.specs.declared.scheme.Entering.{Entering}
use Rattle.smooth.specs.declared.subdivide.Step.{Step}

-- ---- before the round

-- how many points a round of m can make at most. Nothing enters behind the last point of an open list, and a closed one is closed again
abbrev pub room_for : Bool → ℕ → ℕ
room_for true m = m * 2 + 1
room_for false m = m * 2 - 1

-- ---- what a turn of the round puts down: the point at i and what enters behind it, a flag for each, and whether that is settled

abbrev pub list_of : Option Entering → List PointF64
list_of None = []
list_of (Some new) = new.point ∷ []

abbrev pub flags_of : Option Entering → List ℕ
flags_of None = []
flags_of (Some new) = 0 ∷ []

abbrev pub settled_of : Option Entering → Bool
settled_of None = true
settled_of (Some new) = new.settled

unfoldable pub turn_points : List Float → List ℕ → Settings → Bool → ℕ → ℕ → List PointF64
turn_points list corners settings closed m i = place_at list i ∷ list_of (entering_behind list corners settings closed m i)

unfoldable pub turn_flags : List Float → List ℕ → Settings → Bool → ℕ → ℕ → List ℕ
turn_flags list corners settings closed m i = get_or corners i 0 ∷ flags_of (entering_behind list corners settings closed m i)

unfoldable pub turn_settled : List Float → List ℕ → Settings → Bool → ℕ → ℕ → Bool
turn_settled list corners settings closed m i = settled_of (entering_behind list corners settings closed m i)

-- points, and flags, written one after the other from position k on
unfoldable pub put_points : ℕ → List PointF64 → List Float → List Float
put_points k [] out = out
put_points k (p ∷ ps) out = put_points (k + 1) ps (set (set out (k * 2) p.x) (k * 2 + 1) p.y)

unfoldable pub put_flags : ℕ → List ℕ → List ℕ → List ℕ
put_flags k [] flags = flags
put_flags k (v ∷ vs) flags = put_flags (k + 1) vs (set flags k v)

pub record Turned (list : List Float) (corners : List ℕ) (settings : Settings) (closed : Bool) (m i k : ℕ) (out : List Float) (flags : List ℕ)
    (step : Step) (out' : List Float) (flags' : List ℕ) : Type 0 where
  pub counted : step.k ≡ k + length (turn_points list corners settings closed m i)
  pub judged : step.settled ≡ turn_settled list corners settings closed m i
  pub points : out' ≡ put_points k (turn_points list corners settings closed m i) out
  pub flagged : flags' ≡ put_flags k (turn_flags list corners settings closed m i) flags
