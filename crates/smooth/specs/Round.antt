-- One round of subdivision as the Rust makes it (smooth.rs, subdivide_keep_corners): each point, and what enters behind it.
use Rattle.std.specs.Prelude.{ℕ, zero, suc, Bool, true, ◌&&◌, List, [], ◌∷◌, Float, get_or, if◌then◌else◌, Option, Some, None}
use Rattle.point.specs.Points.{count, seen}
use Rattle.point.specs.declared.PointF64.{PointF64}
use Rattle.smooth.specs.Places.{place_at}
use Rattle.smooth.specs.Segments.{entering_behind}
use Rattle.smooth.specs.declared.scheme.Settings.{Settings}
use Rattle.smooth.specs.declared.scheme.Entering.{Entering}

-- what a round makes: points, a flag for each, and whether it is finished
pub record Made : Type 0 where
  pub points : List PointF64
  pub flags : List ℕ
  pub finished : Bool

-- a point that enters, if one does, before the rest: it is no corner, and where it leaves its segment unsettled the round is not finished
abbrev pub with_entered : Option Entering → Made → Made
with_entered None rest = rest
with_entered (Some new) rest = record { points = new.point ∷ rest.points; flags = 0 ∷ rest.flags; finished = new.settled && rest.finished }

-- a point and its flag before the rest
abbrev pub with_point : PointF64 → ℕ → Made → Made
with_point p flag rest = record { points = p ∷ rest.points; flags = flag ∷ rest.flags; finished = rest.finished }

-- the n points from position i on, of m, and what enters behind each
unfoldable pub made_from : List Float → List ℕ → Settings → Bool → ℕ → ℕ → ℕ → Made
unfolding entering_behind
made_from list corners settings closed m i zero = record { points = []; flags = []; finished = true }
made_from list corners settings closed m i (suc n) =
    with_point (place_at list i) (get_or corners i 0)
    (with_entered (entering_behind list corners settings closed m i) (made_from list corners settings closed m (suc i) n))

-- the round of a whole list; a closed one drops its last point unseen
unfoldable pub round_of : List Float → List ℕ → Settings → Bool → Made
unfolding made_from
round_of list corners settings closed = made_from list corners settings closed (seen (count list) closed) 0 (seen (count list) closed)

-- what stands behind the round: a closed list's first point again
abbrev pub closing : List Float → Bool → List PointF64
closing list closed = if closed then (place_at list 0 ∷ []) else []
