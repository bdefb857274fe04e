-- Runs of equal points among the m that are looked at, and the nearest points that differ from them.
use Rattle.std.specs.Prelude.{ℕ, zero, suc, ◌<◌, ◌≤◌, Bool, false, not, ◌&&◌, ◌||◌, List, [], ◌∷◌, reverse, ◌≡◌, ℤ, take, if◌then◌else◌}
use Rattle.std.proofs.Math.Seq.{slice}
use Rattle.point.specs.declared.PointI32.{PointI32}
use Rattle.point.specs.Points.{points, point_at, same_point}
use Rattle.point.specs.inside.Near.{Near}
use Rattle.corners.specs.declared.Pair.{Pair}
use Rattle.corners.specs.Corners.{first_other, nearest, turns, flag}
use Rattle.corners.specs.Neighbours.{is_end_at}

-- the points before a position of the first m and those behind it, on each side the nearest first
abbrev pub back : List ℤ → ℕ → List PointI32
back list i = reverse (take i (points list))

abbrev pub ahead : List ℤ → ℕ → ℕ → List PointI32
ahead list m i = slice (suc i) m (points list)

-- whether the point at a position turns
unfoldable pub turn_at : List ℤ → Bool → ℕ → Pair → ℕ → Bool
unfolding nearest turns
turn_at list closed m pair i = turns pair (nearest closed (point_at list i) (back list i) (ahead list m i)) (point_at list i)
    (nearest closed (point_at list i) (ahead list m i) (back list i))

module _ (list : List ℤ) (closed : Bool) (m : ℕ) where
  -- a run of p, behind `from`, that goes from i to k at the least, if k is looked at
  pub record Run (i k : ℕ) (from p : PointI32) : Type 0 where
    pub near : Near p
    pub near_from : Near from
    pub here : k < m → p ≡ point_at list i
    pub behind : k < m → from ≡ nearest closed (point_at list i) (back list i) (ahead list m i)
    pub alike : k < m → (j : ℕ) → i ≤ j → j ≤ k → point_at list j ≡ point_at list i

  -- what a run of p from i up to k turns to, if all there are equal
  pub record To (i k : ℕ) (p to : PointI32) : Type 0 where
    pub near : Near to
    pub next : k < m → to ≡ point_at list k
    pub around : m ≤ k → to ≡ first_other p (if closed then reverse (back list i) else [])

  -- all points from i up to k turn, or none does
  pub record Turned (pair : Pair) (i k : ℕ) (turned : Bool) : Type 0 where
    pub each : (j : ℕ) → i ≤ j → j < k → turned ≡ turn_at list closed m pair j

-- r is the first position from `from` on and before `end` whose point differs from p
pub record FirstOther (list : List ℤ) (p : PointI32) (from end r : ℕ) : Type 0 where
  pub since : from ≤ end → from ≤ r
  pub up_to : r ≤ end
  pub alike : (j : ℕ) → from ≤ j → j < r → point_at list j ≡ p
  pub other : r < end → same_point p (point_at list r) ≡ false

-- the flags of n points from i on that all turned, or did not
unfoldable pub same_flags : Bool → ℕ → Bool → ℕ → ℕ → List ℕ
same_flags closed m turned i zero = []
same_flags closed m turned i (suc n) = flag ((not closed && is_end_at m i) || turned) ∷ same_flags closed m turned (suc i) n
