-- A point of a list, copied to a place of a buffer; and what is copied of a list by a test.
use Rattle.std.specs.Prelude.{ℕ, ◌+◌, ◌*◌, ◌<◌, ◌≤◌, Bool, List, ◌∷◌, ◌≡◌, ℤ, set, if◌then◌else◌}
use Rattle.point.specs.Points.{point_at}
use Rattle.point.specs.declared.PointI32.{PointI32}

-- the point at position k of a list, written to a place of a buffer
unfoldable pub placed : List ℤ → ℕ → ℕ → List ℤ → List ℤ
placed points k at out = set (set out (at * 2) (point_at points k).x) (at * 2 + 1) (point_at points k).y

-- from each position between two, the rest is what is still to be copied: the point there first, where the test says so
abbrev pub Picks : (ℕ → Bool → Type 0) → List ℤ → ℕ → ℕ → (ℕ → List PointI32) → Type 0
Picks says points from to rest = (k : ℕ) → from ≤ k → k < to → (t : Bool) → says k t → rest k ≡ (if t then point_at points k ∷ rest (k + 1) else rest (k + 1))
