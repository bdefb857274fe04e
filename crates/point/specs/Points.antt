-- A list of points as the library is handed it, x, y, x, y: how the points lie in it.
use Rattle.std.specs.Prelude.{ℕ, ◌+◌, ◌-◌, ◌*◌, ◌/◌, Bool, ◌&&◌, List, [], ◌∷◌, ℤ, pos, length, get_or, if◌then◌else◌}
use Rattle.std.specs.Int.Signed.{le_z}
use Rattle.point.specs.declared.PointI32.{PointI32}

-- how many points there are: half a point at the end counts for nothing
abbrev pub count : {A : Type 0} → List A → ℕ
count values = length values / 2

-- how many of n points are looked at: "closed lists drop the last point unseen"
abbrev pub seen : ℕ → Bool → ℕ
seen n closed = if closed then n - 1 else n

-- the point at a position: a value that is not there is 0
abbrev pub point_at : List ℤ → ℕ → PointI32
point_at points k = record { x = get_or points (k * 2) (pos 0); y = get_or points (k * 2 + 1) (pos 0) }

-- values as points; half a point at the end counts for nothing
unfoldable pub points : List ℤ → List PointI32
points [] = []
points (x ∷ []) = []
points (x ∷ y ∷ values) = record { x = x; y = y } ∷ points values

-- points as values
unfoldable pub flat : List PointI32 → List ℤ
flat [] = []
flat (p ∷ ps) = p.x ∷ p.y ∷ flat ps

-- two points are one
abbrev pub same_point : PointI32 → PointI32 → Bool
same_point p q = le_z p.x q.x && le_z q.x p.x && (le_z p.y q.y && le_z q.y p.y)
