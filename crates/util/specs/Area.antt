-- The signed area of three points (util.rs, signed_area). It refuses (BadPoint) "a coordinate out of range".
use Rattle.std.specs.Prelude.{◌&&◌, ℤ, ◌-ℤ◌, ◌*ℤ◌, if◌then◌else◌, Result, Ok, Err}
use Rattle.point.specs.Limits.{point_in_range}
use Rattle.point.specs.declared.PointI32.{PointI32}
use Rattle.point.specs.declared.refusal.Refusal.{Refusal}
use Rattle.point.specs.declared.refusal.Refusal.TheVariants.{BadPoint}

-- the cross product of two vectors
abbrev pub cross_of : ℤ → ℤ → ℤ → ℤ → ℤ
cross_of x1 y1 x2 y2 = x1 *ℤ y2 -ℤ x2 *ℤ y1

-- twice the area of the triangle, positive where the points turn clockwise, y down
abbrev pub signed_area : PointI32 → PointI32 → PointI32 → ℤ
signed_area p1 p2 p3 = cross_of (p2.x -ℤ p1.x) (p2.y -ℤ p1.y) (p3.x -ℤ p1.x) (p3.y -ℤ p1.y)

-- what `signed_area` answers
abbrev pub signed_area_of : PointI32 → PointI32 → PointI32 → Result ℤ Refusal
signed_area_of p1 p2 p3 = if point_in_range p1 && point_in_range p2 && point_in_range p3 then Ok (signed_area p1 p2 p3) else Err BadPoint
