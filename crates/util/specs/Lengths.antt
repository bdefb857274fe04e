-- The midpoint of two points and the length of a vector, operation by operation as the Rust computes them (util.rs, find_mid_point and norm).
-- The calls refuse (BadPoint) "a coordinate out of range, NaN or infinite".
use Rattle.std.specs.Prelude.{Bool, ◌&&◌, ℤ, pos, ◌+ℤ◌, ◌*ℤ◌, Float, if◌then◌else◌, Result, Ok, Err}
use Rattle.std.specs.Float.{binary64}
use Rattle.std.specs.Float.Ieee.{of_int, add, mul, div}
use Rattle.point.specs.Limits.{point_in_range, point_in_range_f64}
use Rattle.point.specs.declared.PointF64.{PointF64}
use Rattle.point.specs.declared.PointI32.{PointI32}
use Rattle.point.specs.declared.refusal.Refusal.{Refusal}
use Rattle.point.specs.declared.refusal.Refusal.TheVariants.{BadPoint}
use Rattle.sqrt.specs.Root.{root_of}

-- ---- find_mid_point

abbrev pub half : Float → Float → Float
half a b = div binary64 (add binary64 a b) (of_int binary64 (pos 2))

abbrev pub middle : PointF64 → PointF64 → PointF64
middle p q = record { x = half p.x q.x; y = half p.y q.y }

abbrev pub middle_of : PointF64 → PointF64 → Result PointF64 Refusal
middle_of p1 p2 = if point_in_range_f64 p1 && point_in_range_f64 p2 then Ok (middle p1 p2) else Err BadPoint

-- ---- norm, of a point with fractions and of one of whole numbers

unfoldable pub length_of : Float → Float → Float
unfolding root_of
length_of x y = root_of binary64 (add binary64 (mul binary64 x x) (mul binary64 y y))

unfoldable pub length_of_i32 : ℤ → ℤ → Float
unfolding root_of
length_of_i32 x y = root_of binary64 (of_int binary64 (x *ℤ x +ℤ y *ℤ y))

-- how long the vector from (0,0) to a point of either kind is
abbrev pub long : PointF64 → Float
long p = length_of p.x p.y

abbrev pub long_i32 : PointI32 → Float
long_i32 p = length_of_i32 p.x p.y

-- what `norm` answers for a point of a kind that has limits and a length
abbrev pub measured : {A : Type 0} → (A → Bool) → (A → Float) → A → Result Float Refusal
measured fits long p = if fits p then Ok (long p) else Err BadPoint

-- and so for each of the two kinds
abbrev pub norm_of : PointF64 → Result Float Refusal
norm_of p = measured point_in_range_f64 long p

abbrev pub norm_of_i32 : PointI32 → Result Float Refusal
norm_of_i32 p = measured point_in_range long_i32 p
