-- Document 01, "Sizes": the limits of what a call is handed. Each test is true where the limit is passed.
use Rattle.std.specs.Prelude.{ℕ, ◌%◌, Bool, not, ◌&&◌, ◌||◌, List, ltb, leb, eqb, ℤ, pos, negsuc, length, Float, if◌then◌else◌}
use Rattle.std.specs.List.{list_all}
use Rattle.std.specs.Int.Signed.{le_z}
use Rattle.std.specs.Float.{binary64}
use Rattle.std.specs.Float.Ieee.{of_int, le}
use Rattle.point.specs.declared.PointF64.{PointF64}
use Rattle.point.specs.declared.PointI32.{PointI32}

-- "at most 4,096 points": so many values are more than 8,192
abbrev pub too_many : ℕ → Bool
too_many values = ltb 8192 values

-- "coordinates -16,383 to 16,383"
abbrev pub in_range : ℤ → Bool
in_range v = le_z (negsuc 16382) v && le_z v (pos 16383)

abbrev pub point_in_range : PointI32 → Bool
point_in_range p = in_range p.x && in_range p.y

-- "odd count of values, or a coordinate out of range"
unfoldable pub bad_list : {A : Type 0} → (A → Bool) → List A → Bool
bad_list fine values = not (eqb (length values % 2) 0) || not (list_all fine values)

abbrev pub bad_points : List ℤ → Bool
bad_points points = bad_list in_range points

-- "flag count not n (open) or n-1 (closed), or a flag not 0 or 1", where m flags are asked for
abbrev pub is_flag : ℕ → Bool
is_flag v = leb v 1

abbrev pub bad_flags : ℕ → List ℕ → Bool
bad_flags m flags = not (eqb (length flags) m) || not (list_all is_flag flags)

-- from low to high, both counted in, by the comparisons of IEEE 754: of a NaN it is false, and -0 counts as 0
abbrev pub within : Float → Float → Float → Bool
within low value high = le low value && le value high

-- "finite, same range"
abbrev pub in_range_f64 : Float → Bool
in_range_f64 v = within (of_int binary64 (negsuc 16382)) v (of_int binary64 (pos 16383))

abbrev pub point_in_range_f64 : PointF64 → Bool
point_in_range_f64 p = in_range_f64 p.x && in_range_f64 p.y

abbrev pub bad_points_f64 : List Float → Bool
bad_points_f64 points = bad_list in_range_f64 points

-- "Tolerance 0 to 65,536, squared tolerance 0 to 4,294,967,296; -0 counts as 0"; "NaN or out of range"
abbrev pub bad_tolerance : Float → Bool
bad_tolerance t = not (within (of_int binary64 (pos 0)) t (of_int binary64 (pos 65536)))

abbrev pub bad_sq_tolerance : Float → Bool
bad_sq_tolerance t = not (within (of_int binary64 (pos 0)) t (of_int binary64 (pos 4294967296)))

-- "Room is judged on n alone: n places, 2 where n is 1"
abbrev pub places_for : ℕ → ℕ
places_for n = if eqb n 1 then 2 else n
