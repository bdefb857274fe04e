-- Worked examples: antt computes each, so `refl` proves it.
use Rattle.std.specs.Prelude.{◌≡◌, refl, ℤ, pos, negsuc, true, Ok, Err}
use Rattle.std.specs.Float.{binary64, nan}
use Rattle.std.specs.Float.Ieee.{of_int, add, div, le, of_bits, sub, lt, mul, is_nan}
use Rattle.point.specs.declared.PointF64.{PointF64}
use Rattle.point.specs.declared.refusal.Refusal.TheVariants.{BadPoint}
use Rattle.util.specs.Lengths.{middle_of}
use Rattle.util.specs.declared.ratios.Intersection.TheVariants.{Cross, Parallel, Coincide, Refused}
use Rattle.util.specs.Ratios.{outside_of, inside_of, coincide_of}
use Rattle.util.specs.Crossing.{crossing, intersection_of}
use Rattle.util.specs.Area.{cross_of, signed_area_of}

abbrev at : ℤ → ℤ → PointF64
at x y = record { x = of_int binary64 x; y = of_int binary64 y }

halfway : middle_of (at (pos 0) (pos 0)) (at (pos 2) (pos 4)) ≡ Ok (at (pos 1) (pos 2))
unfolding of_int add div le
halfway = refl

no_middle : middle_of (at (pos 0) (pos 0)) (at (pos 0) (negsuc 16383)) ≡ Err BadPoint
unfolding of_int le
no_middle = refl

-- "ratios NaN and 5 are outside, NaN and 0.5 inside; it coincides if both are NaN"
nan_and_five : outside_of (Cross (at (pos 0) (pos 0)) nan (of_int binary64 (pos 5))) ≡ true
unfolding outside_of of_int of_bits add sub lt
nan_and_five = refl

nan_and_half : inside_of (Cross (at (pos 0) (pos 0)) nan (of_bits binary64 0x3fe0000000000000)) ≡ true
unfolding inside_of of_int of_bits add sub lt
nan_and_half = refl

both_nan : coincide_of (Cross (at (pos 0) (pos 0)) nan nan) ≡ true
unfolding coincide_of is_nan
both_nan = refl

-- document 01: "Lines (0,0)-(2,2), (0,2)-(2,0): (1,1), ratios 0.5"
crossed : intersection_of (at (pos 0) (pos 0)) (at (pos 2) (pos 2)) (at (pos 0) (pos 2)) (at (pos 2) (pos 0))
    ≡ Cross (at (pos 1) (pos 1)) (of_bits binary64 0x3fe0000000000000) (of_bits binary64 0x3fe0000000000000)
unfolding crossing of_int of_bits add sub mul div lt le
crossed = refl

parallel : intersection_of (at (pos 0) (pos 0)) (at (pos 2) (pos 0)) (at (pos 0) (pos 1)) (at (pos 2) (pos 1)) ≡ Parallel
unfolding crossing of_int of_bits add sub mul div lt le
parallel = refl

coinciding : intersection_of (at (pos 0) (pos 0)) (at (pos 4) (pos 0)) (at (pos 1) (pos 0)) (at (pos 3) (pos 0)) ≡ Coincide (at (pos 2) (pos 0))
unfolding crossing of_int of_bits add sub mul div lt le
coinciding = refl

no_crossing : intersection_of (at (pos 0) (pos 0)) (at (pos 4) (pos 0)) (at (pos 1) (pos 0)) (at (pos 3) (negsuc 16383)) ≡ Refused BadPoint
unfolding of_int le
no_crossing = refl

-- right, then down: clockwise, y down
clockwise : signed_area_of (record { x = pos 0; y = pos 0 }) (record { x = pos 1; y = pos 0 }) (record { x = pos 1; y = pos 1 }) ≡ Ok (pos 1)
clockwise = refl

counterclockwise : signed_area_of (record { x = pos 0; y = pos 0 }) (record { x = pos 0; y = pos 1 }) (record { x = pos 1; y = pos 1 }) ≡ Ok (negsuc 0)
counterclockwise = refl

on_a_line : signed_area_of (record { x = pos 0; y = pos 0 }) (record { x = pos 3; y = pos 4 }) (record { x = pos 6; y = pos 8 }) ≡ Ok (pos 0)
on_a_line = refl

-- half the square of all coordinates, doubled
largest : signed_area_of (record { x = negsuc 16382; y = negsuc 16382 }) (record { x = pos 16383; y = negsuc 16382 }) (record { x = pos 16383; y = pos 16383 })
    ≡ Ok (pos 1073610756)
largest = refl

no_area : signed_area_of (record { x = pos 0; y = pos 0 }) (record { x = pos 0; y = pos 0 }) (record { x = pos 0; y = negsuc 16383 }) ≡ Err BadPoint
no_area = refl

-- the greatest cross product of numbers of `i32`: 2 ^ 63 - 2 ^ 31
greatest : cross_of (negsuc 2147483647) (negsuc 2147483647) (pos 2147483647) (negsuc 2147483647) ≡ pos 9223372034707292160
greatest = refl
