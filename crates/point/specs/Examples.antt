-- Worked examples: antt computes each, so `refl` proves it.
use Rattle.std.specs.Prelude.{true, false, ◌≡◌, refl, [], ◌∷◌, ℕ, pos, negsuc, set, Err}
use Rattle.std.proofs.Math.Option.{some, none}
use Rattle.std.specs.Float.{binary64, nan, fin}
use Rattle.std.specs.Float.Ieee.{of_int, of_bits, le}
use Rattle.point.specs.Refusals.{refuse◌when◌or◌, number_of, count_of}
use Rattle.point.specs.declared.refusal.Refusal.TheVariants.{TooMany, BadPoint, NoRoom, BadFrame, BadPicture}
use Rattle.point.specs.Limits.{bad_list, bad_points, bad_points_f64, bad_tolerance, bad_sq_tolerance}
use Rattle.point.specs.Points.{count, point_at, seen}

-- two apply: the first of the list is given
lowest : refuse TooMany when false or refuse BadPoint when true or refuse NoRoom when true or none ≡ some BadPoint
lowest = refl

no_frame_is_11 : number_of {A = ℕ} (Err BadFrame) ≡ 11
no_frame_is_11 = refl

no_picture_is_12 : number_of {A = ℕ} (Err BadPicture) ≡ 12
no_picture_is_12 = refl

refused_counts_none : count_of (Err NoRoom) ≡ 0
refused_counts_none = refl

farthest : bad_points (pos 16383 ∷ negsuc 16382 ∷ []) ≡ false
unfolding bad_list
farthest = refl

too_far : bad_points (pos 0 ∷ pos 16384 ∷ []) ≡ true
unfolding bad_list
too_far = refl

half_a_point : bad_points (pos 0 ∷ []) ≡ true
unfolding bad_list
half_a_point = refl

-- half, and a NaN beside it
half : bad_points_f64 (fin false 1 (negsuc 0) ∷ fin true 1 (negsuc 0) ∷ []) ≡ false
unfolding bad_list of_int le
half = refl

not_a_number : bad_points_f64 (fin false 1 (negsuc 0) ∷ nan ∷ []) ≡ true
unfolding bad_list of_int le
not_a_number = refl

minus_zero_is_zero : bad_tolerance (of_bits binary64 0x8000000000000000) ≡ false
unfolding of_bits of_int le
minus_zero_is_zero = refl

no_tolerance : bad_tolerance nan ≡ true
unfolding of_int le
no_tolerance = refl

widest : bad_sq_tolerance (of_bits binary64 0x41f0000000000000) ≡ false
unfolding of_bits of_int le
widest = refl

past_the_widest : bad_sq_tolerance (of_bits binary64 0x41f0000000000001) ≡ true
unfolding of_bits of_int le
past_the_widest = refl

second_of_two : point_at (pos 1 ∷ pos 2 ∷ pos 3 ∷ pos 4 ∷ []) 1 ≡ record { x = pos 3; y = pos 4 }
second_of_two = refl

-- of half a point the one value is there, and past the end none is
half_a_point_read : point_at (pos 1 ∷ pos 2 ∷ pos 3 ∷ []) 1 ≡ record { x = pos 3; y = pos 0 }
half_a_point_read = refl

past_the_end : point_at (pos 1 ∷ pos 2 ∷ pos 3 ∷ []) 2 ≡ record { x = pos 0; y = pos 0 }
past_the_end = refl

half_counts_for_nothing : count (pos 1 ∷ pos 2 ∷ pos 3 ∷ []) ≡ 1
half_counts_for_nothing = refl

-- of five points of a closed list four are looked at, and of none none
four_of_five : seen 5 true ≡ 4
four_of_five = refl

none_of_none : seen 0 true ≡ 0
none_of_none = refl

-- past the end of a list nothing is stored
half_a_place : set (set (pos 1 ∷ pos 2 ∷ pos 3 ∷ []) 2 (pos 8)) 3 (pos 9) ≡ pos 1 ∷ pos 2 ∷ pos 8 ∷ []
half_a_place = refl
