-- Worked examples: antt computes each, so `refl` proves it.
use Rattle.std.specs.Prelude.{false, [], ◌∷◌, ◌≡◌, refl, pos, Ok, Err}
use Rattle.std.specs.Float.{inf, binary64, nan}
use Rattle.std.specs.Float.Ieee.{of_int, lt, le, of_bits, add, sub, mul, div, ne, eq}
use Rattle.point.specs.Limits.{bad_list}
use Rattle.point.specs.declared.refusal.Refusal.TheVariants.{NoRoom, BadPoint, TooFew, BadTolerance}
use Rattle.split.specs.Distance.{sq_seg_dist}
use Rattle.reduce.specs.DouglasPeucker.{douglas_peucker_of, counted_douglas_peucker_of}
use Rattle.reduce.specs.Numbers.{numbered_of, counted_numbered_of}
use Rattle.reduce.specs.Radial.{sq_dist, radial_of}
use Rattle.reduce.specs.Reduce.{reduce_of}
use Rattle.reduce.specs.Zoom.{zoom_of}

-- P10, by the numbers of P9: at 16 the ends only, at 15 all
zoomed_at_16 : zoom_of (pos 0 ∷ pos 0 ∷ pos 8 ∷ pos 2 ∷ pos 0 ∷ pos 4 ∷ pos 8 ∷ pos 0 ∷ []) (inf false ∷ of_int binary64 (pos 16) ∷ of_int binary64 (pos 16) ∷ inf false ∷ [])
    (of_int binary64 (pos 16)) (pos 9 ∷ pos 9 ∷ pos 9 ∷ pos 9 ∷ pos 9 ∷ pos 9 ∷ pos 9 ∷ pos 9 ∷ [])
    ≡ record { answer = Ok 2; out = pos 0 ∷ pos 0 ∷ pos 8 ∷ pos 0 ∷ pos 9 ∷ pos 9 ∷ pos 9 ∷ pos 9 ∷ [] }
unfolding zoom_of bad_list of_int le lt
zoomed_at_16 = refl

zoomed_at_15 : zoom_of (pos 0 ∷ pos 0 ∷ pos 8 ∷ pos 2 ∷ pos 0 ∷ pos 4 ∷ pos 8 ∷ pos 0 ∷ []) (inf false ∷ of_int binary64 (pos 16) ∷ of_int binary64 (pos 16) ∷ inf false ∷ [])
    (of_int binary64 (pos 15)) (pos 9 ∷ pos 9 ∷ pos 9 ∷ pos 9 ∷ pos 9 ∷ pos 9 ∷ pos 9 ∷ pos 9 ∷ [])
    ≡ record { answer = Ok 4; out = pos 0 ∷ pos 0 ∷ pos 8 ∷ pos 2 ∷ pos 0 ∷ pos 4 ∷ pos 8 ∷ pos 0 ∷ [] }
unfolding zoom_of bad_list of_int le lt
zoomed_at_15 = refl

-- a zoom of one point gives it twice
one_zoomed : zoom_of (pos 7 ∷ pos 8 ∷ []) (inf false ∷ []) (of_int binary64 (pos 0)) (pos 9 ∷ pos 9 ∷ pos 9 ∷ pos 9 ∷ [])
    ≡ record { answer = Ok 2; out = pos 7 ∷ pos 8 ∷ pos 7 ∷ pos 8 ∷ [] }
unfolding zoom_of bad_list of_int le
one_zoomed = refl

-- a list of numbers that has not one for each point is BadPoint
no_number : zoom_of (pos 7 ∷ pos 8 ∷ []) [] (of_int binary64 (pos 0)) (pos 9 ∷ pos 9 ∷ pos 9 ∷ pos 9 ∷ []) ≡ record { answer = Err BadPoint; out = pos 9 ∷ pos 9 ∷ pos 9 ∷ pos 9 ∷ [] }
unfolding zoom_of bad_list
no_number = refl

-- one point has the number +infinity, and needs two places: "n places, 2 where n is 1"
one_numbered : numbered_of (pos 7 ∷ pos 8 ∷ []) (nan ∷ nan ∷ []) ≡ record { answer = Ok 1; out = inf false ∷ nan ∷ [] }
unfolding numbered_of bad_list
one_numbered = refl

one_place_for_numbers : numbered_of (pos 7 ∷ pos 8 ∷ []) (nan ∷ []) ≡ record { answer = Err NoRoom; out = nan ∷ [] }
unfolding numbered_of bad_list
one_place_for_numbers = refl

-- "Douglas-Peucker of one point gives it twice", and its mark is one 1
one_split : douglas_peucker_of (pos 7 ∷ pos 8 ∷ []) (of_int binary64 (pos 0)) (pos 9 ∷ pos 9 ∷ pos 9 ∷ pos 9 ∷ []) (5 ∷ 5 ∷ [])
    ≡ record { answer = Ok 2; out = (pos 7 ∷ pos 8 ∷ pos 7 ∷ pos 8 ∷ [], 1 ∷ 5 ∷ []) }
unfolding douglas_peucker_of bad_list of_int le
one_split = refl

-- "The lowest that applies is given": half a point before no tolerance and no room; no points before no tolerance; no tolerance before no room
half_a_point : douglas_peucker_of (pos 7 ∷ []) nan [] [] ≡ record { answer = Err BadPoint; out = ([], []) }
unfolding douglas_peucker_of bad_list
half_a_point = refl

no_points : douglas_peucker_of [] nan [] [] ≡ record { answer = Err TooFew; out = ([], []) }
unfolding douglas_peucker_of bad_list
no_points = refl

no_tolerance : douglas_peucker_of (pos 7 ∷ pos 8 ∷ []) nan [] [] ≡ record { answer = Err BadTolerance; out = ([], []) }
unfolding douglas_peucker_of bad_list of_int le
no_tolerance = refl

-- P7 and P8: radial (0,0) (3,4) (6,8) at 25 drops the middle, at 24 keeps it
radial_at_25 : radial_of (pos 0 ∷ pos 0 ∷ pos 3 ∷ pos 4 ∷ pos 6 ∷ pos 8 ∷ []) (of_int binary64 (pos 25)) (pos 9 ∷ pos 9 ∷ pos 9 ∷ pos 9 ∷ pos 9 ∷ pos 9 ∷ [])
    ≡ record { answer = Ok 2; out = pos 0 ∷ pos 0 ∷ pos 6 ∷ pos 8 ∷ pos 9 ∷ pos 9 ∷ [] }
unfolding radial_of bad_list sq_dist of_int le lt
radial_at_25 = refl

radial_at_24 : radial_of (pos 0 ∷ pos 0 ∷ pos 3 ∷ pos 4 ∷ pos 6 ∷ pos 8 ∷ []) (of_int binary64 (pos 24)) (pos 9 ∷ pos 9 ∷ pos 9 ∷ pos 9 ∷ pos 9 ∷ pos 9 ∷ [])
    ≡ record { answer = Ok 3; out = pos 0 ∷ pos 0 ∷ pos 3 ∷ pos 4 ∷ pos 6 ∷ pos 8 ∷ [] }
unfolding radial_of bad_list sq_dist of_int le lt
radial_at_24 = refl

-- one point is kept once
one_radial : radial_of (pos 7 ∷ pos 8 ∷ []) (of_int binary64 (pos 0)) (pos 9 ∷ pos 9 ∷ pos 9 ∷ pos 9 ∷ [])
    ≡ record { answer = Ok 1; out = pos 7 ∷ pos 8 ∷ pos 9 ∷ pos 9 ∷ [] }
unfolding radial_of bad_list of_int le
one_radial = refl

-- P11: `reduce` of the pixel's outline, tolerance 3: (0,0) (0,0)
pixel_at_3 : reduce_of (pos 0 ∷ pos 0 ∷ pos 1 ∷ pos 0 ∷ pos 1 ∷ pos 1 ∷ pos 0 ∷ pos 1 ∷ pos 0 ∷ pos 0 ∷ []) (of_int binary64 (pos 3))
    (pos 9 ∷ pos 9 ∷ pos 9 ∷ pos 9 ∷ pos 9 ∷ pos 9 ∷ pos 9 ∷ pos 9 ∷ pos 9 ∷ pos 9 ∷ [])
    (pos 8 ∷ pos 8 ∷ pos 8 ∷ pos 8 ∷ pos 8 ∷ pos 8 ∷ pos 8 ∷ pos 8 ∷ pos 8 ∷ pos 8 ∷ []) (7 ∷ 7 ∷ 7 ∷ 7 ∷ 7 ∷ [])
    ≡ record {
      answer = Ok 2;
      out = (
        pos 0 ∷ pos 0 ∷ pos 0 ∷ pos 0 ∷ pos 9 ∷ pos 9 ∷ pos 9 ∷ pos 9 ∷ pos 9 ∷ pos 9 ∷ [],
        pos 0 ∷ pos 0 ∷ pos 8 ∷ pos 8 ∷ pos 8 ∷ pos 8 ∷ pos 8 ∷ pos 8 ∷ pos 8 ∷ pos 8 ∷ [],
        1 ∷ 7 ∷ 7 ∷ 7 ∷ 7 ∷ [],
      );
    }
unfolding reduce_of bad_list sq_dist sq_seg_dist of_int of_bits add sub mul div lt ne eq le
pixel_at_3 = refl

-- of one point it is given once
one_reduced : reduce_of (pos 7 ∷ pos 8 ∷ []) (of_int binary64 (pos 3)) (pos 9 ∷ pos 9 ∷ pos 9 ∷ pos 9 ∷ []) (pos 6 ∷ pos 6 ∷ []) (5 ∷ [])
    ≡ record { answer = Ok 1; out = (pos 7 ∷ pos 8 ∷ pos 9 ∷ pos 9 ∷ [], pos 6 ∷ pos 6 ∷ [], 5 ∷ []) }
unfolding reduce_of bad_list of_int le
one_reduced = refl

-- P9 and P10 with their work: two points inside, and one of them again in a part; at 16 the list is not split
counted_at_15 : counted_douglas_peucker_of (pos 0 ∷ pos 0 ∷ pos 8 ∷ pos 2 ∷ pos 0 ∷ pos 4 ∷ pos 8 ∷ pos 0 ∷ []) (of_int binary64 (pos 15))
    (pos 9 ∷ pos 9 ∷ pos 9 ∷ pos 9 ∷ pos 9 ∷ pos 9 ∷ pos 9 ∷ pos 9 ∷ []) (5 ∷ 5 ∷ 5 ∷ 5 ∷ [])
    ≡ record { answer = Ok (record { points = 4; distances = 3 }); out = (pos 0 ∷ pos 0 ∷ pos 8 ∷ pos 2 ∷ pos 0 ∷ pos 4 ∷ pos 8 ∷ pos 0 ∷ [], 1 ∷ 1 ∷ 1 ∷ 1 ∷ []) }
unfolding counted_douglas_peucker_of bad_list sq_seg_dist of_int of_bits add sub mul div lt ne le
counted_at_15 = refl

counted_at_16 : counted_douglas_peucker_of (pos 0 ∷ pos 0 ∷ pos 8 ∷ pos 2 ∷ pos 0 ∷ pos 4 ∷ pos 8 ∷ pos 0 ∷ []) (of_int binary64 (pos 16))
    (pos 9 ∷ pos 9 ∷ pos 9 ∷ pos 9 ∷ pos 9 ∷ pos 9 ∷ pos 9 ∷ pos 9 ∷ []) (5 ∷ 5 ∷ 5 ∷ 5 ∷ [])
    ≡ record { answer = Ok (record { points = 2; distances = 2 }); out = (pos 0 ∷ pos 0 ∷ pos 8 ∷ pos 0 ∷ pos 9 ∷ pos 9 ∷ pos 9 ∷ pos 9 ∷ [], 1 ∷ 0 ∷ 0 ∷ 1 ∷ []) }
unfolding counted_douglas_peucker_of bad_list sq_seg_dist of_int of_bits add sub mul div lt ne le
counted_at_16 = refl

numbers_with_their_work : counted_numbered_of (pos 0 ∷ pos 0 ∷ pos 8 ∷ pos 2 ∷ pos 0 ∷ pos 4 ∷ pos 8 ∷ pos 0 ∷ []) (nan ∷ nan ∷ nan ∷ nan ∷ [])
    ≡ record { answer = Ok (record { points = 4; distances = 3 }); out = inf false ∷ of_int binary64 (pos 16) ∷ of_int binary64 (pos 16) ∷ inf false ∷ [] }
unfolding counted_numbered_of bad_list sq_seg_dist of_int of_bits add sub mul div lt ne
numbers_with_their_work = refl
