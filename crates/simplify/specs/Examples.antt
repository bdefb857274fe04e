-- Worked examples of document 01: antt computes each, so `refl` proves it.
use Rattle.std.specs.Prelude.{false, true, [], ◌∷◌, ◌≡◌, refl, pos, Ok}
use Rattle.std.specs.Float.Ieee.{of_int, add, sub, mul, div, lt, le}
use Rattle.point.specs.Limits.{bad_list}
use Rattle.simplify.specs.Staircase.{staircase_of}
use Rattle.simplify.specs.Penalties.{penalty, penalties_of}
use Rattle.simplify.specs.Simplify.{simplify_of}

-- P3: the pixel's outline, `remove_staircase` counterclockwise: (0,0) (0,0)
pixel_counterclockwise : staircase_of (pos 0 ∷ pos 0 ∷ pos 1 ∷ pos 0 ∷ pos 1 ∷ pos 1 ∷ pos 0 ∷ pos 1 ∷ pos 0 ∷ pos 0 ∷ []) false
    (pos 9 ∷ pos 9 ∷ pos 9 ∷ pos 9 ∷ pos 9 ∷ pos 9 ∷ pos 9 ∷ pos 9 ∷ pos 9 ∷ pos 9 ∷ [])
    ≡ record { answer = Ok 2; out = pos 0 ∷ pos 0 ∷ pos 0 ∷ pos 0 ∷ pos 9 ∷ pos 9 ∷ pos 9 ∷ pos 9 ∷ pos 9 ∷ pos 9 ∷ [] }
unfolding staircase_of bad_list
pixel_counterclockwise = refl

-- P4: `limit_penalties` of (7,7): twice
one_point : penalties_of (pos 7 ∷ pos 7 ∷ []) (pos 9 ∷ pos 9 ∷ pos 9 ∷ pos 9 ∷ []) ≡ record { answer = Ok 2; out = pos 7 ∷ pos 7 ∷ pos 7 ∷ pos 7 ∷ [] }
unfolding penalties_of bad_list
one_point = refl

-- P5: of two points: the first only
two_points : penalties_of (pos 7 ∷ pos 7 ∷ pos 8 ∷ pos 8 ∷ []) (pos 9 ∷ pos 9 ∷ pos 9 ∷ pos 9 ∷ []) ≡ record { answer = Ok 1; out = pos 7 ∷ pos 7 ∷ pos 9 ∷ pos 9 ∷ [] }
unfolding penalties_of bad_list
two_points = refl

-- P6: of (0,0) (100,0) (0,0): (0,0) (0,0)
there_and_back : penalties_of (pos 0 ∷ pos 0 ∷ pos 100 ∷ pos 0 ∷ pos 0 ∷ pos 0 ∷ []) (pos 9 ∷ pos 9 ∷ pos 9 ∷ pos 9 ∷ pos 9 ∷ pos 9 ∷ [])
    ≡ record { answer = Ok 2; out = pos 0 ∷ pos 0 ∷ pos 0 ∷ pos 0 ∷ pos 9 ∷ pos 9 ∷ [] }
unfolding penalties_of bad_list penalty of_int add sub mul div lt le
there_and_back = refl

-- P3: the pixel's outline, "`simplify` clockwise gives the same two"
pixel_clockwise : simplify_of (pos 0 ∷ pos 0 ∷ pos 1 ∷ pos 0 ∷ pos 1 ∷ pos 1 ∷ pos 0 ∷ pos 1 ∷ pos 0 ∷ pos 0 ∷ []) true
    (pos 9 ∷ pos 9 ∷ pos 9 ∷ pos 9 ∷ pos 9 ∷ pos 9 ∷ pos 9 ∷ pos 9 ∷ pos 9 ∷ pos 9 ∷ [])
    ≡ record { answer = Ok 2; out = pos 0 ∷ pos 0 ∷ pos 0 ∷ pos 0 ∷ pos 9 ∷ pos 9 ∷ pos 9 ∷ pos 9 ∷ pos 9 ∷ pos 9 ∷ [] }
unfolding simplify_of bad_list penalty of_int add sub mul div lt le
pixel_clockwise = refl
