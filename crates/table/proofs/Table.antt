-- Document 01, "Both sides of each edge": P1 to P12, one theorem over the definitions. Each line quotes document 01 and stands for the
-- definition that the call's contract cites, so it says what the call answers and what the buffers lent to it then hold.
use Prim.Native.Nat.{ℕ, ◌*◌, ◌≤◌}
use mathlib.Core.Bool.{true, false}
use mathlib.Core.List.{List, [], ◌∷◌}
use mathlib.Core.Path.{◌≡◌, refl}
use lib.IntN.{ℤ, pos, nat_abs}
use lib.Ieee.{Float, inf, binary64, of_int, of_bits, add, sub, mul, div, lt, ne, eq, le}
use lib.ListN.{replicate}
use Rattle.laws.proofs.Integers.{in_range_lem}
use Rattle.point.specs.Limits.{bad_list, in_range}
use Rattle.point.specs.Points.{flat}
use Rattle.std.specs.Prelude.{Ok, Err}
use Rattle.point.specs.declared.PointI32.{PointI32}
use Rattle.chart.specs.Pixels.{bad_chart, pixel_at}
use Rattle.chart.specs.declared.Chart.{Chart}
use Rattle.walker.specs.Walk.{walked}
use Rattle.point.specs.declared.refusal.Refusal.TheVariants.{NoWay}
use Rattle.spiral.proofs.Whole.{points_of, spiral_points}
use Rattle.simplify.specs.Penalties.{penalty, penalties_of}
use Rattle.simplify.specs.Simplify.{simplify_of}
use Rattle.simplify.specs.Staircase.{staircase_of}
use Rattle.split.specs.Distance.{sq_seg_dist}
use Rattle.reduce.specs.DouglasPeucker.{douglas_peucker_of}
use Rattle.reduce.specs.Numbers.{numbered_of}
use Rattle.reduce.specs.Radial.{sq_dist, radial_of}
use Rattle.reduce.specs.Reduce.{reduce_of}

-- ---- how a line is read

abbrev point : ℕ → ℕ → PointI32
point x y = record { x = pos x; y = pos y }

-- "coordinates -16,383 to 16,383"
abbrev Within : PointI32 → Type 0
Within p = (nat_abs p.x ≤ 16383) × (nat_abs p.y ≤ 16383)

-- a tolerance, and a squared one, as the double that it is
abbrev whole : ℕ → Float
whole n = of_int binary64 (pos n)

-- room for n points, n numbers, n marks: what it holds first is 9, so that it shows what a call writes
abbrev room : ℕ → List ℤ
room n = replicate (n * 2) (pos 9)

abbrev number_room : ℕ → List Float
number_room n = replicate n (whole 9)

abbrev mark_room : ℕ → List ℕ
mark_room n = replicate n 9

-- a point of such room, left as it was
abbrev old : PointI32
old = point 9 9

-- "a walk of one set pixel", clockwise
abbrev pixel : Chart
pixel = record { width = 1; height = 1 }

abbrev pixel_outline : List PointI32
pixel_outline = point 0 0 ∷ point 1 0 ∷ point 1 1 ∷ point 0 1 ∷ point 0 0 ∷ []

abbrev square : List PointI32
square = point 0 0 ∷ point 4 0 ∷ point 4 4 ∷ point 0 4 ∷ point 0 0 ∷ []

abbrev zigzag : List PointI32
zigzag = point 0 0 ∷ point 8 2 ∷ point 0 4 ∷ point 8 0 ∷ []

-- ---- the lines

-- "P1 the walk above": "five points (0,0) (1,0) (1,1) (0,1) (0,0)"
abbrev pub P1 : Type 0
unfolding flat
P1 = walked pixel (128 ∷ []) (point 0 0) true (room 5) ≡ record { answer = Ok 5; out = flat pixel_outline }

-- "P2 same chart, start (5,5): 8"
abbrev pub P2 : Type 0
P2 = walked pixel (128 ∷ []) (point 5 5) true (room 5) ≡ record { answer = Err NoWay; out = room 5 }

-- "P3 the pixel's outline, `remove_staircase` counterclockwise: (0,0) (0,0). `simplify` clockwise gives the same two; the 4 by 4 square keeps all five."
abbrev pub P3 : Type 0
unfolding flat
P3 = (staircase_of (flat pixel_outline) false (room 5) ≡ record { answer = Ok 2; out = flat (point 0 0 ∷ point 0 0 ∷ old ∷ old ∷ old ∷ []) })
    × (simplify_of (flat pixel_outline) true (room 5) ≡ record { answer = Ok 2; out = flat (point 0 0 ∷ point 0 0 ∷ old ∷ old ∷ old ∷ []) })
    × (simplify_of (flat square) true (room 5) ≡ record { answer = Ok 5; out = flat square })

-- "P4 `limit_penalties` of (7,7): twice."
abbrev pub P4 : Type 0
unfolding flat
P4 = penalties_of (flat (point 7 7 ∷ [])) (room 2) ≡ record { answer = Ok 2; out = flat (point 7 7 ∷ point 7 7 ∷ []) }

-- "P5 of two points: the first only." Any two, p and q; a and b are what the buffer's two places held
abbrev pub P5 : Type 0
unfolding flat
P5 = (p q : PointI32) → Within p → Within q → (a b : PointI32) →
    penalties_of (flat (p ∷ q ∷ [])) (flat (a ∷ b ∷ [])) ≡ record { answer = Ok 1; out = flat (p ∷ b ∷ []) }

-- "P6 of (0,0) (100,0) (0,0): (0,0) (0,0)."
abbrev pub P6 : Type 0
unfolding flat
P6 = penalties_of (flat (point 0 0 ∷ point 100 0 ∷ point 0 0 ∷ [])) (room 3) ≡ record { answer = Ok 2; out = flat (point 0 0 ∷ point 0 0 ∷ old ∷ []) }

-- "P7 radial (0,0) (3,4) (6,8): at 25 drops the middle."
abbrev pub P7 : Type 0
unfolding flat
P7 = radial_of (flat (point 0 0 ∷ point 3 4 ∷ point 6 8 ∷ [])) (whole 25) (room 3) ≡ record { answer = Ok 2; out = flat (point 0 0 ∷ point 6 8 ∷ old ∷ []) }

-- "P8 at 24 keeps it."
abbrev pub P8 : Type 0
unfolding flat
P8 = radial_of (flat (point 0 0 ∷ point 3 4 ∷ point 6 8 ∷ [])) (whole 24) (room 3) ≡ record { answer = Ok 3; out = flat (point 0 0 ∷ point 3 4 ∷ point 6 8 ∷ []) }

-- "P9 numbers of (0,0) (8,2) (0,4) (8,0): infinity, 16, 16, infinity."
abbrev pub P9 : Type 0
unfolding flat
P9 = numbered_of (flat zigzag) (number_room 4) ≡ record { answer = Ok 4; out = inf false ∷ whole 16 ∷ whole 16 ∷ inf false ∷ [] }

-- "P10 reduced at 16: ends only; at 15: all."
abbrev pub P10 : Type 0
unfolding flat
P10 = (douglas_peucker_of (flat zigzag) (whole 16) (room 4) (mark_room 4)
    ≡ record { answer = Ok 2; out = (flat (point 0 0 ∷ point 8 0 ∷ old ∷ old ∷ []), 1 ∷ 0 ∷ 0 ∷ 1 ∷ []) })
    × (douglas_peucker_of (flat zigzag) (whole 15) (room 4) (mark_room 4)
    ≡ record { answer = Ok 4; out = (flat zigzag, 1 ∷ 1 ∷ 1 ∷ 1 ∷ []) })

-- "P11 `reduce` of the pixel's outline, tolerance 3: (0,0) (0,0). Douglas-Peucker of one point gives it twice."
abbrev pub P11 : Type 0
unfolding flat
P11 = (reduce_of (flat pixel_outline) (whole 3) (room 5) (room 5) (mark_room 5)
    ≡ record {
      answer = Ok 2;
      out = (
        flat (point 0 0 ∷ point 0 0 ∷ old ∷ old ∷ old ∷ []),
        flat (point 0 0 ∷ old ∷ old ∷ old ∷ old ∷ []),
        1 ∷ 9 ∷ 9 ∷ 9 ∷ 9 ∷ [],
      );
    })
    × (douglas_peucker_of (flat (point 7 8 ∷ [])) (whole 0) (room 2) (mark_room 1)
    ≡ record { answer = Ok 2; out = (flat (point 7 8 ∷ point 7 8 ∷ []), 1 ∷ []) })

-- "P12 spiral 2: (0,0) (1,0) (1,1) (0,1)."
abbrev pub P12 : Type 0
P12 = spiral_points 2 ≡ point 0 0 ∷ point 1 0 ∷ point 1 1 ∷ point 0 1 ∷ []

-- ---- antt computes each; P5 once its coordinates are known to be in range

p1 : P1
unfolding flat walked bad_chart pixel_at
p1 = refl

p2 : P2
unfolding walked bad_chart pixel_at
p2 = refl

p3 : P3
unfolding flat staircase_of simplify_of bad_list penalty of_int of_bits add sub mul div lt le
p3 = (refl, refl, refl)

p4 : P4
unfolding flat penalties_of bad_list
p4 = refl

p5 : P5
unfolding flat penalties_of bad_list
p5 p q h k a b = rw (fine p.x h.0, fine p.y h.1, fine q.x k.0, fine q.y k.1)
  where
    fine : (v : ℤ) → nat_abs v ≤ 16383 → in_range v ≡ true
    fine v = in_range_lem 16382 16383 refl v

p6 : P6
unfolding flat penalties_of bad_list penalty of_int add sub mul div lt le
p6 = refl

p7 : P7
unfolding flat radial_of bad_list sq_dist of_int le lt
p7 = refl

p8 : P8
unfolding flat radial_of bad_list sq_dist of_int le lt
p8 = refl

p9 : P9
unfolding flat numbered_of bad_list sq_seg_dist of_int of_bits add sub mul div lt ne
p9 = refl

p10 : P10
unfolding flat douglas_peucker_of bad_list sq_seg_dist of_int of_bits add sub mul div lt ne le
p10 = (refl, refl)

p11 : P11
unfolding flat reduce_of douglas_peucker_of bad_list sq_dist sq_seg_dist of_int of_bits add sub mul div lt ne eq le
p11 = (refl, refl)

p12 : P12
unfolding points_of
p12 = refl

-- ---- the theorem

pub table : P1 × P2 × P3 × P4 × P5 × P6 × P7 × P8 × P9 × P10 × P11 × P12
table = (p1, p2, p3, p4, p5, p6, p7, p8, p9, p10, p11, p12)
