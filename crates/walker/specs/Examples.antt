-- Worked examples: antt computes each, so `refl` proves it.
use Rattle.std.specs.Prelude.{true, [], ◌∷◌, ◌≡◌, refl, pos, Ok, Err}
use Rattle.point.specs.Points.{flat}
use Rattle.point.specs.declared.refusal.Refusal.TheVariants.{NoWay, NoRoom}
use Rattle.chart.specs.Pixels.{bad_chart, pixel_at}
use Rattle.walker.specs.Walk.{walked}

-- document 01, P1: the walk of one set pixel
one_pixel : walked (record { width = 1; height = 1 }) (128 ∷ []) (record { x = pos 0; y = pos 0 }) true
    (pos 9 ∷ pos 9 ∷ pos 9 ∷ pos 9 ∷ pos 9 ∷ pos 9 ∷ pos 9 ∷ pos 9 ∷ pos 9 ∷ pos 9 ∷ pos 9 ∷ [])
    ≡ record { answer = Ok 5; out = pos 0 ∷ pos 0 ∷ pos 1 ∷ pos 0 ∷ pos 1 ∷ pos 1 ∷ pos 0 ∷ pos 1 ∷ pos 0 ∷ pos 0 ∷ pos 9 ∷ [] }
unfolding walked bad_chart pixel_at flat
one_pixel = refl

-- P2: the same chart, start (5,5)
no_exit : walked (record { width = 1; height = 1 }) (128 ∷ []) (record { x = pos 5; y = pos 5 }) true [] ≡ record { answer = Err NoWay; out = [] }
unfolding walked bad_chart pixel_at
no_exit = refl

-- five places are needed
no_room : walked (record { width = 1; height = 1 }) (128 ∷ []) (record { x = pos 0; y = pos 0 }) true (pos 9 ∷ []) ≡ record { answer = Err NoRoom; out = pos 9 ∷ [] }
unfolding walked bad_chart pixel_at
no_room = refl

-- document 01: pixels (0,0) and (1,1) of a 2 by 2 chart, clockwise from (0,0). One edge is walked twice.
diagonal : walked (record { width = 2; height = 2 }) (0b10000000 ∷ 0b01000000 ∷ []) (record { x = pos 0; y = pos 0 }) true
    (pos 9 ∷ pos 9 ∷ pos 9 ∷ pos 9 ∷ pos 9 ∷ pos 9 ∷ pos 9 ∷ pos 9 ∷ pos 9 ∷ pos 9 ∷ pos 9 ∷ pos 9 ∷ pos 9 ∷ pos 9 ∷ pos 9 ∷ pos 9 ∷ [])
    ≡ record { answer = Ok 8; out = pos 0 ∷ pos 0 ∷ pos 1 ∷ pos 0 ∷ pos 1 ∷ pos 1 ∷ pos 2 ∷ pos 1 ∷ pos 2 ∷ pos 2 ∷ pos 1 ∷ pos 2 ∷ pos 1 ∷ pos 0 ∷ pos 0 ∷ pos 0 ∷ [] }
unfolding walked bad_chart pixel_at flat
diagonal = refl
