-- Worked examples: antt computes each, so `refl` proves it.
use Rattle.std.specs.Prelude.{true, false, [], ◌∷◌, ◌≡◌, refl, pos, negsuc, replicate, Ok, Err}
use Rattle.point.specs.declared.refusal.Refusal.TheVariants.{BadSize, NoWay}
use Rattle.chart.specs.Pixels.{bad_chart, pixel_at, around_of}
use Rattle.chart.specs.Area.{area_of}
use Rattle.chart.specs.Start.{first_start}

-- pixels (0,0) and (1,1) of a 2 by 2 chart, with rubbish in the padding
two : area_of (record { width = 2; height = 2 }) (0b10111111 ∷ 0b01000001 ∷ []) ≡ Ok 2
unfolding bad_chart area_of
two = refl

too_few : area_of (record { width = 9; height = 1 }) (255 ∷ []) ≡ Err BadSize
unfolding bad_chart area_of
too_few = refl

-- the largest chart takes 64 bytes a row; a wider or a higher one is refused
too_wide : bad_chart (record { width = 513; height = 1 }) (replicate 65 0) ≡ true
unfolding bad_chart
too_wide = refl

largest : bad_chart (record { width = 512; height = 2 }) (replicate 128 0) ≡ false
unfolding bad_chart
largest = refl

no_rows : bad_chart (record { width = 1; height = 0 }) [] ≡ true
unfolding bad_chart
no_rows = refl

diagonal : around_of (record { width = 2; height = 2 }) (0b10111111 ∷ 0b01000001 ∷ []) (pos 1) (pos 1) ≡ 9
unfolding around_of
diagonal = refl

-- the one set pixel of a chart lies below on the right of its top left corner, and above on the left of its bottom right one
top_left : around_of (record { width = 1; height = 1 }) (0b10000000 ∷ []) (pos 0) (pos 0) ≡ 1
unfolding around_of
top_left = refl

bottom_right : around_of (record { width = 1; height = 1 }) (0b11111111 ∷ []) (pos 1) (pos 1) ≡ 8
unfolding around_of
bottom_right = refl

-- across two bytes
ninth : around_of (record { width = 9; height = 2 }) (0b00000001 ∷ 0 ∷ 0 ∷ 0b10000000 ∷ []) (pos 8) (pos 1) ≡ 9
unfolding around_of
ninth = refl

outside : pixel_at (record { width = 1; height = 1 }) (255 ∷ []) (negsuc 0) (pos 0) ≡ false
unfolding pixel_at
outside = refl

second_row : first_start (record { width = 2; height = 2 }) (0b00111111 ∷ 0b01000001 ∷ []) ≡ Ok (record { x = pos 1; y = pos 1 })
unfolding bad_chart first_start
second_row = refl

blank : first_start (record { width = 2; height = 2 }) (0b00111111 ∷ 0b00000001 ∷ []) ≡ Err NoWay
unfolding bad_chart first_start
blank = refl
