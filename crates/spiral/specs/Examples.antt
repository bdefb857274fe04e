-- Worked examples of the spiral: antt computes each, so `refl` proves it.
use Rattle.std.specs.Prelude.{◌≡◌, refl, ℤ, pos, Some, Ok, Err}
use Rattle.point.specs.declared.PointI32.{PointI32}
use Rattle.point.specs.declared.refusal.Refusal.TheVariants.{BadSize}
use Rattle.spiral.specs.Spiral.{fresh_spiral, spiral_turn, advanced}
use Rattle.spiral.specs.declared.SpiralWalker.{SpiralWalker}

abbrev point : ℤ → ℤ → PointI32
point x y = record { x = x; y = y }

-- "Spiral size 0 to 512"
past_the_largest : fresh_spiral 513 ≡ Err BadSize
past_the_largest = refl

-- a state whose side is `sq` long and of which `cc` places are done, in a square of 4 cells
abbrev on : ℤ → ℤ → SpiralWalker
on sq cc = record { x = pos 512; y = pos 0; dir = pos 0; gx = pos 1; gy = pos 0; sq = sq; cc = cc; area = 4; step = 0 }

-- "cc 0 to sq-1"; the last place that a state may stand on is 512, and the step from there answers it
longest_side : spiral_turn (on (pos 1024) (pos 1023)) ≡ Ok (Some (record { point = point (pos 512) (pos 0); next = record { x = pos 513; y = pos 0; dir = pos 1; gx = pos 0; gy = pos 1; sq = pos 1024; cc = pos 0; area = 4; step = 1 } }))
longest_side = refl

side_done : spiral_turn (on (pos 1024) (pos 1024)) ≡ Err BadSize
side_done = refl

no_side : spiral_turn (on (pos 0) (pos 0)) ≡ Err BadSize
no_side = refl

-- a refused step leaves the state as it came
stays : advanced (on (pos 0) (pos 0)) ≡ record { answer = Err BadSize; out = on (pos 0) (pos 0) }
stays = refl
