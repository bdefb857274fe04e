-- Document 01, "Walk": the outline of a chart from a start.
use Rattle.std.specs.Prelude.{ℕ, zero, suc, ◌*◌, Bool, true, false, not, ◌&&◌, List, [], ◌∷◌, ltb, eqb, ℤ, pos, ◌+ℤ◌, ◌-ℤ◌, length, Result, Ok, Err}
use Rattle.std.specs.Bool.{beq}
use Rattle.std.proofs.Math.Option.{Option, some, none}
use Rattle.laws.specs.Lists.{over}
use Rattle.laws.specs.Outcome.{Outcome}
use Rattle.point.specs.Limits.{in_range}
use Rattle.point.specs.Outcomes.{outcome}
use Rattle.point.specs.Points.{flat, same_point}
use Rattle.point.specs.Refusals.{refuse◌when◌or◌}
use Rattle.point.specs.declared.PointI32.{PointI32}
use Rattle.point.specs.declared.refusal.Refusal.{Refusal}
use Rattle.point.specs.declared.refusal.Refusal.TheVariants.{BadSize, BadPoint, NoWay, Stuck, NoRoom}
use Rattle.chart.specs.Pixels.{pixel_at, bad_chart}
use Rattle.chart.specs.declared.Chart.{Chart}

-- ---- a chart here is the question whether the pixel at x, y is set, and a lattice point is the top left corner of the pixel at x, y

abbrev pub Pixels : Type 0
Pixels = ℤ → ℤ → Bool

-- "Directions 0 up, 2 right, 4 down, 6 left"
pub data Way : Type 0 where
  up right down left : Way

abbrev pub way_number : Way → ℕ
way_number up = 0
way_number right = 2
way_number down = 4
way_number left = 6

-- the lattice point ahead
abbrev pub ahead : PointI32 → Way → PointI32
ahead p up = record { x = p.x; y = p.y -ℤ pos 1 }
ahead p right = record { x = p.x +ℤ pos 1; y = p.y }
ahead p down = record { x = p.x; y = p.y +ℤ pos 1 }
ahead p left = record { x = p.x -ℤ pos 1; y = p.y }

-- one is set and the other is not
abbrev pub differ : Bool → Bool → Bool
differ a b = not (beq a b)

-- "An exit is a direction whose two side pixels differ."
abbrev pub exit : Pixels → PointI32 → Way → Bool
exit set p up = differ (set (p.x -ℤ pos 1) (p.y -ℤ pos 1)) (set p.x (p.y -ℤ pos 1))
exit set p right = differ (set p.x p.y) (set p.x (p.y -ℤ pos 1))
exit set p down = differ (set (p.x -ℤ pos 1) p.y) (set p.x p.y)
exit set p left = differ (set (p.x -ℤ pos 1) p.y) (set (p.x -ℤ pos 1) (p.y -ℤ pos 1))

-- ---- which exit is taken

-- where a walk stands, where it stood before and before that, and how many steps it has made
pub record Walker : Type 0 where
  pub curr : PointI32
  pub prev : PointI32
  pub prev_prev : PointI32
  pub steps : ℕ

abbrev pub at_start : PointI32 → Walker
at_start p = record { curr = p; prev = p; prev_prev = p; steps = 0 }

abbrev pub moved : Walker → Way → Walker
moved w d = record { curr = ahead w.curr d; prev = w.curr; prev_prev = w.prev; steps = suc w.steps }

-- "Clockwise tries 0, 2, 4, 6, otherwise 6, 4, 2, 0"
abbrev pub order : Bool → List Way
order true = up ∷ right ∷ down ∷ left ∷ []
order false = left ∷ down ∷ right ∷ up ∷ []

-- "and takes the first exit not leading to `prev` or `prev_prev`"
abbrev pub free : Pixels → Walker → Way → Bool
free set w d = not (same_point (ahead w.curr d) w.prev) && not (same_point (ahead w.curr d) w.prev_prev) && exit set w.curr d

unfoldable pub first : (Way → Bool) → List Way → Option Way
first test [] = none
first test (d ∷ ds) = elim (test d) [ true ↦ some d | false ↦ first test ds ]

unfoldable pub taken : Pixels → Bool → Walker → Option Way
unfolding first
taken set clockwise w = first (free set w) (order clockwise)

-- ---- runs, and the walk

abbrev pub same_way : Way → Way → Bool
same_way d e = eqb (way_number d) (way_number e)

-- where a run ended, and the exit taken from there
pub data Run : Type 0 where
  ends : Walker → Way → Run
  nowhere : Run

-- "A run goes on until the exit taken would change direction": what is left of a run in direction d from where w stands.
-- n is more than the steps that are left. No chart has runs of over 512, so that any n over 512 gives the same run (`run_fuel_suffices` of proofs/Stuck).
unfoldable pub run : Pixels → Bool → ℕ → Walker → Way → Run
unfolding taken
run set clockwise zero w d = nowhere
run set clockwise (suc n) w d = elim (taken set clockwise w) [
  | none ↦ nowhere
  | some e ↦ elim (same_way d e) [ true ↦ run set clockwise n (moved w d) d | false ↦ ends w e ]
]

-- how a walk ends
pub data Walk : Type 0 where
  closed : List PointI32 → Walk
  no_way : Walk
  stuck : Walk

abbrev pub after : PointI32 → Walk → Walk
after p (closed ps) = closed (p ∷ ps)
after p no_way = no_way
after p stuck = stuck

-- What follows where w is about to take the exit d: "its end is the next point"; "The step limit is looked at only after a run, also
-- after the closing one"; "The walk ends when a run ends on the start." n is more than the runs that are left: each has a step, so that any n
-- over the steps left to the limit gives the same walk (`fuel_suffices` of proofs/Stuck).
unfoldable pub follow : Pixels → Bool → PointI32 → ℕ → Walker → Way → Walk
unfolding run
follow set clockwise start zero w d = stuck
follow set clockwise start (suc n) w d = elim (run set clockwise 600 (moved w d) d) [
  | nowhere ↦ no_way
  | ends v e ↦ elim (ltb 1000000 v.steps) [
    | true ↦ stuck
    | false ↦ elim (same_point v.curr start) [
      | true ↦ closed (v.curr ∷ [])
      | false ↦ after v.curr (follow set clockwise start n v e)
    ]
  ]
]

-- "The start comes first."
unfoldable pub walk_from : Pixels → Bool → PointI32 → Walk
unfolding follow
walk_from set clockwise start = elim (taken set clockwise (at_start start)) [
  | none ↦ no_way
  | some d ↦ after start (follow set clockwise start 1000002 (at_start start) d)
]

-- ---- what `walk` answers, and what the buffer lent to it then holds

abbrev pub Outlined : Type 0
Outlined = Outcome (Result ℕ Refusal) (List ℤ)

-- an outline at the start of a buffer, and counted. NoRoom is "output .. too small": "A walk needs as many places as its outline has points."
abbrev pub laid : List PointI32 → List ℤ → Outlined
laid ps out = outcome (refuse NoRoom when ltb (length out) (length ps * 2) or none) out (record { answer = Ok (length ps); out = over (flat ps) out })

-- what comes of a walk: one that finds no way, or is stuck, leaves the buffer as it was, as a refusal does
abbrev pub ended : Walk → List ℤ → Outlined
ended (closed ps) out = laid ps out
ended no_way out = record { answer = Err NoWay; out = out }
ended stuck out = record { answer = Err Stuck; out = out }

abbrev pub walk_refusal : Chart → List ℕ → PointI32 → Option Refusal
walk_refusal c pixels start =
    refuse BadSize when bad_chart c pixels or
    refuse BadPoint when not (in_range start.x && in_range start.y) or
    none

unfoldable pub walked : Chart → List ℕ → PointI32 → Bool → List ℤ → Outlined
unfolding walk_from outcome over flat
walked c pixels start clockwise out = outcome (walk_refusal c pixels start) out (ended (walk_from (pixel_at c pixels) clockwise start) out)
