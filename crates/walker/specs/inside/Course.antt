-- The walk as `course.rt` follows it: a place and the exit taken from there, by the four pixels around it, in place of the two points that
-- were passed before. That it is the walk of `Walk` is shown in proofs/course/Follow.
use Rattle.std.specs.Prelude.{ℕ, zero, suc, ◌+◌, ◌-◌, ◌*◌, ◌/◌, ◌%◌, ◌^◌, ◌≤◌, ◌<◌, Bool, true, false, not, ◌&&◌, List, [], ◌∷◌, ◌≡◌, ltb, eqb, ℤ, pos, negsuc, ◌+ℤ◌, length, if◌then◌else◌, Option as Found, Some, None}
use Rattle.std.proofs.Math.Option.{Option, some, none}
use Rattle.laws.specs.Lists.{over}
use Rattle.point.specs.Points.{flat, same_point}
use Rattle.point.specs.declared.PointI32.{PointI32}
use Rattle.chart.specs.Pixels.{around_of}
use Rattle.chart.specs.declared.Chart.{Chart}
use Rattle.walker.specs.Walk.{Walk, closed, no_way, stuck, after, differ}
use Rattle.walker.specs.declared.run.Place.{Place}

-- ---- directions are 0 up, 1 right, 2 down, 3 left, and m is what lies around a point, as `chart::around` numbers it

unfoldable pub across : ℕ → ℤ
across way = if eqb way 1 then pos 1 else if eqb way 3 then negsuc 0 else pos 0

unfoldable pub downward : ℕ → ℤ
downward way = if eqb way 2 then pos 1 else if eqb way 0 then negsuc 0 else pos 0

-- the pixel of a weight
abbrev pub has : ℕ → ℕ → Bool
has m weight = eqb (m / weight % 2) 1

-- the two side pixels differ
unfoldable pub exit_in : ℕ → ℕ → Bool
exit_in m way =
    if eqb way 0 then differ (has m 8) (has m 4) else
    if eqb way 1 then differ (has m 1) (has m 4) else
    if eqb way 2 then differ (has m 2) (has m 1) else
    differ (has m 2) (has m 8)

abbrev pub ways : Bool → List ℕ
ways true = 0 ∷ 1 ∷ 2 ∷ 3 ∷ []
ways false = 3 ∷ 2 ∷ 1 ∷ 0 ∷ []

-- the first that passes a test, or else `other`
unfoldable pub pick : (ℕ → Bool) → List ℕ → ℕ → ℕ
pick test [] other = other
pick test (way ∷ ways) other = if test way then way else pick test ways other

-- the exit taken from the start; 4 where there is none
unfoldable pub first_exit : ℕ → Bool → ℕ
unfolding pick exit_in
first_exit m clockwise = pick (exit_in m) (ways clockwise) 4

-- the exit that such a number says, if it says one
abbrev pub found_exit : ℕ → Found ℕ
found_exit way = if ltb way 4 then Some way else None

-- the exit taken after a move in a direction: the first that does not lead back
unfoldable pub onward : ℕ → Bool → ℕ → ℕ
unfolding pick exit_in
onward m clockwise way = pick (λ k. not (eqb k ((way + 2) % 4)) && exit_in m k) (ways clockwise) 0

-- two bits of a word for each m: the exits taken after a move; four bits: those taken from the start
pub record ExitsAfter (word : ℕ) (clockwise : Bool) (way : ℕ) : Type 0 where
  pub at : (m : ℕ) → m < 16 → word / 2 ^ (2 * m) % 4 ≡ onward m clockwise way

pub record FirstExits (word : ℕ) (clockwise : Bool) : Type 0 where
  pub at : (m : ℕ) → m < 16 → word / 2 ^ (4 * m) % 16 ≡ first_exit m clockwise

-- ---- runs

-- the exit taken from a place is an exit there
pub record OnEdge (c : Chart) (pixels : List ℕ) (p : Place) : Type 0 where
  pub way : p.way < 4
  pub edge : exit_in (around_of c pixels p.x p.y) p.way ≡ true

abbrev pub stepped : Place → Place
stepped p = record { x = p.x +ℤ across p.way; y = p.y +ℤ downward p.way; way = p.way; steps = p.steps + 1 }

abbrev pub turned : Place → ℕ → Place
turned p next = record { x = p.x; y = p.y; way = next; steps = p.steps }

abbrev pub point : Place → PointI32
point p = record { x = p.x; y = p.y }

module _ (c : Chart) (pixels : List ℕ) (clockwise : Bool) where
  unfoldable pub next : Place → ℕ
  next p = onward (around_of c pixels p.x p.y) clockwise p.way

  -- the place where the run from a place ends, after at most n steps
  unfoldable pub ran_on : ℕ → Place → Option Place
  ran_on zero p = none
  ran_on (suc n) p = elim (eqb (next (stepped p)) p.way) [
    | true ↦ ran_on n (stepped p)
    | false ↦ some (turned (stepped p) (next (stepped p)))
  ]

  -- what is left of it where the exit `way` was found
  abbrev pub goes_on : ℕ → Place → ℕ → Option Place
  goes_on n p way = elim (eqb way p.way) [ true ↦ ran_on n p | false ↦ some (turned p way) ]

  -- ---- the walk

  unfoldable pub went_on : PointI32 → ℕ → Place → Walk
  went_on start zero p = stuck
  went_on start (suc n) p = elim (ran_on 600 p) [
    | none ↦ no_way
    | some q ↦ elim (ltb 1000000 q.steps) [
      | true ↦ stuck
      | false ↦ elim (same_point (point q) start) [
        | true ↦ closed (point q ∷ [])
        | false ↦ after (point q) (went_on start n q)
      ]
    ]
  ]

  -- what follows at a place: each run has a step, so that there are no more runs than steps to the limit
  unfoldable pub rest : PointI32 → Place → Walk
  rest start p = went_on start (1000002 - p.steps) p

-- ---- what the functions count and write

abbrev pub place_of : PointI32 → ℕ → Place
place_of start way = record { x = start.x; y = start.y; way = way; steps = 0 }

-- how many points a walk has behind so many others, where it ends
abbrev pub counted : ℕ → Walk → Found ℕ
counted n (closed ps) = Some (n + length ps)
counted n no_way = None
counted n stuck = None

abbrev pub points_of : Walk → List PointI32
points_of (closed ps) = ps
points_of no_way = []
points_of stuck = []

abbrev pub is_closed : Walk → Bool
is_closed (closed ps) = true
is_closed no_way = false
is_closed stuck = false

-- a walk that ends, and has room in a buffer behind the start
pub record HasRoom (out : List ℤ) (walk : Walk) : Type 0 where
  pub ends : is_closed walk ≡ true
  pub room : 2 + length (points_of walk) * 2 ≤ length out

-- the start and a walk, laid over the start of a buffer
unfoldable pub written : List ℤ → PointI32 → Walk → List ℤ
unfolding flat over
written out start walk = over (flat (start ∷ points_of walk)) out
