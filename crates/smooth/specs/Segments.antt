-- What enters behind a point of a list: the segments of the list, and the points around each that count.
use Rattle.std.specs.Prelude.{ℕ, suc, ◌-◌, Bool, not, ◌&&◌, ◌||◌, List, eqb, Float, get_or, if◌then◌else◌, Option, Some, None}
use Rattle.smooth.specs.Places.{place_at}
use Rattle.smooth.specs.Scheme.{skipped, placed}
use Rattle.smooth.specs.declared.scheme.Settings.{Settings}
use Rattle.smooth.specs.declared.scheme.Entering.{Entering}

-- ---- one segment, from the point at i to the one at j. A list has m points; a closed one wraps

-- a corner has the flag 1
abbrev pub has_flag : List ℕ → ℕ → Bool
has_flag corners i = eqb (get_or corners i 0) 1

-- the position after i
abbrev pub after : Bool → ℕ → ℕ → ℕ
after closed m i = if closed && eqb (suc i) m then 0 else suc i

-- the neighbour before i, and the one behind j; an end of an open list is its own
abbrev pub prev_of : Bool → ℕ → ℕ → ℕ
prev_of closed m i = if eqb i 0 then (if closed then m - 1 else i) else i - 1

abbrev pub next_of : Bool → ℕ → ℕ → ℕ
next_of closed m j = if eqb (suc j) m then (if closed then 0 else j) else suc j

-- "3-point scheme at corners": a corner is its own neighbour
abbrev pub prev_kept : List ℕ → Bool → ℕ → ℕ → ℕ
prev_kept corners closed m i = if has_flag corners i then i else prev_of closed m i

abbrev pub next_kept : List ℕ → Bool → ℕ → ℕ → ℕ
next_kept corners closed m j = if has_flag corners j then j else next_of closed m j

-- both ends of a segment are their own neighbours: each is a corner, or an end of an open list. Nothing enters there
abbrev pub pinned : List ℕ → Bool → ℕ → ℕ → ℕ → Bool
pinned corners closed m i j = eqb (prev_kept corners closed m i) i && eqb (next_kept corners closed m j) j

-- what enters a segment: nothing where it is left as it is, or where both its ends are pinned
unfoldable pub entering : List Float → List ℕ → Settings → Bool → ℕ → ℕ → ℕ → Option Entering
unfolding skipped placed
entering list corners settings closed m i j =
    if skipped (place_at list i) (place_at list j) (place_at list (prev_of closed m i)) (place_at list (next_of closed m j)) settings.length ||
    pinned corners closed m i j
    then None
    else Some (placed settings (place_at list i) (place_at list j) (place_at list (prev_kept corners closed m i)) (place_at list (next_kept corners closed m j)))

-- what enters behind the point at i. No segment leaves the last point of an open list
unfoldable pub entering_behind : List Float → List ℕ → Settings → Bool → ℕ → ℕ → Option Entering
unfolding entering
entering_behind list corners settings closed m i =
    if not closed && eqb (suc i) m then None else entering list corners settings closed m i (after closed m i)
