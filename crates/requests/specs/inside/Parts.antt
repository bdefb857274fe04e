-- Parts of a frame, and how each is handed on.
use Rattle.std.specs.Prelude.{ℕ, ◌+◌, ◌*◌, Bool, ◌&&◌, Option, Some, None, List, ltb, eqb, ℤ, length, drop, if◌then◌else◌}
use Rattle.laws.specs.Outcome.{Outcome}
use Rattle.requests.specs.Frame.{word_at, values_of, clockwise, directed}
use Rattle.requests.specs.Asked.{with_points}

-- whether the direction is clockwise, where there is one
abbrev pub direction_of : List ℕ → Option Bool
direction_of bytes = if ltb 1 (length bytes) && directed bytes then Some (clockwise bytes) else None

-- how many values the points have that stand behind their count at place k; they are put at the start of a lent buffer
abbrev pub points_at : List ℕ → ℕ → List ℤ → Outcome (Option ℕ) (List ℤ)
points_at bytes k to =
    if eqb (length bytes) (k + 2 + word_at bytes k * 4)
    then with_points (λ n. n) (values_of (drop (k + 2) bytes)) to
    else record { answer = None; out = to }
