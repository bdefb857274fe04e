-- How what a frame asks for is handed on: its points at the start of a lent buffer, and the rest as the answer.
use Rattle.std.specs.Prelude.{ℕ, List, Option, Some, None, leb, ℤ, length, if◌then◌else◌}
use Rattle.laws.specs.Lists.{over}
use Rattle.laws.specs.Outcome.{Outcome}
use Rattle.requests.specs.Frame.{Request, rows_from, walk, simplify, reduce, numbers, no_frame}
use Rattle.requests.specs.declared.Asked.{Asked}

-- points that do not fit are not written, and there is no frame
abbrev pub with_points : {A : Type 0} → (ℕ → A) → List ℤ → List ℤ → Outcome (Option A) (List ℤ)
with_points ask points to =
    if leb (length points) (length to) then record { answer = Some (ask (length points)); out = over points to }
    else record { answer = None; out = to }

unfoldable pub asked_of : Request → List ℤ → Outcome (Option Asked) (List ℤ)
asked_of (walk clockwise chart start rows) to =
    record { answer = Some (Asked.Walk clockwise chart start rows_from); out = to }
asked_of (simplify clockwise points) to = with_points (λ n. Asked.Simplify clockwise n) points to
asked_of (reduce tolerance points) to = with_points (λ n. Asked.Reduce tolerance n) points to
asked_of (numbers points) to = with_points (λ n. Asked.Numbers n) points to
asked_of no_frame to = record { answer = None; out = to }
