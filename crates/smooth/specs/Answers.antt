-- Document 01's values of an answer: "For an answer that is an enum, a definition gives this paper's number and values for each of its cases." Its
-- number is that of every answer (specs/Refusals of `point`).
use Rattle.std.specs.Prelude.{ℕ, Bool, false, Result, Ok, Err}
use Rattle.point.specs.declared.refusal.Refusal.{Refusal}
use Rattle.smooth.specs.declared.Subdivided.{Subdivided}

-- the count, and whether the round is finished: "a refusal has count 0", and is not finished
abbrev pub subdivided_count : Result Subdivided Refusal → ℕ
subdivided_count (Ok round) = round.points
subdivided_count (Err r) = 0

abbrev pub subdivided_finished : Result Subdivided Refusal → Bool
subdivided_finished (Ok round) = round.finished
subdivided_finished (Err r) = false
