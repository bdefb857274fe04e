-- The values of an answer whose work is counted: how many points were handed out, and document 02's count of distances (8/13). A refusal has
-- neither.
use Rattle.std.specs.Prelude.{ℕ, Result, Ok, Err}
use Rattle.point.specs.declared.refusal.Refusal.{Refusal}
use Rattle.reduce.specs.declared.Counted.{Counted}

abbrev pub counted_count : Result Counted Refusal → ℕ
counted_count (Ok c) = c.points
counted_count (Err r) = 0

abbrev pub distances_of : Result Counted Refusal → ℕ
distances_of (Ok c) = c.distances
distances_of (Err r) = 0

-- the answer alone
abbrev pub answer_of : Result Counted Refusal → Result ℕ Refusal
answer_of (Ok c) = Ok c.points
answer_of (Err r) = Err r
