-- Whether one of the penalties from this position on reaches the tolerance is what the greatest of all says.
use Prim.Native.Nat.{ℕ, ◌-◌}
use mathlib.Core.Bool.{Bool}
use mathlib.Core.List.{List}
use mathlib.Core.Path.{◌≡◌}
use lib.IntN.{ℤ}
use lib.Ieee.{Float}
use Rattle.point.specs.Points.{points}
use Rattle.simplify.specs.Penalties.{penalty, at, too_costly}
use Rattle.simplify.proofs.Reached.{some_reaches}
use Rattle.simplify.proofs.costs.past_delta.Given as goal

-- the penalty of a position, and whether one of those from k on reaches the tolerance
abbrev pub cost_of : List ℤ → ℕ → ℕ → ℕ → Float
cost_of list from to k = penalty (at (points list) from) (at (points list) k) (at (points list) to)

unfoldable pub rest : List ℤ → ℕ → ℕ → ℕ → Bool
rest list from to k = some_reaches (cost_of list from to) (to - k) k

abbrev pub invariant-loop-k : goal.invariant-loop-k
invariant-loop-k l = rest l.points l.from l.to l.k ≡ too_costly (points l.points) l.from l.to
