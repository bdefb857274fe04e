-- The step limit. Document 01 gives Stuck exactly when "after some run the walk has over 1,000,000 steps". Here this is said of runs alone, as
-- many as there are and as long as they are: `run` and `follow` of `Walk` count down from 600 steps and 1,000,002 runs, and nothing here
-- does. The theorem `stuck_exactly` of `Stuck` says that a walk is stuck exactly where `TooLong` holds.
use Prim.Native.Nat.{ℕ, suc, ◌≤◌, ◌<◌}
use mathlib.Core.Bool.{Bool}
use mathlib.Core.Option.{some}
use mathlib.Core.Path.{◌≡◌}
use Rattle.point.specs.declared.PointI32.{PointI32}
use Rattle.walker.specs.Walk.{Pixels, Way, Walker, at_start, moved, taken}

-- "A run goes on until the exit taken would change direction": a run in direction d comes to where v stands, and ends there, since the exit
-- taken from there is e, in another direction. The last argument is where the walker stands on the way.
pub data EndsAt (set : Pixels) (clockwise : Bool) (d : Way) (v : Walker) (e : Way) : Walker → Type 0 where
  turns : taken set clockwise v ≡ some e → (e ≡ d → ⊥) → EndsAt set clockwise d v e v
  goes_on : {w : Walker} → taken set clockwise w ≡ some d → EndsAt set clockwise d v e (moved w d) → EndsAt set clockwise d v e w

-- after n runs from the start the walker is w, about to take the exit d
pub data Runs (set : Pixels) (clockwise : Bool) (start : PointI32) : ℕ → Walker → Way → Type 0 where
  none_yet : {d : Way} → taken set clockwise (at_start start) ≡ some d → Runs set clockwise start 0 (at_start start) d
  one_more : {n : ℕ} {w v : Walker} {d e : Way} → Runs set clockwise start n w d → EndsAt set clockwise d v e (moved w d) → Runs set clockwise start (suc n) v e

-- After run n the walk has over 1,000,000 steps; and it came so far, since no run before ended on the start.
pub record TooLong (set : Pixels) (clockwise : Bool) (start : PointI32) : Type 0 where
  pub n : ℕ
  pub walker : Walker
  pub way : Way
  pub runs : Runs set clockwise start n walker way
  pub over : 1000000 < walker.steps
  pub not_back : (k : ℕ) (v : Walker) (e : Way) → 1 ≤ k → k < n → Runs set clockwise start k v e → v.curr ≡ start → ⊥

-- run n is the first of that kind: after each run before it the walk has at most 1,000,000 steps
pub record FirstTooLong (set : Pixels) (clockwise : Bool) (start : PointI32) : Type 0 where
  pub long : TooLong set clockwise start
  pub before : (k : ℕ) (v : Walker) (e : Way) → k < long.n → Runs set clockwise start k v e → v.steps ≤ 1000000
