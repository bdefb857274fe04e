-- The program, run on an input that comes in pieces: it does what its step says, turn by turn. proofs/Answers says what it writes, and when.
use Rattle.std.specs.Prelude.{ℕ, zero, suc, ◌+◌, ◌-◌, ◌<◌, Bool, true, false, List, [], ◌∷◌, ◌++◌, ltb, length, take, drop, if◌then◌else◌}
use Rattle.survey.specs.Survey.{Step, step_of, may_come}
use Rattle.survey.specs.declared.step.Turn.{Turn}
use Rattle.survey.specs.declared.step.Turn.TheVariants.{Read, Write}

-- the buffers, how many bytes of the input are held and whether more may come, what was written, each write by itself, the pieces of the input
-- that have not come yet, and whether the program has ended
pub record Machine : Type 0 where
  pub input : List ℕ
  pub held : ℕ
  pub more : Bool
  pub output : List ℕ
  pub written : List (List ℕ)
  pub pieces : List (List ℕ)
  pub ended : Bool

-- ---- a read brings the next piece, as much of it as has room, or nothing where none is left

abbrev pub came : ℕ → List (List ℕ) → List ℕ
came room [] = []
came room (p ∷ ps) = take room p

-- the pieces behind it: what had no room comes next
abbrev pub behind : ℕ → List (List ℕ) → List (List ℕ)
behind room [] = []
behind room (p ∷ ps) = if ltb room (length p) then drop room p ∷ ps else ps

-- some bytes more are held
abbrev pub fed : Machine → List ℕ → List (List ℕ) → Machine
fed m got pieces =
    let end = m.held + length got in
    record {
      input = take m.held m.input ++ got ++ drop end m.input;
      held = end;
      more = may_come (length got) end (length m.input);
      output = m.output;
      written = m.written;
      pieces = pieces;
      ended = false;
    }

-- ---- turns

-- what the program does at a turn
abbrev pub done : Turn → Machine → Machine
done Read m = let room = length m.input - m.held in fed m (came room m.pieces) (behind room m.pieces)
done (Write bytes) m =
    record {
      input = m.input;
      held = m.held;
      more = m.more;
      output = m.output;
      written = m.written ++ (take bytes m.output ∷ []);
      pieces = m.pieces;
      ended = true;
    }

-- what its step says, and the machine with the output as the step leaves it
abbrev pub step_in : Machine → Step
step_in m = step_of (take m.held m.input) m.more m.output

abbrev pub left : Machine → List ℕ → Machine
left m output = record { input = m.input; held = m.held; more = m.more; output = output; written = m.written; pieces = m.pieces; ended = m.ended }

-- one turn; none once it has ended
unfoldable pub turned : Machine → Machine
turned m = if m.ended then m else done (step_in m).answer (left m (step_in m).out)

-- after so many turns
unfoldable pub after : ℕ → Machine → Machine
unfolding turned
after zero m = m
after (suc n) m = turned (after n m)

-- nothing is read or written
abbrev pub started : List ℕ → List ℕ → List (List ℕ) → Machine
started input output pieces =
    record { input = input; held = 0; more = true; output = output; written = []; pieces = pieces; ended = false }

-- no piece is empty: a read that brings nothing is at the end
abbrev pub Filled : List (List ℕ) → Type 0
Filled [] = Unit {0}
Filled (p ∷ ps) = (0 < length p) × Filled ps
