-- A program that answers lines, run on a text: it does what its step says, turn by turn. proofs/Answers says what it has written when it reads
-- on, and when it ends.
use Rattle.std.specs.Prelude.{ℕ, zero, suc, ◌+◌, ◌-◌, min, List, [], ◌∷◌, ◌++◌, ltb, eqb, length, take, drop, if◌then◌else◌}
use Rattle.words.specs.Line.{onto}
use Rattle.lines.specs.Turns.{Step, begun, fed_state, line, step_of}
use Rattle.lines.specs.declared.turns.State.{State}
use Rattle.lines.specs.declared.turns.Turn.{Turn}
use Rattle.lines.specs.declared.turns.Turn.TheVariants.{Line, Write, Read, End}

-- ---- the lines of a text, and their answers

-- what its newlines end, and what stands behind the last of them, if anything does
unfoldable pub lines_of : List ℕ → List (List ℕ)
lines_of [] = []
lines_of (b ∷ text) = if eqb b 10 then [] ∷ lines_of text else onto b (lines_of text)

-- a byte in front of the first line, if there is one
abbrev pub before : ℕ → List (List ℕ) → List (List ℕ)
before b [] = []
before b (l ∷ ls) = (b ∷ l) ∷ ls

-- those that a newline ends
unfoldable pub whole_lines : List ℕ → List (List ℕ)
whole_lines [] = []
whole_lines (b ∷ text) = if eqb b 10 then [] ∷ whole_lines text else before b (whole_lines text)

-- what is answered of a line: one that a buffer of `size` bytes does not hold together with its newline is answered as an empty one
abbrev pub or_empty : ℕ → List ℕ → List ℕ
or_empty size l = if ltb (length l) size then l else []

-- ---- the run of a program whose answer to a line is `answer`

-- the program's state and buffers, all that it has written, and what of its input is not read yet
pub record Machine : Type 0 where
  pub state : State
  pub input : List ℕ
  pub output : List ℕ
  pub written : List ℕ
  pub text : List ℕ
  pub reads : ℕ

module _ (answer : List ℕ → List ℕ) where
  -- the answers to some lines, a line each
  unfoldable pub answers_to : ℕ → List (List ℕ) → List ℕ
  answers_to size [] = []
  answers_to size (l ∷ ls) = line (answer (or_empty size l)) ++ answers_to size ls

  -- An answer has room behind `most` bytes of the output. A read hands over what has room in the buffer, or less: the n-th at most
  -- `suc (sizes n)` bytes. So it hands over nothing only at the end of the text.
  module _ (most : ℕ) (sizes : ℕ → ℕ) where
    abbrev pub came : Machine → ℕ → List ℕ
    came m at = take (min (suc (sizes m.reads)) (length m.input - at)) m.text

    -- what the program does at a turn; at the end, nothing
    abbrev pub done : Turn → Machine → Machine
    done (Line from to next) m = record { state = next; input = m.input; output = m.output; written = m.written; text = m.text; reads = m.reads }
    done (Write bytes next) m =
        record { state = next; input = m.input; output = m.output; written = m.written ++ take bytes m.output; text = m.text; reads = m.reads }
    done (Read at next) m =
        let got = came m at in
        record {
          state = fed_state next (length got);
          input = take at m.input ++ got ++ drop (at + length got) m.input;
          output = m.output;
          written = m.written;
          text = drop (length got) m.text;
          reads = suc m.reads;
        }
    done End m = m

    -- what its step says, and the machine with the buffers as the step leaves them
    abbrev pub step_in : Machine → Step
    step_in m = step_of answer m.state most m.input m.output

    abbrev pub left : Machine → Machine
    left m =
        let s = step_in m in
        record { state = m.state; input = s.out.0; output = s.out.1; written = m.written; text = m.text; reads = m.reads }

    -- after so many turns
    unfoldable pub after : ℕ → Machine → Machine
    after zero m = m
    after (suc n) m = after n (done (step_in m).answer (left m))

-- nothing is read, written or waiting
abbrev pub started : List ℕ → List ℕ → List ℕ → Machine
started input output text = record { state = begun; input = input; output = output; written = []; text = text; reads = 0 }
