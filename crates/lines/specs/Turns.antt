-- What a program that answers lines does next: `next_turn` is what `next` promises, and `step_of` a program's turn with the answer that it puts.
use Rattle.std.specs.Prelude.{ℕ, ◌-◌, List, [], ◌∷◌, ◌++◌, ltb, take, drop, if◌then◌else◌}
use Rattle.texts.specs.Put.{put}
use Rattle.laws.specs.Outcome.{Outcome}
use Rattle.lines.specs.Reader.{fresh_reader, fed_reader, taken}
use Rattle.lines.specs.declared.reader.Reader.{Reader}
use Rattle.lines.specs.declared.reader.Taken.{Taken}
use Rattle.lines.specs.declared.turns.State.{State}
use Rattle.lines.specs.declared.turns.Turn.{Turn}
use Rattle.lines.specs.declared.turns.Turn.TheVariants.{Line, Write, Read, End}

-- ---- a state

-- nothing is read, and nothing waits
abbrev pub begun : State
begun = record { reader = fresh_reader; waiting = 0 }

abbrev pub fed_state : State → ℕ → State
fed_state s got = record { reader = fed_reader s.reader got; waiting = s.waiting }

abbrev pub answered_state : State → ℕ → State
answered_state s end = record { reader = s.reader; waiting = end }

-- ---- the next turn

-- all that waits is written
abbrev pub writes : Reader → ℕ → Turn
writes r waiting = Write waiting (record { reader = r; waiting = 0 })

-- a line that is held is answered; where there is none, what waits is written before anything is read, and before the end
abbrev pub turn_of : State → Taken → Turn
turn_of s (Taken.Line from to r) = Line from to (record { reader = r; waiting = s.waiting })
turn_of s (Taken.More at r) = if ltb 0 s.waiting then writes r s.waiting else Read at (record { reader = r; waiting = 0 })
turn_of s Taken.End = if ltb 0 s.waiting then writes s.reader s.waiting else End

-- a turn is answered, and the input's buffer then holds this
abbrev pub Next : Type 0
Next = Outcome Turn (List ℕ)

-- no answer is put behind more than `most` bytes: they are written first
unfoldable pub next_turn : State → ℕ → List ℕ → Next
next_turn s most input =
    if ltb most s.waiting then
    record { answer = writes s.reader s.waiting; out = input }
    else
    record { answer = turn_of s (taken s.reader input).answer; out = (taken s.reader input).out }

-- ---- a program's step: the next turn, and the answer to its line, if it is one, in the output

-- a turn is answered, and the buffers of the input and of the output then hold this
abbrev pub Step : Type 0
Step = Outcome Turn (List ℕ × List ℕ)

-- an answer is a line of its own
abbrev pub line : List ℕ → List ℕ
line answer = answer ++ (10 ∷ [])

module _ (answer : List ℕ → List ℕ) where
  abbrev pub stepped : Turn → List ℕ → List ℕ → Step
  stepped (Line from to s) input output =
      let reply = put (line (answer (take (to - from) (drop from input)))) output s.waiting in
      record { answer = Line from to (answered_state s reply.answer); out = (input, reply.out) }
  stepped (Write bytes s) input output = record { answer = Write bytes s; out = (input, output) }
  stepped (Read at s) input output = record { answer = Read at s; out = (input, output) }
  stepped End input output = record { answer = End; out = (input, output) }

  unfoldable pub step_of : State → ℕ → List ℕ → List ℕ → Step
  step_of s most input output = let n = next_turn s most input in stepped n.answer n.out output
