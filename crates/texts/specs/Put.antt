-- Text, put at a place of a buffer.
use Rattle.std.specs.Prelude.{ℕ, ◌+◌, List, ◌++◌, leb, length, take, drop, if◌then◌else◌}
use Rattle.laws.specs.Outcome.{Outcome}
use Rattle.texts.specs.declared.put.Pen.{Pen}

-- the place behind what is put is the answer
abbrev pub Placed : Type 0
Placed = Outcome ℕ (List ℕ)

-- where it fits it stands there, between what stood before and behind it; else nothing is written
unfoldable pub put : List ℕ → List ℕ → ℕ → Placed
put text out at =
    if leb (at + length text) (length out) then
    record { answer = at + length text; out = take at out ++ text ++ drop (at + length text) out }
    else
    record { answer = at; out = out }

-- ---- a pen

-- its place, and what its buffer holds
abbrev pub held : Pen → Placed
held pen = record { answer = pen.at; out = pen.out.now }

-- what it holds once a text is put at its place
abbrev pub put_by : Pen → List ℕ → Placed
put_by pen text = put text pen.out.now pen.at
