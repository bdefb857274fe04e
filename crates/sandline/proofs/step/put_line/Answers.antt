-- An answer, and its newline behind it, are put as one line: there is room, for no answer is longer than 32,768 digits. Assumes nothing.
use Rattle.std.proofs.Common.{◌≡◌, ℕ, ◌+◌, ◌≤◌, List, [], ◌∷◌, length, arith}
use lib.ListN.{length-append}
use Rattle.texts.specs.Put.{put}
use Rattle.texts.proofs.Pieces.{put_then}
use Rattle.lines.specs.Turns.{line}
use Rattle.frames.specs.Answer.{answer_to}
use Rattle.frames.proofs.Claims.{answer_short}
use Rattle.sandline.proofs.step.put_line.Goals as goal

one_line : (text out mid last : List ℕ) (at m r : ℕ) → at + 32769 ≤ length out →
    record { answer = m; out = mid } ≡ put (answer_to text) out at → record { answer = r; out = last } ≡ put (10 ∷ []) mid m →
    record { answer = r; out = last } ≡ put (line (answer_to text)) out at
one_line text out mid last at m r h e f =
    put_then (answer_to text) (10 ∷ []) out mid last at m r (omega (arith, length-append (answer_to text) (10 ∷ []), answer_short text)) e f

pub returns-clause-put : goal.returns-clause-put
returns-clause-put c = one_line _ _ _ _ _ _ _ c.requires c.answer.ensures.put c.put_byte.ensures.put
