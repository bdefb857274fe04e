-- `sandline` answers every line: what the proofs of `lines` say of any program that answers lines, at this one's answers and buffers. `step` is
-- proved to be this program's step. That `main` does what the step says, and nothing else, is to be read in src/main.rt: no contract can speak of
-- what is read and written. Assumes nothing.
use Prim.Native.Nat.{ℕ, ◌+◌, ◌*◌, ◌≤◌, ◌<◌}
use mathlib.Core.List.{List, [], ◌∷◌, ◌++◌, flat_map}
use mathlib.Core.Path.{◌≡◌, refl, sym, ap₂, ◌∙◌}
use native.Mathlib.Omega.{arith}
use lib.Dec.{ltb}
use lib.ListN.{length, length-append}
use borrow.Author.Tests.{ltb-false}
use Rattle.laws.proofs.If.{if_cases}
use Rattle.lines.specs.Turns.{line}
use Rattle.lines.specs.Runs.{Machine, lines_of, whole_lines, or_empty, answers_to, step_in, after, started}
use Rattle.lines.specs.declared.turns.State.{State}
use Rattle.lines.specs.declared.turns.Turn.{Turn}
use Rattle.lines.specs.declared.turns.Turn.TheVariants.{Read, End}
use Rattle.lines.proofs.Answers as Answers
use Rattle.frames.specs.Answer.{answer_to}
use Rattle.frames.proofs.Claims.{answer_short}
use Rattle.frames.proofs.Lengths.{too_long_is_no_frame, empty_is_no_frame}

-- the answers to some lines, a line each
abbrev pub answers : List (List ℕ) → List ℕ
answers ls = flat_map (λ l. line (answer_to l)) ls

-- a line that the input does not hold is no frame, and an empty one is none either
module _ (size : ℕ) (holds : 32768 < size) where
  as_heard : (l : List ℕ) → answer_to (or_empty size l) ≡ answer_to l
  as_heard l =
      if_cases (λ (k : List ℕ). answer_to k ≡ answer_to l) (ltb (length l) size) _ _ (λ t. refl)
      (λ t. empty_is_no_frame ∙ sym (too_long_is_no_frame l (omega (arith, ltb-false (length l) size t))))

  as_answered : (ls : List (List ℕ)) → answers_to answer_to size ls ≡ answers ls
  unfolding answers_to flat_map
  as_answered [] = refl
  as_answered (l ∷ ls) = ap₂ (λ (a : List ℕ) (b : List ℕ). line a ++ b) (as_heard l) (as_answered ls)

module _ (sizes : ℕ → ℕ) (input output text : List ℕ) (in_size : length input ≡ 33792) (out_size : length output ≡ 36864) where
  some : 0 < length input
  some = omega arith

  small : length input ≤ 18446744073709551615
  small = omega arith

  room : (l : List ℕ) → 4095 + length (line (answer_to l)) ≤ length output
  room l = omega (arith, length-append (answer_to l) (10 ∷ []), answer_short l)

  fits : 32768 < length input
  fits = omega arith

  -- the program after `n` turns, and what it does next
  module _ (n : ℕ) where
    abbrev machine : Machine
    machine = after answer_to 4095 sizes n (started input output text)

    abbrev turn : Turn
    turn = (step_in answer_to 4095 sizes machine).answer

    -- when it is about to read on, it has written the answers to all lines that it has got, and nothing else
    pub answers_come_before_more_is_read : (at : ℕ) (s : State) (got : List ℕ) → turn ≡ Read at s → text ≡ got ++ machine.text →
        machine.written ≡ answers (whole_lines got)
    answers_come_before_more_is_read at s got e is =
        Answers.answers_come_before_more_is_read answer_to 4095 sizes input output text some small room n at s got e is ∙ as_answered (length input) fits (whole_lines got)

    -- when it ends, it has written the answers to all lines, and nothing else
    pub every_line_is_answered : turn ≡ End → machine.written ≡ answers (lines_of text)
    every_line_is_answered e =
        Answers.every_line_is_answered answer_to 4095 sizes input output text some small room n e ∙ as_answered (length input) fits (lines_of text)

    -- it ends, after so many turns at most
    pub it_ends : 3 * length text + 1 ≤ n → turn ≡ End
    it_ends h = Answers.it_ends answer_to 4095 sizes input output text some small room n h

  -- `answer_all` counts its turns down from 2^64 - 1: they are enough for a text of 6 * 10^18 bytes
  pub turns_suffice : length text ≤ 6000000000000000000 → 3 * length text + 1 < 18446744073709551615
  turns_suffice h = omega arith
