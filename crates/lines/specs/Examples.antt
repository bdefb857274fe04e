-- Worked examples: antt computes each, so `refl` proves it. 97 is `a`, 98 is `b`, 32 a space and 10 a newline.
use Rattle.std.specs.Prelude.{true, false, [], ◌∷◌, ◌≡◌, refl, ℕ}
use Rattle.texts.specs.Put.{put}
use Rattle.words.specs.Line.{up_to}
use Rattle.lines.specs.Reader.{fresh_reader, fed_reader, refill, taken}
use Rattle.lines.specs.Turns.{next_turn, step_of}
use Rattle.lines.specs.Runs.{lines_of, whole_lines, Machine, after, started}
use Rattle.lines.specs.declared.reader.Taken.TheVariants.{Line, More, End}

-- nothing is held yet: all of the buffer is to be read into
first_read : taken fresh_reader (97 ∷ 98 ∷ []) ≡ record { answer = More 0 fresh_reader; out = 97 ∷ 98 ∷ [] }
unfolding up_to refill taken
first_read = refl

-- the line `a`, and then what stands behind its newline
a_line : taken (fed_reader fresh_reader 3) (97 ∷ 10 ∷ 98 ∷ []) ≡
    record {
      answer = Line 0 1 (record { start = 2; seen = 2; end = 3; over = false; long = false });
      out = 97 ∷ 10 ∷ 98 ∷ [];
    }
unfolding up_to refill taken
a_line = refl

-- `b` has no newline: it goes to the front, and more is read behind it
to_the_front : taken (record { start = 2; seen = 2; end = 3; over = false; long = false }) (97 ∷ 10 ∷ 98 ∷ []) ≡
    record {
      answer = More 1 (record { start = 0; seen = 1; end = 1; over = false; long = false });
      out = 98 ∷ 10 ∷ 98 ∷ [];
    }
unfolding up_to refill taken
to_the_front = refl

-- unless the input has ended: then it is the last line
last_line : taken (record { start = 2; seen = 2; end = 3; over = true; long = false }) (97 ∷ 10 ∷ 98 ∷ []) ≡
    record {
      answer = Line 2 3 (record { start = 3; seen = 3; end = 3; over = true; long = false });
      out = 97 ∷ 10 ∷ 98 ∷ [];
    }
unfolding up_to refill taken
last_line = refl

no_line : (taken (record { start = 3; seen = 3; end = 3; over = true; long = false }) (97 ∷ 10 ∷ 98 ∷ [])).answer ≡ End
unfolding up_to refill taken
no_line = refl

-- a full buffer with no newline holds a part of a line that is too long, which is answered once, at its end, as an empty one
too_long : (taken (fed_reader fresh_reader 2) (97 ∷ 98 ∷ [])).answer ≡ More 0 (record { start = 0; seen = 0; end = 0; over = false; long = true })
unfolding up_to refill taken
too_long = refl

its_end : (taken (record { start = 0; seen = 0; end = 2; over = false; long = true }) (97 ∷ 10 ∷ [])).answer ≡
    Line 1 1 (record { start = 2; seen = 2; end = 2; over = false; long = false })
unfolding up_to refill taken
its_end = refl

-- ---- the lines of a text

-- `a`, an empty line, and `b` without a newline
three_lines : lines_of (97 ∷ 10 ∷ 10 ∷ 98 ∷ []) ≡ (97 ∷ []) ∷ [] ∷ (98 ∷ []) ∷ []
unfolding lines_of
three_lines = refl

two_are_whole : whole_lines (97 ∷ 10 ∷ 10 ∷ 98 ∷ []) ≡ (97 ∷ []) ∷ [] ∷ []
unfolding whole_lines
two_are_whole = refl

-- a text that ends in a newline has no line behind it
nothing_behind : lines_of (97 ∷ 10 ∷ []) ≡ (97 ∷ []) ∷ []
unfolding lines_of
nothing_behind = refl

-- ---- a program that answers each line by itself, on the text `a`, newline, `b`, with buffers of three and four bytes, read a byte at a time

abbrev echo : ℕ → Machine
unfolding after
echo n = after (λ l. l) 2 (λ k. 0) n (started (0 ∷ 0 ∷ 0 ∷ []) (0 ∷ 0 ∷ 0 ∷ 0 ∷ []) (97 ∷ 10 ∷ 98 ∷ []))

-- two reads, an answer, and it is written before the third read
first_answer : (echo 4).written ≡ 97 ∷ 10 ∷ []
unfolding up_to refill taken put next_turn step_of after
first_answer = refl

not_read_yet : (echo 4).text ≡ 98 ∷ []
unfolding up_to refill taken put next_turn step_of after
not_read_yet = refl

both_answers : (echo 8).written ≡ 97 ∷ 10 ∷ 98 ∷ 10 ∷ []
unfolding up_to refill taken put next_turn step_of after
both_answers = refl
