-- What `take` answers to a reader and a buffer, and what the buffer then holds.
use Rattle.std.specs.Prelude.{ℕ, ◌+◌, ◌-◌, min, max, Bool, true, false, ◌||◌, List, ◌++◌, ltb, eqb, length, take, drop, if◌then◌else◌}
use Rattle.laws.specs.Outcome.{Outcome}
use Rattle.words.specs.Line.{first_from}
use Rattle.lines.specs.declared.reader.Reader.{Reader}
use Rattle.lines.specs.declared.reader.Taken.{Taken}
use Rattle.lines.specs.declared.reader.Taken.TheVariants.{Line, More, End}

-- nothing was read
abbrev pub fresh_reader : Reader
fresh_reader = record { start = 0; seen = 0; end = 0; over = false; long = false }

-- `got` more bytes are read, up to the largest place; none of them ends the input
abbrev pub fed_reader : Reader → ℕ → Reader
fed_reader r got =
    record {
      start = r.start;
      seen = r.seen;
      end = min (r.end + got) 18446744073709551615;
      over = eqb got 0 || r.over;
      long = r.long;
    }

-- the places in order, and within `n` bytes
abbrev pub in_order : Reader → ℕ → Reader
in_order r n =
    record {
      start = min r.start (min r.end n);
      seen = max (min r.start (min r.end n)) (min r.seen (min r.end n));
      end = min r.end n;
      over = r.over;
      long = r.long;
    }

-- all before `at` is handed out
abbrev pub past : Reader → ℕ → Reader
past r at = record { start = at; seen = at; end = r.end; over = r.over; long = false }

-- a line ends at `to`, and the next begins at `next`; of one that was too long, and was being passed over, no bytes are handed out
abbrev pub line_ends : Reader → ℕ → ℕ → Taken
line_ends r to next = if r.long then Line to to (past r next) else Line r.start to (past r next)

-- the input has ended, and no newline is left: what is left is a line, if anything is
abbrev pub input_ends : Reader → Taken
input_ends r = if r.long || ltb r.start r.end then line_ends r r.end r.end else End

-- how many bytes are held, and which
abbrev pub count : Reader → ℕ
count r = r.end - r.start

abbrev pub held : Reader → List ℕ → List ℕ
held r buffer = take (count r) (drop r.start buffer)

-- more is to be read, behind `n` bytes that stand at the front
abbrev pub more : ℕ → Bool → Bool → Taken
more n over long = More n (record { start = 0; seen = n; end = n; over = over; long = long })

-- What is held goes to the front. Where it is of a line that is too long, or fills the buffer and so shows that its line is, it
-- is dropped.
unfoldable pub refill : Reader → List ℕ → Outcome Taken (List ℕ)
refill r buffer =
    if r.long || eqb (count r) (length buffer) then
    record { answer = more 0 r.over true; out = buffer }
    else
    record { answer = more (count r) r.over false; out = held r buffer ++ drop (count r) buffer }

-- the place of the first newline that is held and not yet seen; the end, where there is none
abbrev pub newline : Reader → List ℕ → ℕ
newline r buffer = first_from 10 r.seen (take r.end buffer)

-- of a reader whose places are in order and in the buffer
unfoldable pub took : Reader → List ℕ → Outcome Taken (List ℕ)
took r buffer =
    if ltb (newline r buffer) r.end then
    record { answer = line_ends r (newline r buffer) (newline r buffer + 1); out = buffer }
    else if r.over then
    record { answer = input_ends r; out = buffer }
    else
    refill r buffer

unfoldable pub taken : Reader → List ℕ → Outcome Taken (List ℕ)
unfolding took
taken r buffer = took (in_order r (length buffer)) buffer
