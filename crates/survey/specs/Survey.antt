-- What the program answers to a file: three lines of a picture, and one of what is no picture. A line has the form of document 01's "Frames".
use Rattle.std.specs.Prelude.{ℕ, ◌*◌, Bool, true, false, not, ◌&&◌, List, [], ◌++◌, ltb, ℤ, length, take, replicate, if◌then◌else◌, Result, Ok, Err}
use Rattle.laws.specs.Lists.{over}
use Rattle.laws.specs.Outcome.{Outcome}
use Rattle.point.specs.Refusals.{refusal_number, count_of}
use Rattle.chart.specs.Start.{first_start}
use Rattle.chart.specs.declared.Chart.{Chart}
use Rattle.walker.specs.Walk as Walk
use Rattle.point.specs.Outcomes.{Points}
use Rattle.point.specs.declared.PointI32.{PointI32}
use Rattle.point.specs.declared.refusal.Refusal.{Refusal}
use Rattle.simplify.specs.Simplify as Simplify
use Rattle.reduce.specs.Numbers.{numbered_of}
use Rattle.frames.specs.Replies.{points_text}
use Rattle.frames.specs.Room.{room, number_room}
use Rattle.frames.specs.Calls.{walk_reply, simplify_reply, numbers_reply}
use Rattle.lines.specs.Turns.{line}
use Rattle.pbm.specs.Read as Pbm
use Rattle.pbm.specs.declared.Picture.{Picture}
use Rattle.survey.specs.declared.step.Turn.{Turn}
use Rattle.survey.specs.declared.step.Turn.TheVariants.{Read, Write}

-- ---- the three lines of a chart: kinds 01, 02 and 04 of "Frames", each of what the line before it hands on

-- The outline from a start, clockwise, or why there is no start: 8 is for "first start of a blank chart" too.
abbrev pub outline_from : Result PointI32 Refusal → Chart → List ℕ → List ℤ → Points
outline_from (Ok p) c pixels out = Walk.walked c pixels p true out
outline_from (Err r) c pixels out = record { answer = Err r; out = out }

abbrev pub outline_of : Chart → List ℕ → List ℤ → Points
outline_of c pixels out = outline_from (first_start c pixels) c pixels out

-- the points that a call hands on: "a refusal has count 0"
abbrev pub kept : Points → List ℤ
kept o = take (count_of o.answer * 2) o.out

-- the simplification of some points, and the numbers of what it keeps
unfoldable pub two_lines : List ℤ → List ℕ
two_lines points =
    let simple = Simplify.simplify_of points true room in
    line (simplify_reply simple) ++ line (numbers_reply (numbered_of (kept simple) number_room))

unfoldable pub three_lines : Chart → List ℕ → List ℕ
unfolding two_lines
three_lines c pixels = let outline = outline_of c pixels room in line (walk_reply outline) ++ two_lines (kept outline)

-- ---- the answer to a file

-- a picture that is refused: "kind + 80, number above, count u16", of kind 00 and with no points
abbrev pub refused_line : ℕ → List ℕ
refused_line number = line (points_text 0 number [])

abbrev pub text_of : Result Picture Refusal → List ℕ → List ℕ
text_of (Ok picture) pixels = three_lines picture.chart pixels
text_of (Err r) pixels = refused_line (refusal_number r)

-- room for the largest chart: 512 rows of 64 bytes
abbrev pub chart_room : List ℕ
chart_room = replicate 32768 0

unfoldable pub survey_text : List ℕ → List ℕ
unfolding three_lines
survey_text file = let picture = Pbm.read_of file chart_room in text_of picture.answer picture.out

-- ---- what is to be done with the part of a file that came

abbrev pub is_read : Result Picture Refusal → Bool
is_read (Ok picture) = true
is_read (Err r) = false

-- an image is whole in it
unfoldable pub whole : List ℕ → Bool
whole file = is_read (Pbm.read_of file chart_room).answer

-- a turn is answered, and the output then holds this
abbrev pub Step : Type 0
Step = Outcome Turn (List ℕ)

-- "Bytes after the first image are left unread": nothing is waited for behind it. Without it, all that may come is read.
unfoldable pub step_of : List ℕ → Bool → List ℕ → Step
unfolding survey_text whole
step_of file more output =
    if more && not (whole file) then
    record { answer = Read; out = output }
    else
    record { answer = Write (length (survey_text file)); out = over (survey_text file) output }

-- Whether more may come once `end` bytes are held, of which the last read brought n: until it brought none, at the end of the input, or the
-- buffer of `size` bytes is full.
abbrev pub may_come : ℕ → ℕ → ℕ → Bool
may_come n end size = ltb 0 n && ltb end size
