-- Document 01, "Frames": what a line is answered. The library's own definitions say what each call answers.
use Rattle.std.specs.Prelude.{ℕ, Option, Some, None, List, [], ◌∷◌, pos, Float}
use Rattle.std.specs.Float.{binary64}
use Rattle.std.specs.Float.Ieee.{of_int, div}
use Rattle.walker.specs.Walk.{walked}
use Rattle.simplify.specs.Simplify.{simplify_of}
use Rattle.reduce.specs.Numbers.{numbered_of}
use Rattle.reduce.specs.Reduce.{reduce_of}
use Rattle.words.specs.Bytes.{bytes_of}
use Rattle.frames.specs.Replies.{points_text, numbers_text}
use Rattle.frames.specs.Room.{room, marks, number_room}
use Rattle.frames.specs.Calls.{walk_reply, simplify_reply, reduce_reply, numbers_reply}
use Rattle.requests.specs.Frame.{Request, walk, simplify, reduce, numbers, no_frame, request_in}

-- "answered ff0b0000"
abbrev pub bad_reply : List ℕ
bad_reply = 102 ∷ 102 ∷ 48 ∷ 98 ∷ 48 ∷ 48 ∷ 48 ∷ 48 ∷ []

-- "tolerance u16 in sixteenths"
abbrev pub sixteenths : ℕ → Float
sixteenths t = div binary64 (of_int binary64 (pos t)) (of_int binary64 (pos 16))

-- what a frame is answered, by what it asks for
unfoldable pub reply_to : Request → List ℕ
unfolding points_text numbers_text
reply_to (walk clockwise chart start pixels) = walk_reply (walked chart pixels start clockwise room)
reply_to (simplify clockwise list) = simplify_reply (simplify_of list clockwise room)
reply_to (reduce tolerance list) = reduce_reply (reduce_of list (sixteenths tolerance) room room marks)
reply_to (numbers list) = numbers_reply (numbered_of list number_room)
reply_to no_frame = bad_reply

-- ---- lines

-- "empty line, odd or non-hex digits (either case is read)" are no frame
unfoldable pub bytes_reply : Option (List ℕ) → List ℕ
unfolding request_in reply_to
bytes_reply None = bad_reply
bytes_reply (Some bytes) = reply_to (request_in bytes)

-- what a line is answered, by the bytes that its digits say
unfoldable pub answer_to : List ℕ → List ℕ
unfolding bytes_reply bytes_of
answer_to line = bytes_reply (bytes_of line)
