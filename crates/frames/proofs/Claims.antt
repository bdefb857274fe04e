-- What follows of the contracts, for their readers and their callers. Assumes nothing.
use Prim.Native.Nat.{ℕ, ◌*◌, ◌≤◌}
use mathlib.Core.Bool.{Bool}
use mathlib.Core.List.{List}
use Rattle.std.specs.Prelude.{Option, Some, None}
use native.Mathlib.Omega.{arith}
use lib.Ieee.{Float}
use lib.IntN.{ℤ}
use lib.ListN.{length}
use Rattle.laws.proofs.Determined.{Determined, same}
use Rattle.point.specs.Refusals.{number_of, count_of}
use Rattle.point.specs.declared.PointI32.{PointI32}
use Rattle.chart.specs.declared.Chart.{Chart}
use Rattle.walker.specs.Walk.{walked}
use Rattle.simplify.specs.Simplify.{simplify_of}
use Rattle.reduce.specs.Numbers.{numbered_of}
use Rattle.reduce.specs.Reduce.{reduce_of}
use Rattle.texts.specs.Put.{Placed, put, held}
use Rattle.words.specs.Bytes.{bytes_of}
use Rattle.requests.specs.Frame.{Request, walk, simplify, reduce, numbers, no_frame, request_in}
use Rattle.frames.specs.Room.{room, marks, number_room}
use Rattle.frames.specs.Replies.{points_text, numbers_text}
use Rattle.frames.specs.Calls.{walk_reply, simplify_reply, reduce_reply, numbers_reply}
use Rattle.frames.specs.Answer.{sixteenths, reply_to, bytes_reply, answer_to}
use Rattle.frames.proofs.Parts.{points_short, numbers_short}
use Rattle.frames.proofs.Room.{walk_counts, simplify_counts, reduce_counts, numbers_counts}
use Rattle.frames.proofs.replies.put_points.Reads.{Post as PutPoints}
use Rattle.frames.proofs.replies.put_numbers.Reads.{Post as PutNumbers}
use Rattle.frames.proofs.calls.put_walk.Reads.{Post as PutWalk}
use Rattle.frames.proofs.calls.put_simplified.Reads.{Post as PutSimplified}
use Rattle.frames.proofs.calls.put_reduced.Reads.{Post as PutReduced}
use Rattle.frames.proofs.calls.put_numbered.Reads.{Post as PutNumbered}
use Rattle.frames.proofs.line.answer.Reads.{Post as Answer}

-- Each contract leaves no choice: of equal arguments it allows one answer, and one last content of the buffer. `Post` is the contract itself, as
-- Rattle reads it off the source.

pub put_points_determined : Determined (ℕ × ℕ × List ℤ × Placed) Placed PutPoints (λ _ a. (a.0, a.1.0, a.1.1.0.now, held a.1.1.1.0.now)) (λ _ r s. held s.1.1.1.0.now)
put_points_determined = same (λ x. put (points_text x.0 x.1 x.2) x.3.out x.3.answer) (λ _ a r s p. p.0)

pub put_numbers_determined : Determined (ℕ × ℕ × List Float × Placed) Placed PutNumbers (λ _ a. (a.0, a.1.0, a.1.1.0.now, held a.1.1.1.0.now)) (λ _ r s. held s.1.1.1.0.now)
put_numbers_determined = same (λ x. put (numbers_text x.0 x.1 x.2) x.3.out x.3.answer) (λ _ a r s p. p.0)

pub put_walk_determined : Determined (Chart × List ℕ × PointI32 × Bool × Placed) Placed PutWalk (λ _ a. (a.0, a.1.0.now, a.1.1.0, a.1.1.1.0, held a.1.1.1.1.0.now)) (λ _ r s. held s.1.1.1.1.0.now)
put_walk_determined = same (λ x. put (walk_reply (walked x.0 x.1 x.2 x.3 room)) x.4.out x.4.answer) (λ _ a r s p. p.0)

pub put_simplified_determined : Determined (List ℤ × Bool × Placed) Placed PutSimplified (λ _ a. (a.0.now, a.1.0, held a.1.1.0.now)) (λ _ r s. held s.1.1.0.now)
put_simplified_determined = same (λ x. put (simplify_reply (simplify_of x.0 x.1 room)) x.2.out x.2.answer) (λ _ a r s p. p.0)

pub put_reduced_determined : Determined (List ℤ × Float × Placed) Placed PutReduced (λ _ a. (a.0.now, a.1.0, held a.1.1.0.now)) (λ _ r s. held s.1.1.0.now)
put_reduced_determined = same (λ x. put (reduce_reply (reduce_of x.0 x.1 room room marks)) x.2.out x.2.answer) (λ _ a r s p. p.0)

pub put_numbered_determined : Determined (List ℤ × Placed) Placed PutNumbered (λ _ a. (a.0.now, held a.1.0.now)) (λ _ r s. held s.1.0.now)
put_numbered_determined = same (λ x. put (numbers_reply (numbered_of x.0 number_room)) x.1.out x.1.answer) (λ _ a r s p. p.0)

pub answer_determined : Determined (List ℕ × Placed) Placed Answer (λ _ a. (a.0.now, held a.1.0.now)) (λ _ r s. held s.1.0.now)
answer_determined = same (λ x. put (answer_to x.0) x.1.out x.1.answer) (λ _ a r s p. p.0)

-- ---- "Frames both ways hold at most 16,384 bytes": an answer has at most 32,768 digits.

pub walk_short : (chart : Chart) (pixels : List ℕ) (start : PointI32) (cw : Bool) → length (walk_reply (walked chart pixels start cw room)) ≤ 32768
walk_short chart pixels start cw =
    let o = walked chart pixels start cw room in
    points_short 1 (number_of o.answer) (count_of o.answer * 2) o.out (walk_counts chart pixels start cw)

pub simplified_short : (list : List ℤ) (cw : Bool) → length (simplify_reply (simplify_of list cw room)) ≤ 32768
simplified_short list cw =
    let o = simplify_of list cw room in
    points_short 2 (number_of o.answer) (count_of o.answer * 2) o.out (simplify_counts list cw)

pub reduced_short : (list : List ℤ) (tolerance : Float) → length (reduce_reply (reduce_of list tolerance room room marks)) ≤ 32768
reduced_short list tolerance =
    let o = reduce_of list tolerance room room marks in
    points_short 3 (number_of o.answer) (count_of o.answer * 2) o.out.0 (reduce_counts list tolerance)

pub numbered_short : (list : List ℤ) → length (numbers_reply (numbered_of list number_room)) ≤ 32768
numbered_short list =
    let o = numbered_of list number_room in
    numbers_short 4 (number_of o.answer) (count_of o.answer) o.out (numbers_counts list)

reply_short : (q : Request) → length (reply_to q) ≤ 32768
unfolding reply_to
reply_short (walk cw chart start pixels) = walk_short chart pixels start cw
reply_short (simplify cw list) = simplified_short list cw
reply_short (reduce t list) = reduced_short list (sixteenths t)
reply_short (numbers list) = numbered_short list
reply_short no_frame = omega arith

bytes_short : (b : Option (List ℕ)) → length (bytes_reply b) ≤ 32768
unfolding bytes_reply
bytes_short None = omega arith
bytes_short (Some bytes) = reply_short (request_in bytes)

pub answer_short : (line : List ℕ) → length (answer_to line) ≤ 32768
unfolding answer_to
answer_short line = bytes_short (bytes_of line)
