-- What `reduce` answers, and what the three buffers lent to it then hold. A list is laid `over` the start of a buffer: "places past the answer
-- hold theirs".
use Rattle.std.specs.Prelude.{ℕ, ◌*◌, true, false, ◌||◌, List, ltb, leb, ℤ, pos, Float, length, Result, Ok}
use Rattle.std.proofs.Math.Option.{Option, none}
use Rattle.std.specs.Float.{binary64}
use Rattle.std.specs.Float.Ieee.{of_int, of_bits, mul, eq}
use Rattle.laws.specs.Lists.{over}
use Rattle.laws.specs.Outcome.{Outcome}
use Rattle.point.specs.Limits.{too_many, bad_points, bad_tolerance}
use Rattle.point.specs.Outcomes.{outcome}
use Rattle.point.specs.Points.{flat, points, count}
use Rattle.point.specs.Refusals.{refuse◌when◌or◌}
use Rattle.point.specs.declared.refusal.Refusal.{Refusal}
use Rattle.point.specs.declared.refusal.Refusal.TheVariants.{TooMany, BadPoint, BadTolerance, NoRoom}
use Rattle.split.specs.Tree.{marks_of}
use Rattle.reduce.specs.DouglasPeucker.{kept_and_marked}
use Rattle.reduce.specs.Kept.{kept, short_for}
use Rattle.reduce.specs.Radial.{radial}

-- "The lowest that applies is given"; "`reduce` also needs n points of scratch; it and Douglas-Peucker need n mark bytes"
abbrev pub reduce_refusal : List ℤ → Float → List ℤ → List ℤ → List ℕ → Option Refusal
reduce_refusal list tolerance out scratch marks =
    refuse TooMany when too_many (length list) or
    refuse BadPoint when bad_points list or
    refuse BadTolerance when bad_tolerance tolerance or
    refuse NoRoom when short_for (count list) out || ltb (length scratch) (count list * 2) || ltb (length marks) (count list) or
    none

-- "the input for up to 2 points or tolerance 0": it is answered whole, and nothing else is touched
abbrev pub answered_whole : List ℤ → List ℤ → List ℤ → List ℕ → Outcome (Result ℕ Refusal) (List ℤ × List ℤ × List ℕ)
answered_whole list out scratch marks = record { answer = Ok (count list); out = (over list out, scratch, marks) }

-- "else the radial list in scratch": at half the squared tolerance, and then split at the whole
abbrev pub answered_narrowed : List ℤ → Float → List ℤ → List ℤ → List ℕ → Outcome (Result ℕ Refusal) (List ℤ × List ℤ × List ℕ)
answered_narrowed list tolerance out scratch marks =
    let sq = mul binary64 tolerance tolerance in
    let ring = flat (radial (mul binary64 sq (of_bits binary64 0x3fe0000000000000)) (points list)) in
    let done = kept_and_marked ring sq out marks in
    record { answer = done.answer; out = (done.out.0, over ring scratch, done.out.1) }

-- one or the other
unfoldable pub reduction : List ℤ → Float → List ℤ → List ℤ → List ℕ → Outcome (Result ℕ Refusal) (List ℤ × List ℤ × List ℕ)
unfolding radial kept marks_of flat points over
reduction list tolerance out scratch marks = elim (leb (count list) 2 || eq tolerance (of_int binary64 (pos 0))) [
  | true ↦ answered_whole list out scratch marks
  | false ↦ answered_narrowed list tolerance out scratch marks
]

unfoldable pub reduce_of : List ℤ → Float → List ℤ → List ℤ → List ℕ → Outcome (Result ℕ Refusal) (List ℤ × List ℤ × List ℕ)
unfolding outcome reduction
reduce_of list tolerance out scratch marks =
    outcome (reduce_refusal list tolerance out scratch marks) (out, scratch, marks) (reduction list tolerance out scratch marks)
