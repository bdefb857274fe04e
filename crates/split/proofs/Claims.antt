-- What follows of the contracts, for their readers and their callers. Assumes nothing.
use Prim.Native.Nat.{ℕ, ◌≤◌, ◌<◌}
use mathlib.Core.Bool.{false}
use mathlib.Core.List.{List}
use mathlib.Core.Path.{◌≡◌}
use native.Mathlib.Omega.{arith}
use lib.IntN.{ℤ}
use lib.Ieee.{Float, inf}
use lib.ListN.{length}
use Rattle.laws.specs.Lists.{over}
use Rattle.laws.specs.Outcome.{Outcome}
use Rattle.laws.proofs.Determined.{Determined, same}
use Rattle.point.specs.Points.{count}
use Rattle.split.specs.Buffers.{laid_marks, laid_numbers}
use Rattle.split.specs.Tree.{cut, down, marks_of, numbers_of}
use Rattle.split.specs.Visits.{counted_marks, counted_numbers}
use Rattle.split.proofs.Buffers.{laid_over}
use Rattle.split.proofs.Cuts.{length_cut, length_down}
use Rattle.split.proofs.Framed.{framed_length}
use Rattle.split.proofs.marks.mark.Reads.{Post as Mark}
use Rattle.split.proofs.numbers.number.Reads.{Post as Number}
use Rattle.split.proofs.waiting.mark_waiting.Reads.{Post as MarkWaiting}
use Rattle.split.proofs.waiting.number_waiting.Reads.{Post as NumberWaiting}

-- ---- each contract leaves no choice: of equal arguments it allows one last content of the buffer. `Post` is the contract itself, as Rattle
-- reads it off the source, at arguments `a`, a result `r` and parameters at exit `s`.

pub mark_determined : Determined (List ℤ × Float × List ℕ) (List ℕ) Mark (λ _ a. (a.0.now, a.1.0, a.1.1.0.now)) (λ _ r s. s.1.1.0.now)
mark_determined = same (λ x. laid_marks x.0 x.1 x.2) (λ _ a r s p. p)

pub number_determined : Determined (List ℤ × List Float) (List Float) Number (λ _ a. (a.0.now, a.1.0.now)) (λ _ r s. s.1.0.now)
number_determined = same (λ x. laid_numbers x.0 x.1) (λ _ a r s p. p)

pub mark_waiting_determined : Determined (List ℤ × Float × List ℕ) (Outcome ℕ (List ℕ)) MarkWaiting
    (λ _ a. (a.0.now, a.1.0, a.1.1.0.now))
    (λ _ r s. record { answer = r; out = s.1.1.0.now })
mark_waiting_determined = same (λ x. counted_marks x.0 x.1 x.2) (λ _ a r s p. p)

pub number_waiting_determined : Determined (List ℤ × List Float) (Outcome ℕ (List Float)) NumberWaiting
    (λ _ a. (a.0.now, a.1.0.now))
    (λ _ r s. record { answer = r; out = s.1.0.now })
number_waiting_determined = same (λ x. counted_numbers x.0 x.1) (λ _ a r s p. p)

-- ---- a mark and a number for each point

pub a_mark_for_each_point : (points : List ℤ) (t : Float) → 0 < count points → length (marks_of t points) ≡ count points
unfolding marks_of
a_mark_for_each_point points t h = framed_length points 1 (cut t) (length_cut t) h

pub a_number_for_each_point : (points : List ℤ) → 0 < count points → length (numbers_of points) ≡ count points
unfolding numbers_of
a_number_for_each_point points h = framed_length points (inf false) (down (inf false)) (length_down (inf false)) h

-- ---- where they stand: at the start of the buffer if there is a point, and room; the rest is old

pub marks_over : (points : List ℤ) (t : Float) (marks : List ℕ) → 0 < count points → count points ≤ length marks → laid_marks points t marks ≡ over (marks_of t points) marks
unfolding laid_marks
marks_over points t marks some room = laid_over points (marks_of t points) marks (λ z. omega arith) room

pub numbers_over : (points : List ℤ) (out : List Float) → 0 < count points → count points ≤ length out → laid_numbers points out ≡ over (numbers_of points) out
unfolding laid_numbers
numbers_over points out some room = laid_over points (numbers_of points) out (λ z. omega arith) room
