-- Document 01, "Frames": what each call is answered as a line, of its kind.
use Rattle.std.specs.Prelude.{List, Float, ℤ, take, ℕ, Result}
use Rattle.laws.specs.Outcome.{Outcome}
use Rattle.point.specs.Refusals.{number_of, count_of}
use Rattle.point.specs.Outcomes.{Points}
use Rattle.point.specs.declared.refusal.Refusal.{Refusal}
use Rattle.frames.specs.Replies.{counted_text, numbers_text}

abbrev pub walk_reply : Points → List ℕ
walk_reply o = counted_text 1 (number_of o.answer) (count_of o.answer) o.out

abbrev pub simplify_reply : Points → List ℕ
simplify_reply o = counted_text 2 (number_of o.answer) (count_of o.answer) o.out

abbrev pub reduce_reply : Outcome (Result ℕ Refusal) (List ℤ × List ℤ × List ℕ) → List ℕ
reduce_reply o = counted_text 3 (number_of o.answer) (count_of o.answer) o.out.0

abbrev pub numbers_reply : Outcome (Result ℕ Refusal) (List Float) → List ℕ
numbers_reply o = numbers_text 4 (number_of o.answer) (take (count_of o.answer) o.out)
