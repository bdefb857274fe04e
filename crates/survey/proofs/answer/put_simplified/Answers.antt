-- One line and behind it the other, for which there is room. Assumes nothing.
use Rattle.std.proofs.Common.{rules, ◌≡◌, ap, ◌∙◌, ℕ, ◌+◌, ◌*◌, ◌≤◌, true, List, length, ℤ, take, arith}
use Rattle.std.specs.Prelude.{Result}
use Rattle.std.specs.Result.{result_unwrap_or}
use Rattle.point.specs.Outcomes.{Points}
use Rattle.point.specs.Refusals.{number_of}
use Rattle.point.specs.declared.refusal.Refusal.{Refusal}
use Rattle.simplify.specs.Simplify.{simplify_of}
use Rattle.reduce.specs.Numbers.{numbered_of}
use Rattle.texts.specs.Put.{put}
use Rattle.texts.proofs.Pieces.{put_then}
use Rattle.lines.specs.Turns.{line}
use Rattle.frames.specs.Replies.{points_text}
use Rattle.frames.specs.Room.{room, number_room}
use Rattle.frames.specs.Calls.{simplify_reply, numbers_reply}
use Rattle.frames.proofs.Room.{simplify_counts}
use Rattle.survey.specs.Survey.{kept, two_lines}
use Rattle.survey.proofs.Lines.{two_short, part_fits, part_within, part_is, kept_is, first_put, rest_fits}
use Rattle.survey.proofs.answer.put_simplified.Goals as goal

-- both are those of the simplification
module _ (list : List ℤ) (a : Result ℕ Refusal) (values : List ℤ) (k : ℕ) (is : record { answer = a; out = values } ≡ simplify_of list true room) (count : k ≡ result_unwrap_or a 0) where
  abbrev simple : Points
  simple = simplify_of list true room

  both : (n at m r : ℕ) (out mid last : List ℕ) → n ≡ number_of a → at + 65538 ≤ length out →
      record { answer = m; out = mid } ≡ put (line (points_text 2 n (take (k * 2) values))) out at →
      record { answer = r; out = last } ≡ put (line (numbers_reply (numbered_of (take (k * 2) values) number_room))) mid m →
      record { answer = r; out = last } ≡ put (two_lines list) out at
  unfolding two_lines
  both n at m r out mid last number h e f =
      put_then (line (simplify_reply simple)) (line (numbers_reply (numbered_of (kept simple) number_room))) out mid last at m r (omega (arith, two_short list))
      (first_put a values simple k is count (simplify_counts list true) 2 n m number out mid at e)
      (f ∙ ap (λ (vs : List ℤ). put (line (numbers_reply (numbered_of vs number_room))) mid m) (kept_is a values simple k is count (simplify_counts list true)))

pub overflow_mul-kept : goal.overflow_mul-kept
overflow_mul-kept c = part_fits _ _ _ _ c.simplify-answer.ensures c.unwrap_or.ensures (simplify_counts _ true)

pub slice_bounds-kept-end : goal.slice_bounds-kept-end
slice_bounds-kept-end c = part_within _ _ _ _ c.simplify-answer.ensures c.unwrap_or.ensures (simplify_counts _ true) c.simplify-answer.auto.out

pub slice_bounds-points-end : goal.slice_bounds-points-end
slice_bounds-points-end c = part_is _ _ _ _ c.simplify-answer.ensures c.unwrap_or.ensures (simplify_counts _ true) c.simplify-answer.auto.out

pub put_numbers-requires : goal.put_numbers-requires
put_numbers-requires c =
    rest_fits _ _ _ _ c.simplify-answer.ensures c.unwrap_or.ensures (simplify_counts _ true) _ _ _ c.number.ensures _ _ _ c.put_points.ensures.put 32769 c.requires

pub returns-clause-put : goal.returns-clause-put
returns-clause-put c =
    both _ _ _ _ c.simplify-answer.ensures c.unwrap_or.ensures _ _ _ _ _ _ _ c.number.ensures c.requires c.put_points.ensures.put c.put_numbers.ensures.put
