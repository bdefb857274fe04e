-- The outline's line and behind it the other two, for which there is room. Assumes nothing.
use Rattle.std.proofs.Common.{rules, ◌≡◌, sym, ap, ◌∙◌, ℕ, ◌+◌, ◌*◌, ◌≤◌, List, length, ℤ, take, arith}
use Rattle.std.specs.Prelude.{Result}
use Rattle.std.specs.Result.{result_unwrap_or}
use Rattle.point.specs.Outcomes.{Points}
use Rattle.point.specs.Refusals.{number_of}
use Rattle.point.specs.declared.refusal.Refusal.{Refusal}
use Rattle.chart.specs.declared.Chart.{Chart}
use Rattle.texts.specs.Put.{put}
use Rattle.texts.proofs.Pieces.{put_then}
use Rattle.lines.specs.Turns.{line}
use Rattle.frames.specs.Replies.{points_text}
use Rattle.frames.specs.Room.{room}
use Rattle.frames.specs.Calls.{walk_reply}
use Rattle.survey.specs.Survey.{outline_of, kept, two_lines, three_lines}
use Rattle.survey.proofs.Lines.{outline_counts, three_short, part_fits, part_within, part_is, kept_is, first_put, rest_fits}
use Rattle.survey.proofs.answer.put_lines.Goals as goal

-- they are those of the outline
module _ (c : Chart) (pixels : List ℕ) (a : Result ℕ Refusal) (values : List ℤ) (k : ℕ) (is : record { answer = a; out = values } ≡ outline_of c pixels room) (count : k ≡ result_unwrap_or a 0) where
  abbrev outline : Points
  outline = outline_of c pixels room

  three : (n m r : ℕ) (out mid end last : List ℕ) → n ≡ number_of a → 98307 ≤ length out →
      record { answer = m; out = mid } ≡ put (line (points_text 1 n (take (k * 2) values))) out 0 →
      record { answer = r; out = end } ≡ put (two_lines (take (k * 2) values)) mid m → end ≡ last →
      record { answer = r; out = last } ≡ put (three_lines c pixels) out 0
  unfolding three_lines
  three n m r out mid end last number h e f same =
      rw (← same)
      (put_then (line (walk_reply outline)) (two_lines (kept outline)) out mid end 0 m r (omega (arith, three_short c pixels))
      (first_put a values outline k is count (outline_counts c pixels) 1 n m number out mid 0 e)
      (f ∙ ap (λ (vs : List ℤ). put (two_lines vs) mid m) (kept_is a values outline k is count (outline_counts c pixels))))

pub overflow_mul-points : goal.overflow_mul-points
overflow_mul-points c = part_fits _ _ _ _ c.outline-answer.ensures c.unwrap_or.ensures (outline_counts _ _)

pub slice_bounds-points-end : goal.slice_bounds-points-end
slice_bounds-points-end c = part_within _ _ _ _ c.outline-answer.ensures c.unwrap_or.ensures (outline_counts _ _) c.outline-answer.auto.out

pub slice_bounds-list-end : goal.slice_bounds-list-end
slice_bounds-list-end c = part_is _ _ _ _ c.outline-answer.ensures c.unwrap_or.ensures (outline_counts _ _) c.outline-answer.auto.out

pub put_simplified-requires : goal.put_simplified-requires
put_simplified-requires c =
    rest_fits _ _ _ _ c.outline-answer.ensures c.unwrap_or.ensures (outline_counts _ _) _ _ _ c.number.ensures _ _ _ c.put_points.ensures.put 65538 c.requires

pub returns : goal.returns
returns c =
    three _ _ _ _ _ c.outline-answer.ensures c.unwrap_or.ensures _ _ _ _ _ _ _ c.number.ensures c.requires c.put_points.ensures.put c.put_simplified.ensures.put
    (sym (c.output-1.given.1.1 (sym (c.put_simplified.ensures.same ∙ c.put_points.ensures.same))))
