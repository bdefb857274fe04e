-- A line of points with the refusal's number and none. Assumes nothing.
use Rattle.std.proofs.Common.{◌≡◌, ℕ, List, [], sym, ap, ◌∙◌}
use Rattle.texts.specs.Put.{Placed, put}
use Rattle.lines.specs.Turns.{line}
use Rattle.frames.specs.Replies.{points_text}
use Rattle.survey.specs.Survey.{refused_line}
use Rattle.survey.proofs.answer.put_refusal.Goals as goal

of_number : (n m r : ℕ) (out mid last : List ℕ) → n ≡ m → record { answer = r; out = mid } ≡ put (line (points_text 0 n [])) out 0 → mid ≡ last →
    record { answer = r; out = last } ≡ put (refused_line m) out 0
of_number n m r out mid last number e same =
    rw (← same) (e ∙ ap (λ (k : ℕ). put (refused_line k) out 0) number)

pub returns : goal.returns
returns c = of_number _ _ _ _ _ _ c.number.ensures c.put_points.ensures.put (sym (c.output-1.given.1.1 (sym c.put_points.ensures.same)))
