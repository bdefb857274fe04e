-- A turn that is a line has room for its answer. Assumes nothing.
use Rattle.std.proofs.Common.{rules, ◌≡◌, refl, sym, ap, ◌∙◌, ℕ, ◌-◌, List, take, drop, arith}
use Rattle.texts.specs.Put.{Placed, put}
use Rattle.lines.specs.Turns.{Next, answered_state, line, next_turn, stepped, step_of}
use Rattle.lines.specs.declared.turns.State.{State}
use Rattle.lines.specs.declared.turns.Turn.{Turn}
use Rattle.lines.specs.declared.turns.Turn.TheVariants.{Line, Write, Read, End}
use Rattle.lines.proofs.Claims.{line_starts, line_ends_lem, line_has_room}
use Rattle.frames.specs.Answer.{answer_to}
use Rattle.sandline.proofs.step.step.Goals as goal

module _ (s : State) (most : ℕ) (input in' output : List ℕ) (t : Turn) (e : record { answer = t; out = in' } ≡ next_turn s most input) where
  of_turn : stepped answer_to t in' output ≡ step_of answer_to s most input output
  unfolding step_of
  of_turn = ap (λ (n : Next). stepped answer_to n.answer n.out output) e

  answered : (from to : ℕ) (next q : State) (r : ℕ) (last : List ℕ) → t ≡ Line from to next →
      record { answer = r; out = last } ≡ put (line (answer_to (take (to - from) (drop from in')))) output next.waiting → q ≡ answered_state next r →
      record { answer = Line from to q; out = (in', last) } ≡ step_of answer_to s most input output
  answered from to next q r last k p a =
      rw a (ap (λ (o : Placed). record { answer = Line from to (answered_state next o.answer); out = (in', o.out) }) p)
      ∙ ap (λ (u : Turn). stepped answer_to u in' output) (sym k)
      ∙ of_turn

  -- of another turn nothing is put
  unanswered : ((from to : ℕ) (next : State) → t ≡ Line from to next → ⊥) → record { answer = t; out = (in', output) } ≡ step_of answer_to s most input output
  unanswered other = no_line t other ∙ of_turn
    where
      no_line : (u : Turn) → ((from to : ℕ) (next : State) → u ≡ Line from to next → ⊥) → record { answer = u; out = (in', output) } ≡ stepped answer_to u in' output
      no_line (Line from to next) h = absurd (h from to next refl)
      no_line (Write bytes next) h = refl
      no_line (Read at next) h = refl
      no_line End h = refl

pub slice_bounds-put_line-count : goal.slice_bounds-put_line-count
slice_bounds-put_line-count c = search (line_starts, rules)

pub slice_bounds-put_line-start : goal.slice_bounds-put_line-start
slice_bounds-put_line-start c = search (line_starts, rules)

pub slice_bounds-put_line-end : goal.slice_bounds-put_line-end
slice_bounds-put_line-end c = search (line_ends_lem, rules)

pub put_line-requires : goal.put_line-requires
put_line-requires c = omega (arith, c.requires, line_has_room _ _ _ _ _ _ c.next-turn.ensures c.next-turn.auto.input _ _ c.in-Line.is)

pub returns-in-Line : goal.returns-in-Line
returns-in-Line c =
    let kept = c.output-1.given.1.1 (sym c.put_line.ensures.same) in
    let there = ap (λ (l : List ℕ). record { answer = c.put_line.new.pen.at; out = l }) kept ∙ c.put_line.ensures.put in
    answered _ _ _ _ _ _ c.next-turn.ensures _ _ _ _ _ _ c.in-Line.is there c.answered.ensures

pub returns : goal.returns
returns c = unanswered _ _ _ _ _ _ c.next-turn.ensures c.in_default.not-Line
