-- What follows of the contracts, for their readers and their callers. Assumes nothing.
use Prim.Native.Nat.{ℕ, ◌+◌, ◌-◌, ◌≤◌, zero-le}
use mathlib.Core.Bool.{◌||◌}
use mathlib.Core.List.{List}
use mathlib.Core.Path.{◌≡◌, refl, sym, ap, subst, ◌∙◌}
use native.Mathlib.Omega.{arith}
use lib.Dec.{ltb, eqb}
use lib.ListN.{length, take, drop}
use borrow.Author.Tests.{ltb-true, ltb-false}
use Rattle.texts.proofs.Claims.{next_within}
use Rattle.laws.proofs.Determined.{Determined, same}
use Rattle.laws.proofs.If.{if_cases}
use Rattle.laws.specs.Outcome.{Outcome}
use Rattle.lines.specs.Reader.{in_order, newline, line_ends, input_ends, count, refill, took, taken}
use Rattle.lines.specs.Turns.{Next, Step, begun, fed_state, answered_state, turn_of, next_turn, line, stepped, step_of}
use Rattle.lines.specs.declared.reader.Reader.{Reader}
use Rattle.lines.specs.declared.reader.Taken.{Taken}
use Rattle.lines.specs.declared.reader.Taken.TheVariants.{Line, More, End}
use Rattle.lines.specs.declared.turns.State.{State}
use Rattle.lines.specs.declared.turns.Turn.{Turn}
use Rattle.lines.proofs.turns.begin.Reads.{Post as Begin}
use Rattle.lines.proofs.turns.fed.Reads.{Post as Fed}
use Rattle.lines.proofs.turns.answered.Reads.{Post as Answered}
use Rattle.lines.proofs.turns.next.Reads.{Post as NextTurn}

-- Each contract leaves no choice: of equal arguments it allows one result, and one last content of the buffer. `Post` is the contract itself, as
-- Rattle reads it off the source.

pub begin_determined : Determined (Unit {0}) State Begin (λ _ a. tt) (λ _ r s. r)
begin_determined = same (λ _. begun) (λ _ a r s p. p)

pub fed_determined : Determined (State × ℕ) State Fed (λ _ a. (a.0, a.1.0)) (λ _ r s. r)
fed_determined = same (λ x. fed_state x.0 x.1) (λ _ a r s p. p)

pub answered_determined : Determined (State × ℕ) State Answered (λ _ a. (a.0, a.1.0)) (λ _ r s. r)
answered_determined = same (λ x. answered_state x.0 x.1) (λ _ a r s p. p)

pub next_determined : Determined (State × ℕ × List ℕ) Next NextTurn (λ _ a. (a.0, a.1.0, a.1.1.0.now)) (λ _ r s. record { answer = r; out = s.1.1.0.now })
next_determined = same (λ x. next_turn x.0 x.1 x.2) (λ _ a r s p. p)

-- A line that is handed out lies in the buffer, and so does the place to read into.
abbrev pub Within : Taken → ℕ → Type 0
Within (Line from to next) n = (from ≤ to) × (to ≤ n)
Within (More at next) n = at ≤ n
Within End n = Unit {0}

line_within : (h : Reader) (to next n : ℕ) → h.start ≤ to → to ≤ n → Within (line_ends h to next) n
line_within h to next n s t = if_cases (λ (k : Taken). Within k n) h.long _ _ (λ l. (omega arith, t)) (λ l. (s, t))

last_within : (h : Reader) (n : ℕ) → h.start ≤ h.end → h.end ≤ n → Within (input_ends h) n
last_within h n s e =
    if_cases (λ (k : Taken). Within k n) (h.long || ltb h.start h.end) _ _
    (λ l. line_within h h.end h.end n s e) (λ l. tt)

refill_within : (h : Reader) (b : List ℕ) → h.end ≤ length b → Within (refill h b).answer (length b)
unfolding refill
refill_within h b e =
    if_cases (λ (o : Outcome Taken (List ℕ)). Within o.answer (length b)) (h.long || eqb (count h) (length b)) _ _
    (λ l. zero-le) (λ l. omega arith)

took_within : (h : Reader) (b : List ℕ) → h.start ≤ h.seen → h.start ≤ h.end → h.end ≤ length b → Within (took h b).answer (length b)
unfolding took
took_within h b s t e =
    if_cases (λ (o : Outcome Taken (List ℕ)). Within o.answer (length b)) (ltb (newline h b) h.end) _ _
    (λ l. line_within h (newline h b) (newline h b + 1) (length b) (omega arith) (omega (arith, ltb-true (newline h b) h.end l)))
    (λ l. if_cases (λ (o : Outcome Taken (List ℕ)). Within o.answer (length b)) h.over _ _
    (λ o. last_within h (length b) t e) (λ o. refill_within h b e))

pub within : (r : Reader) (b : List ℕ) → Within (taken r b).answer (length b)
unfolding taken
within r b = took_within (in_order r (length b)) b (omega arith) (omega arith) (omega arith)

-- What a turn asks for lies in its buffer: the places of the input's `n` bytes, and of the output no more than what waits there. A line is
-- answered where no more than `most` bytes wait.
abbrev pub InPlace : Turn → ℕ → ℕ → ℕ → Type 0
InPlace (Turn.Line from to next) n most waiting = (from ≤ to) × (to ≤ n) × (next.waiting ≤ most) × (next.waiting ≡ waiting)
InPlace (Turn.Write bytes next) n most waiting = (bytes ≡ waiting) × (next.waiting ≡ 0)
InPlace (Turn.Read at next) n most waiting = (at ≤ n) × (next.waiting ≡ 0)
InPlace Turn.End n most waiting = Unit {0}

module _ (s : State) (most : ℕ) where
  of_taken : (t : Taken) (n : ℕ) → s.waiting ≤ most → Within t n → InPlace (turn_of s t) n most s.waiting
  of_taken (Line from to r) n h w = (w.0, w.1, h, refl)
  of_taken (More at r) n h w = if_cases (λ (t : Turn). InPlace t n most s.waiting) (ltb 0 s.waiting) _ _ (λ l. (refl, refl)) (λ l. (w, refl))
  of_taken End n h w = if_cases (λ (t : Turn). InPlace t n most s.waiting) (ltb 0 s.waiting) _ _ (λ l. (refl, refl)) (λ l. tt)

  pub in_place : (b : List ℕ) → InPlace (next_turn s most b).answer (length b) most s.waiting
  unfolding next_turn
  in_place b =
      if_cases (λ (o : Next). InPlace o.answer (length b) most s.waiting) (ltb most s.waiting) _ _ (λ l. (refl, refl))
      (λ l. of_taken (taken s.reader b).answer (length b) (ltb-false most s.waiting l) (within s.reader b))

-- As a caller of `next` has it at hand: of the turn `t` and the buffer's last content.
module _ (s : State) (most : ℕ) (b last : List ℕ) (t : Turn) (next : State) (e : record { answer = t; out = last } ≡ next_turn s most b) (kept : length last ≡ length b) where
  asked : (u : Turn) → t ≡ u → InPlace u (length last) most s.waiting
  asked u k = rw kept (subst (λ (v : Turn). InPlace v (length b) most s.waiting) (sym (ap (λ (o : Next). o.answer) e) ∙ k) (in_place s most b))

  pub line_starts : (from to : ℕ) → t ≡ Turn.Line from to next → from ≤ to
  line_starts from to k = (asked (Turn.Line from to next) k).0

  pub line_ends_lem : (from to : ℕ) → t ≡ Turn.Line from to next → to ≤ length last
  line_ends_lem from to k = (asked (Turn.Line from to next) k).1

  pub line_has_room : (from to : ℕ) → t ≡ Turn.Line from to next → next.waiting ≤ most
  line_has_room from to k = (asked (Turn.Line from to next) k).2

  pub read_starts : (at : ℕ) → t ≡ Turn.Read at next → at ≤ length last
  read_starts at k = (asked (Turn.Read at next) k).0

-- ---- a program's step

-- What a step asks for lies in its buffers, of `n` and `m` bytes, and so does what waits behind it.
abbrev pub Asks : Turn → ℕ → ℕ → Type 0
Asks (Turn.Line from to next) n m = next.waiting ≤ m
Asks (Turn.Write bytes next) n m = (bytes ≤ m) × (next.waiting ≤ m)
Asks (Turn.Read at next) n m = (at ≤ n) × (next.waiting ≤ m)
Asks Turn.End n m = Unit {0}

module _ (answer : List ℕ → List ℕ) (s : State) (most : ℕ) (input output : List ℕ) (fits : s.waiting ≤ length output) where
  of_turn : (t : Turn) (b : List ℕ) → InPlace t (length input) most s.waiting → Asks (stepped answer t b output).answer (length input) (length output)
  of_turn (Turn.Line from to next) b p = next_within (line (answer (take (to - from) (drop from b)))) output next.waiting (omega (arith, p.3))
  of_turn (Turn.Write bytes next) b p = (omega (arith, p.0), omega (arith, p.1))
  of_turn (Turn.Read at next) b p = (p.0, omega (arith, p.1))
  of_turn Turn.End b p = tt

  pub asks : Asks (step_of answer s most input output).answer (length input) (length output)
  unfolding step_of
  asks = of_turn (next_turn s most input).answer (next_turn s most input).out (in_place s most input)

  -- as a program has it at hand: of the turn `t` and the buffers' last contents
  module _ (t : Turn) (in' out' : List ℕ) (next : State) (e : record { answer = t; out = (in', out') } ≡ step_of answer s most input output)
      (in_kept : length in' ≡ length input) (out-kept : length out' ≡ length output) where
    of_step : (u : Turn) → t ≡ u → Asks u (length in') (length out')
    of_step u k = rw (in_kept, out-kept) (subst (λ (v : Turn). Asks v (length input) (length output)) (sym (ap (λ (o : Step). o.answer) e) ∙ k) asks)

    pub answer_waits : (from to : ℕ) → t ≡ Turn.Line from to next → next.waiting ≤ length out'
    answer_waits from to k = of_step (Turn.Line from to next) k

    pub write_fits : (bytes : ℕ) → t ≡ Turn.Write bytes next → bytes ≤ length out'
    write_fits bytes k = (of_step (Turn.Write bytes next) k).0

    pub write_waits : (bytes : ℕ) → t ≡ Turn.Write bytes next → next.waiting ≤ length out'
    write_waits bytes k = (of_step (Turn.Write bytes next) k).1

    pub read_fits : (at : ℕ) → t ≡ Turn.Read at next → at ≤ length in'
    read_fits at k = (of_step (Turn.Read at next) k).0

    pub read_waits : (at got : ℕ) (q : State) → q ≡ fed_state next got → t ≡ Turn.Read at next → q.waiting ≤ length out'
    read_waits at got q f k = rw f (of_step (Turn.Read at next) k).1
