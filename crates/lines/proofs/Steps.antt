-- What a turn of a program that answers lines shows, and what holds behind it. Assumes nothing.
use Prim.Native.Nat.{ℕ, suc, ◌+◌, ◌-◌, ◌≤◌, ◌<◌}
use mathlib.Core.Bool.{Bool, true, false}
use mathlib.Core.List.{List, [], ◌∷◌, ◌++◌, append_assoc, append-nil}
use mathlib.Core.Path.{◌≡◌, refl, sym, ap, ◌∙◌}
use native.Mathlib.Omega.{arith}
use lib.Dec.{ltb}
use lib.ListN.{length, take, drop, length-append}
use borrow.Author.Tests.{ltb-true, ltb-false}
use Rattle.laws.proofs.If.{if_cases}
use Rattle.laws.specs.Outcome.{Outcome}
use Rattle.lines.specs.Reader.{taken}
use Rattle.lines.specs.Turns.{Next, Step, line, turn_of, next_turn, stepped, step_of}
use Rattle.lines.specs.Runs.{Machine, lines_of, whole_lines, answers_to, done, step_in}
use Rattle.lines.specs.declared.reader.Reader.{Reader}
use Rattle.lines.specs.declared.reader.Taken.{Taken}
use Rattle.lines.specs.declared.turns.Turn.{Turn}
use Rattle.lines.specs.declared.turns.Turn.TheVariants.{Line, Write, Read, End}
use Rattle.lines.proofs.TurnsLeft.{to_drop, two_back}
use Rattle.lines.proofs.Newlines.{free_append}
use Rattle.lines.proofs.Phases as Phases
use Rattle.lines.proofs.Held.{Took, found, last, none_left, dropped, kept, takes}
use Rattle.lines.proofs.Moves.{Between, Falls, wrote, replied, read_more}

module _ (answer : List ℕ → List ℕ) (most : ℕ) (sizes : ℕ → ℕ) (input output text : List ℕ) (some : 0 < length input)
    (small : length input ≤ 18446744073709551615) (room : (l : List ℕ) → most + length (line (answer l)) ≤ length output) where
  -- ---- a turn: what it shows, and what holds behind it

  module _ (turns : ℕ) (m : Machine) where
    abbrev On : Machine → Type 0
    On m' = Falls answer most sizes input output text turns m'

    -- each turn but the end leads on; before a read, and at the end, all is answered
    abbrev pub Met : Turn → Machine → Type 0
    Met (Line from to next) m' = On m'
    Met (Write bytes next) m' = On m'
    Met (Read at next) m' = On m' × ((got : List ℕ) → text ≡ got ++ m.text → m.written ≡ answers_to answer (length input) (whole_lines got))
    Met End m' = (m' ≡ m) × (m.written ≡ answers_to answer (length input) (lines_of text))

    abbrev Says : Step → Type 0
    Says s =
        Met s.answer
        (done answer most sizes s.answer
        (record { state = m.state; input = s.out.0; output = s.out.1; written = m.written; text = m.text; reads = m.reads }))

    -- the reader is another, and the input's buffer
    abbrev with_reader : Reader → List ℕ → Machine
    with_reader r b =
        record {
          state = record { reader = r; waiting = m.state.waiting };
          input = b;
          output = m.output;
          written = m.written;
          text = m.text;
          reads = m.reads;
        }

    -- more is to be read: what waits is written, or all is answered
    to_read : (c b : List ℕ) (over long : Bool) (at : ℕ) (r : Reader) → Between answer most sizes input output text c [] over long turns (with_reader r b) →
        over ≡ false → r.start ≡ 0 → at ≡ length c → at < length input →
        Says (stepped answer (turn_of m.state (Taken.More at r)) b m.output)
    to_read c b over long at r k o z there fits =
        if_cases (λ (t : Turn). Says (stepped answer t b m.output)) (ltb 0 m.state.waiting) _ _
        (λ t. wrote answer most sizes input output text turns (with_reader r b) c [] over long k (ltb-true 0 m.state.waiting t))
        (λ t. let idle : m.state.waiting ≡ 0 = omega (arith, ltb-false 0 m.state.waiting t) in
        let out : m.written ++ take m.state.waiting m.output ≡ m.written = rw (idle, append-nil m.written) in (
          read_more answer most sizes input output text turns (with_reader r b) c over long at k o z there fits idle small,
          λ got e. sym out ∙ Phases.all_read answer (length input) text over long (c ++ []) m.text (m.written ++ take m.state.waiting m.output) got o e
              (free_append c [] k.free tt) k.phase,
        ))

    module _ (c u : List ℕ) (over long : Bool) (b : Between answer most sizes input output text c u over long turns m) where
      abbrev out : List ℕ
      out = m.written ++ take m.state.waiting m.output

      -- the turn that follows of what the reader takes
      of_took : (o : Outcome Taken (List ℕ)) → m.state.waiting ≤ most → Took m.input c u over long o → Says (stepped answer (turn_of m.state o.answer) o.out m.output)
      of_took o h (found l rest from to next e f short is k) =
          let whole : c ++ u ≡ c ++ l ++ 10 ∷ rest = rw (e, append_assoc c l (10 ∷ rest)) in
          let sum : length (c ++ u) ≡ length (c ++ l) + suc (length rest) = ap length whole ∙ length-append (c ++ l) (10 ∷ rest) in
          replied answer most sizes input output text turns m c u over long b (take (to - from) (drop from m.input)) rest next
          (omega (arith, room (take (to - from) (drop from m.input)))) k (omega (arith, sum)) (omega (arith, sum))
          (rw is (Phases.line_answered answer (length input) text over long (c ++ u) (c ++ l) rest m.text out whole (free_append c l b.free f) (omega (arith, b.in_size)) b.phase))
      of_took o h (last from to next p f more is k) =
          replied answer most sizes input output text turns m c u over long b (take (to - from) (drop from m.input)) [] next
          (omega (arith, room (take (to - from) (drop from m.input)))) k (omega (arith, two_back long (length (c ++ u)) more)) (omega arith)
          (rw is (Phases.last_answered answer (length input) text over long (c ++ u) m.text out p (b.all_read p).0 (free_append c u b.free f) more (b.all_read p).1 b.phase))
      of_took o h (none_left p g none) =
          if_cases (λ (t : Turn). Says (stepped answer t m.input m.output)) (ltb 0 m.state.waiting) _ _
          (λ t. wrote answer most sizes input output text turns m c u over long b (ltb-true 0 m.state.waiting t))
          (λ t. let idle : m.state.waiting ≡ 0 = omega (arith, ltb-false 0 m.state.waiting t) in
          let all : out ≡ m.written = rw (idle, append-nil m.written) in (
            refl,
            sym all ∙ Phases.all_answered answer (length input) text over long (c ++ u) m.text out g none (b.all_read p).0 b.phase,
          ))
      of_took o h (dropped next p f full z k) =
          to_read [] m.input over true 0 next
          (record {
            holds = k;
            free = tt;
            in_size = b.in_size;
            out_size = b.out_size;
            waits = b.waits;
            all_read = λ q. ((b.all_read q).0, some);
            phase = Phases.dropped answer (length input) text over long (c ++ u) m.text out p (free_append c u b.free f) (λ q. full q ∙ b.in_size) b.phase;
            nearer = omega (arith, b.nearer, two_back long (length (c ++ u)) (λ q. omega (arith, full q, b.in_size)));
          })
          p z refl some
      of_took o h (kept at next b' p g f there less same z k) =
          let held : c ++ u ++ [] ≡ c ++ u = append-nil (c ++ u) in
          to_read (c ++ u) b' over false at next
          (record {
            holds = k;
            free = free_append c u b.free f;
            in_size = same ∙ b.in_size;
            out_size = b.out_size;
            waits = b.waits;
            all_read = rw held b.all_read;
            phase = rw (held, ← g) b.phase;
            nearer = omega (arith, b.nearer, ap to_drop g, ap length held);
          })
          p z there (omega (arith, b.in_size))

      pub says : Says (step_in answer most sizes m)
      unfolding step_of next_turn
      says =
          if_cases (λ (n : Next). Says (stepped answer n.answer n.out m.output)) (ltb most m.state.waiting) _ _
          (λ t. wrote answer most sizes input output text turns m c u over long b (omega (arith, ltb-true most m.state.waiting t)))
          (λ t. of_took (taken m.state.reader m.input) (ltb-false most m.state.waiting t) (takes m.state.reader m.input c u over long b.holds))
