-- What holds between two turns of a program that answers lines, and that a line, a write and a read keep it and bring the end nearer. Assumes
-- nothing.
use Prim.Native.Nat.{ℕ, zero, suc, ◌+◌, ◌*◌, ◌-◌, ◌≤◌, ◌<◌, min}
use mathlib.Core.Bool.{Bool, true, false}
use mathlib.Core.List.{List, [], ◌∷◌, ◌++◌, append_assoc, append-nil}
use mathlib.Core.Path.{◌≡◌, refl, ap}
use native.Mathlib.Omega.{arith}
use lib.Dec.{eqb}
use lib.ListN.{length, take, drop, length-append, length-take, length-drop}
use lib.Seq.{length-take-le, take_at}
use borrow.Author.Tests.{eqb-true}
use Rattle.std.proofs.lemmas.List.{nil_from_length}
use Rattle.texts.specs.Put.{put}
use Rattle.texts.proofs.Pieces.{put_fits}
use Rattle.lines.specs.Turns.{answered_state, line}
use Rattle.lines.specs.Runs.{Machine, came, done}
use Rattle.lines.specs.declared.reader.Reader.{Reader}
use Rattle.lines.specs.declared.turns.Turn.TheVariants.{Read}
use Rattle.lines.proofs.TurnsLeft.{to_read, to_drop, turns_to, last_read}
use Rattle.lines.proofs.Newlines.{Free}
use Rattle.lines.proofs.Phases as Phases
use Rattle.lines.proofs.Phases.{Phase}
use Rattle.lines.proofs.Held.{Holds, fed_holds}

-- what came, and what is left of it
rejoined : (k : ℕ) (l : List ℕ) → take k l ++ drop (length (take k l)) l ≡ l
rejoined zero l = refl
rejoined (suc k) [] = refl
rejoined (suc k) (x ∷ l) = ap (λ (r : List ℕ). x ∷ r) (rejoined k l)

module _ (answer : List ℕ → List ℕ) (most : ℕ) (sizes : ℕ → ℕ) (input output text : List ℕ) where
  -- the buffers keep their sizes; what is held is as its reader says; and so much is answered
  pub record Between (c u : List ℕ) (over long : Bool) (turns : ℕ) (m : Machine) : Type 0 where
    pub holds : Holds m.state.reader m.input c u over long
    pub free : Free c
    pub in_size : length m.input ≡ length input
    pub out_size : length m.output ≡ length output
    pub waits : m.state.waiting ≤ length output
    pub all_read : over ≡ true → (m.text ≡ []) × (length (c ++ u) < length input)
    pub phase : Phase answer (length input) text over long (c ++ u) m.text (m.written ++ take m.state.waiting m.output)
    pub nearer : turns_to over long (length (c ++ u)) (length m.text) m.state.waiting ≤ turns

  pub record Going (turns : ℕ) (m : Machine) : Type 0 where
    pub c : List ℕ
    pub u : List ℕ
    pub over : Bool
    pub long : Bool
    pub between : Between c u over long turns m

  -- it goes on, and less is to be done
  abbrev pub Falls : ℕ → Machine → Type 0
  Falls turns m = (n : ℕ) × (n < turns) × Going n m

  falls : (c u : List ℕ) (over long : Bool) (turns n : ℕ) (m : Machine) → n < turns → Between c u over long n m → Falls turns m
  falls c u over long turns n m h b = (n, h, record { c = c; u = u; over = over; long = long; between = b })

  module _ (turns : ℕ) (m : Machine) (c u : List ℕ) (over long : Bool) (b : Between c u over long turns m) where
    -- what waits is written
    pub wrote : 0 < m.state.waiting →
        Falls turns
        (record {
          state = record { reader = m.state.reader; waiting = 0 };
          input = m.input;
          output = m.output;
          written = m.written ++ take m.state.waiting m.output;
          text = m.text;
          reads = m.reads;
        })
    wrote h =
        falls c u over long turns (turns_to over long (length (c ++ u)) (length m.text) 0) _ (omega (arith, b.nearer))
        (record {
          holds = b.holds;
          free = b.free;
          in_size = b.in_size;
          out_size = b.out_size;
          waits = omega arith;
          all_read = b.all_read;
          phase = rw (append-nil (m.written ++ take m.state.waiting m.output)) b.phase;
          nearer = omega arith;
        })

    -- the answer to `bytes` is put behind what waits
    module _ (bytes rest : List ℕ) (next : Reader) (fits : m.state.waiting + length (line (answer bytes)) ≤ length output) where
      abbrev reply : List ℕ
      reply = line (answer bytes)

      abbrev put_there : List ℕ
      put_there = take m.state.waiting m.output ++ reply ++ drop (m.state.waiting + length reply) m.output

      there : put reply m.output m.state.waiting ≡ record { answer = m.state.waiting + length reply; out = put_there }
      there = put_fits reply m.output m.state.waiting (omega (arith, b.out_size))

      front : length (take m.state.waiting m.output ++ reply) ≡ m.state.waiting + length reply
      front =
          omega (arith, length-append (take m.state.waiting m.output) reply, length-take-le m.state.waiting m.output (omega (arith, b.waits, b.out_size)))

      now_waits : take (m.state.waiting + length reply) put_there ≡ take m.state.waiting m.output ++ reply
      now_waits =
          take_at (take m.state.waiting m.output ++ reply) (drop (m.state.waiting + length reply) m.output) (m.state.waiting + length reply) front

      same_size : length put_there ≡ length output
      same_size =
          omega (
            arith,
            length-append (take m.state.waiting m.output ++ reply) (drop (m.state.waiting + length reply) m.output),
            front,
            length-drop (m.state.waiting + length reply) m.output,
            b.out_size,
          )

      pub replied : Holds next m.input [] rest over false → 2 * length rest + 2 ≤ 2 * length (c ++ u) + to_drop long → length rest ≤ length (c ++ u) →
          Phase answer (length input) text over false rest m.text (m.written ++ take m.state.waiting m.output ++ reply) →
          Falls turns
          (record {
            state = answered_state (record { reader = next; waiting = m.state.waiting }) (put reply m.output m.state.waiting).answer;
            input = m.input;
            output = (put reply m.output m.state.waiting).out;
            written = m.written;
            text = m.text;
            reads = m.reads;
          })
      replied h fewer shorter p =
          rw there
          (falls [] rest over false turns (turns_to over false (length rest) (length m.text) (m.state.waiting + length reply)) _ (omega (arith, b.nearer))
          (record {
            holds = h;
            free = tt;
            in_size = b.in_size;
            out_size = same_size;
            waits = fits;
            all_read = λ o. ((b.all_read o).0, omega (arith, (b.all_read o).1));
            phase = rw (now_waits, ← append_assoc m.written (take m.state.waiting m.output) reply) p;
            nearer = omega arith;
          }))

  -- more is read, behind what stands at the front
  module _ (turns : ℕ) (m : Machine) (c : List ℕ) (over long : Bool) (at : ℕ) (b : Between c [] over long turns m) (on : over ≡ false) (front : m.state.reader.start ≡ 0)
      (there : at ≡ length c) (fits : at < length input) (idle : m.state.waiting ≡ 0) (small : length input ≤ 18446744073709551615) where
    abbrev got : List ℕ
    got = came answer most sizes m at

    got_size : length got ≡ min (min (suc (sizes m.reads)) (length m.input - at)) (length m.text)
    got_size = length-take (min (suc (sizes m.reads)) (length m.input - at)) m.text

    held_size : length (c ++ got) ≡ length c + length got
    held_size = length-append c got

    left_size : length (drop (length got) m.text) ≡ length m.text - length got
    left_size = length-drop (length got) m.text

    kept_size : length (take at m.input ++ got ++ drop (at + length got) m.input) ≡ length input
    kept_size =
        omega (
          arith,
          length-append (take at m.input ++ got) (drop (at + length got) m.input),
          length-append (take at m.input) got,
          length-take at m.input,
          length-drop (at + length got) m.input,
          got_size,
          b.in_size,
        )

    none_came : eqb (length got) 0 ≡ true → drop (length got) m.text ≡ []
    none_came e = nil_from_length (drop (length got) m.text) (omega (arith, eqb-true (length got) 0 e, left_size, got_size, b.in_size))

    came_on : Phase answer (length input) text (eqb (length got) 0) long (c ++ got) (drop (length got) m.text) (m.written ++ [])
    came_on =
        Phases.read_on answer (length input) text over (eqb (length got) 0) long c got (drop (length got) m.text) (m.written ++ []) on
        (rw (rejoined (min (suc (sizes m.reads)) (length m.input - at)) m.text) (rw (append-nil c, idle) at b.phase))

    pub read_more : Falls turns (done answer most sizes (Read at (record { reader = m.state.reader; waiting = 0 })) m)
    read_more =
        falls c got (eqb (length got) 0) long turns
        (turns_to (eqb (length got) 0) long (length (c ++ got)) (length (drop (length got) m.text)) 0) _
        (omega (arith, b.nearer, held_size, left_size, got_size, last_read (length got), ap to_read on, length-append c []))
        (record {
          holds = fed_holds m.state.reader m.input c got over long at b.holds on front there (omega (arith, got_size, b.in_size)) (omega (arith, b.in_size));
          free = b.free;
          in_size = kept_size;
          out_size = b.out_size;
          waits = omega arith;
          all_read = λ o. (none_came o, omega (arith, eqb-true (length got) 0 o, held_size));
          phase = came_on;
          nearer = omega arith;
        })
