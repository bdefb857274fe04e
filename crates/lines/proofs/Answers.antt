-- A program that answers lines has answered every line that it has got before it reads on, and every line of its input, in order, when it ends;
-- and it ends. `answer` is its answer to a line, which has room in the output behind `most` bytes; a read may bring any number of bytes
-- (specs/Runs.antt). Assumes nothing.
use Prim.Native.Nat.{ℕ, zero, suc, ◌+◌, ◌*◌, ◌≤◌, ◌<◌, zero-le}
use mathlib.Core.Bool.{false, false≢true}
use mathlib.Core.List.{List, [], ◌++◌}
use mathlib.Core.Logic.{◌⊎◌, inl, inr, ⊎_elim}
use mathlib.Core.Path.{◌≡◌, refl, sym, ap, subst, ◌∙◌}
use native.Mathlib.Omega.{arith}
use lib.ListN.{length}
use Rattle.lines.specs.Turns.{line}
use Rattle.lines.specs.Runs.{Machine, lines_of, whole_lines, answers_to, done, step_in, left, after, started}
use Rattle.lines.specs.declared.turns.State.{State}
use Rattle.lines.specs.declared.turns.Turn.{Turn}
use Rattle.lines.specs.declared.turns.Turn.TheVariants.{Line, Write, Read, End}
use Rattle.lines.proofs.Phases as Phases
use Rattle.lines.proofs.Moves.{Going, Falls}
use Rattle.lines.proofs.Steps.{Met, says}

module _ (answer : List ℕ → List ℕ) (most : ℕ) (sizes : ℕ → ℕ) (input output text : List ℕ) (some : 0 < length input)
    (small : length input ≤ 18446744073709551615) (room : (l : List ℕ) → most + length (line (answer l)) ≤ length output) where
  abbrev Goes : ℕ → Machine → Type 0
  Goes turns m = Going answer most sizes input output text turns m

  abbrev turn : Machine → Turn
  turn m = (step_in answer most sizes m).answer

  at_start : Goes (3 * length text + 1) (started input output text)
  at_start =
      record {
        c = [];
        u = [];
        over = false;
        long = false;
        between =
            record {
              holds = record { gone = []; behind = input; is = refl; starts = refl; sees = refl; ends = refl; over_is = refl; long_is = refl };
              free = tt;
              in_size = refl;
              out_size = refl;
              waits = zero-le;
              all_read = λ o. absurd (false≢true o);
              phase = Phases.at_first answer (length input) text;
              nearer = omega arith;
            };
      }

  -- ---- one turn more

  abbrev onward : Machine → Machine
  onward m = done answer most sizes (turn m) (left answer most sizes m)

  module _ (turns : ℕ) (m : Machine) (g : Goes turns m) where
    abbrev Shows : Turn → Type 0
    Shows t = Met answer most sizes input output text some small room turns m t (onward m)

    shows : Shows (turn m)
    shows = says answer most sizes input output text some small room turns m g.c g.u g.over g.long g.between

    -- it stays at its end, or goes on, and less is to be done
    abbrev Moves : Turn → Type 0
    Moves t = ((t ≡ End) × (onward m ≡ m)) ⊎ Falls answer most sizes input output text turns (onward m)

    moves : Moves (turn m)
    moves = by (turn m) shows
      where
        by : (t : Turn) → Shows t → Moves t
        by (Line from to next) h = inr h
        by (Write bytes next) h = inr h
        by (Read at next) h = inr h.0
        by End h = inl (refl, h.0)

  stays : (n turns : ℕ) (m : Machine) → Goes turns m → (k : ℕ) × Goes k (after answer most sizes n m)
  unfolding after
  stays zero turns m g = (turns, g)
  stays (suc n) turns m g =
      ⊎_elim (λ e. stays n turns (onward m) (subst (Goes turns) (sym e.1) g)) (λ f. stays n f.0 (onward m) f.2) (moves turns m g)

  rests : (n : ℕ) (m : Machine) → onward m ≡ m → after answer most sizes n m ≡ m
  unfolding after
  rests zero m e = refl
  rests (suc n) m e = ap (after answer most sizes n) e ∙ rests n m e

  ends : (n turns : ℕ) (m : Machine) → Goes turns m → turns ≤ n → turn (after answer most sizes n m) ≡ End
  unfolding after
  ends zero turns m g h = ⊎_elim (λ e. e.0) (λ f. absurd (omega (arith, f.1))) (moves turns m g)
  ends (suc n) turns m g h =
      ⊎_elim (λ e. ap (λ (k : Machine). turn (after answer most sizes n k)) e.1 ∙ ap turn (rests n m e.1) ∙ e.0)
      (λ f. ends n f.0 (onward m) f.2 (omega (arith, f.1))) (moves turns m g)

  -- ---- the claims, of the machine after `n` turns

  module _ (n : ℕ) where
    abbrev machine : Machine
    machine = after answer most sizes n (started input output text)

    holds : (k : ℕ) × Goes k machine
    holds = stays n (3 * length text + 1) (started input output text) at_start

    shown : (t : Turn) → turn machine ≡ t → Shows holds.0 machine holds.1 t
    shown t e = subst (Shows holds.0 machine holds.1) e (shows holds.0 machine holds.1)

    -- something was read, and the rest of the text was not
    pub read_so_far : (got : List ℕ) × (text ≡ got ++ machine.text)
    read_so_far =
        Phases.read_so_far answer (length input) text holds.1.over holds.1.long _ machine.text _ holds.1.between.phase

    -- when it is about to read on, it has written the answers to all lines that it has got, and nothing else
    pub answers_come_before_more_is_read : (at : ℕ) (s : State) (got : List ℕ) → (step_in answer most sizes machine).answer ≡ Read at s →
        text ≡ got ++ machine.text → machine.written ≡ answers_to answer (length input) (whole_lines got)
    answers_come_before_more_is_read at s got e is = (shown (Read at s) e).1 got is

    -- when it ends, it has written the answers to all lines, and nothing else
    pub every_line_is_answered : (step_in answer most sizes machine).answer ≡ End → machine.written ≡ answers_to answer (length input) (lines_of text)
    every_line_is_answered e = (shown End e).1

    -- it ends, after so many turns at most: a read, a line and a write for each byte, and a read that brings nothing
    pub it_ends : 3 * length text + 1 ≤ n → (step_in answer most sizes machine).answer ≡ End
    it_ends h = ends n (3 * length text + 1) (started input output text) at_start h

    pub so_all_is_written : 3 * length text + 1 ≤ n → machine.written ≡ answers_to answer (length input) (lines_of text)
    so_all_is_written h = every_line_is_answered (it_ends h)
