-- The program answers a picture once, whatever the pieces in which it comes, and as soon as its image is whole. `step` is proved to be this
-- program's step. That `main` does what the step says, and nothing else, is to be read in src/main.rt: no contract can speak of what is read
-- and written. Assumes nothing.
use Prim.Native.Nat.{ℕ, zero, suc, ◌+◌, ◌-◌, ◌≤◌, ◌<◌, min}
use mathlib.Core.Bool.{Bool, true, false, not, ◌&&◌, false≢true}
use mathlib.Core.List.{List, [], ◌∷◌, ◌++◌, flatten, append_assoc, append-nil}
use mathlib.Core.Path.{◌≡◌, refl, sym, ap, subst, ◌∙◌}
use native.Mathlib.Numerals.{add-one}
use native.Mathlib.Omega.{arith}
use lib.Dec.{ltb}
use lib.ListN.{length, take, drop, length-append, length-take, length-drop}
use lib.Seq.{take_all, take_at, take-add, take-append-le, take-append-add, length-take-le}
use borrow.Author.Tests.{lt-ltb, le-ltb, ltb-true, ltb-false}
use Rattle.std.specs.Prelude.{if◌then◌else◌, Result, Ok, Err}
use Rattle.laws.specs.Lists.{over}
use Rattle.laws.proofs.Lists.{take_over_all}
use Rattle.point.specs.declared.refusal.Refusal.{Refusal}
use Rattle.pbm.specs.Read.{Reading, read_of}
use Rattle.pbm.specs.declared.Picture.{Picture}
use Rattle.pbm.proofs.theorems.Behind.{nothing_more_matters}
use Rattle.survey.specs.Survey.{text_of, chart_room, survey_text, is_read, whole, Step, step_of}
use Rattle.survey.specs.Runs.{Machine, came, behind, fed, done, step_in, left, turned, after, started, Filled}
use Rattle.survey.specs.declared.step.Turn.TheVariants.{Read, Write}

-- ---- a whole image

-- what follows it changes nothing of the answer
pub nothing_follows : (file more : List ℕ) → whole file ≡ true → survey_text (file ++ more) ≡ survey_text file
unfolding whole survey_text
nothing_follows file more is = by (read_of file chart_room).answer refl is
  where
    by : (p : Result Picture Refusal) → (read_of file chart_room).answer ≡ p → is_read p ≡ true →
        text_of (read_of (file ++ more) chart_room).answer (read_of (file ++ more) chart_room).out ≡ text_of (read_of file chart_room).answer (read_of file chart_room).out
    by (Ok picture) e t = ap (λ (o : Reading). text_of o.answer o.out) (nothing_more_matters file more chart_room picture.chart picture.bytes e)
    by (Err r) e t = absurd (false≢true t)

-- nor whether it is whole
still_whole : (file more : List ℕ) → whole file ≡ true → whole (file ++ more) ≡ true
unfolding whole
still_whole file more is = by (read_of file chart_room).answer refl is
  where
    by : (p : Result Picture Refusal) → (read_of file chart_room).answer ≡ p → is_read p ≡ true → is_read (read_of (file ++ more) chart_room).answer ≡ true
    by (Ok picture) e t = ap (λ (o : Reading). is_read o.answer) (nothing_more_matters file more chart_room picture.chart picture.bytes e) ∙ ap is_read e
    by (Err r) e t = absurd (false≢true t)

-- ---- steps

module _ (file : List ℕ) (more : Bool) (output : List ℕ) where
  writes : more && not (whole file) ≡ false → step_of file more output ≡ record { answer = Write (length (survey_text file)); out = over (survey_text file) output }
  unfolding step_of
  writes t = rw t

  reads : more && not (whole file) ≡ true → step_of file more output ≡ record { answer = Read; out = output }
  unfolding step_of
  reads t = rw t

never_waits : (more : Bool) → more && false ≡ false
never_waits true = refl
never_waits false = refl

-- what a machine does that has not ended
goes : (m : Machine) (s : Step) → m.ended ≡ false → step_in m ≡ s → turned m ≡ done s.answer (left m s.out)
unfolding turned
goes m s live e =
    ap (λ (b : Bool). if b then m else done (step_in m).answer (left m (step_in m).out)) live
    ∙ ap (λ (t : Step). done t.answer (left m t.out)) e

rests : (m : Machine) → m.ended ≡ true → turned m ≡ m
unfolding turned
rests m e = ap (λ (b : Bool). if b then m else done (step_in m).answer (left m (step_in m).out)) e

-- ---- bytes

flatten_both : (ps qs : List (List ℕ)) → flatten (ps ++ qs) ≡ flatten ps ++ flatten qs
unfolding flatten
flatten_both [] qs = refl
flatten_both (p ∷ ps) qs = ap (λ (l : List ℕ). p ++ l) (flatten_both ps qs) ∙ sym (append_assoc p (flatten ps) (flatten qs))

flatten_one : (p : List ℕ) → flatten (p ∷ []) ≡ p
unfolding flatten
flatten_one p = append-nil p

-- what is held once bytes were read behind it
held_then : (input got : List ℕ) (held : ℕ) → held ≤ length input →
    take (held + length got) (take held input ++ got ++ drop (held + length got) input) ≡ take held input ++ got
held_then input got held h =
    take_at (take held input ++ got) (drop (held + length got) input) (held + length got)
    (length-append (take held input) got ∙ ap (λ (n : ℕ). n + length got) (length-take-le held input h))

-- the first bytes of two lists one behind the other, where the first has fewer
take_both : (n : ℕ) (a b : List ℕ) → length a ≤ n → take n (a ++ b) ≡ a ++ take (n - length a) b
take_both n a b h =
    let e : n ≡ length a + (n - length a) = omega arith in
    ap (λ (k : ℕ). take k (a ++ b)) e ∙ take-append-add a b (n - length a)

-- ---- the program on an input of any pieces, none of them empty

module _ (input output : List ℕ) (pieces : List (List ℕ)) (some : 0 < length input) (filled : Filled pieces) where
  -- what is taken of the input
  abbrev taken : List ℕ
  taken = take (length input) (flatten pieces)

  -- what it holds
  abbrev file : Machine → List ℕ
  file m = take m.held m.input

  -- More may come: of the pieces those in `gone` came, one to a turn, and all of them are held.
  record Waiting (n : ℕ) (m : Machine) : Type 0 where
    gone : List (List ℕ)
    is : pieces ≡ gone ++ m.pieces
    turns : length gone ≡ n
    rest_filled : Filled m.pieces
    may_come : m.more ≡ true
    live : m.ended ≡ false
    none_written : m.written ≡ []
    in_size : length m.input ≡ length input
    holds : file m ≡ flatten gone
    held_is : m.held ≡ length (flatten gone)
    free : m.held < length input

  -- No more may come, and all that is taken is held.
  record Last (m : Machine) : Type 0 where
    none_comes : m.more ≡ false
    live : m.ended ≡ false
    none_written : m.written ≡ []
    holds : file m ≡ taken

  -- It has ended, and has written the answer, once.
  record Over (m : Machine) : Type 0 where
    has_ended : m.ended ≡ true
    once : m.written ≡ survey_text taken ∷ []

  data State (n : ℕ) (m : Machine) : Type 0 where
    waiting : Waiting n m → State n m
    last : Last m → State n m
    over_now : Over m → State n m

  -- ---- a write

  wrote : (m : Machine) → m.ended ≡ false → m.written ≡ [] → m.more && not (whole (file m)) ≡ false → survey_text (file m) ≡ survey_text taken → Over (turned m)
  wrote m live none t same =
      let text = survey_text (file m) in
      let e : turned m ≡ done (Write (length text)) (left m (over text m.output)) = goes m _ live (writes (file m) m.more m.output t) in
      record {
        has_ended = ap (λ (k : Machine). k.ended) e;
        once =
            ap (λ (k : Machine). k.written) e
            ∙ ap (λ (w : List (List ℕ)). w ++ (take (length text) (over text m.output) ∷ [])) none
            ∙ ap (λ (l : List ℕ). l ∷ []) (take_over_all text m.output ∙ same);
      }

  -- ---- a read

  module _ (n : ℕ) (m : Machine) (w : Waiting n m) where
    abbrev bytes : List ℕ
    bytes = flatten w.gone

    abbrev free_bytes : ℕ
    free_bytes = length m.input - m.held

    held_fits : m.held ≤ length m.input
    held_fits = omega (arith, w.free, w.in_size)

    -- none is left
    ended_input : m.pieces ≡ [] → Last (fed m [] [])
    ended_input e =
        record {
          none_comes = refl;
          live = refl;
          none_written = w.none_written;
          holds =
              held_then m.input [] m.held held_fits
              ∙ append-nil (file m)
              ∙ w.holds
              ∙ sym (take_all (length input) bytes (omega (arith, w.free, w.held_is)))
              ∙ ap (λ (ps : List (List ℕ)). take (length input) (flatten ps)) (sym (w.is ∙ ap (λ (ps : List (List ℕ)). w.gone ++ ps) e ∙ append-nil w.gone));
        }

    module _ (p : List ℕ) (ps : List (List ℕ)) (e : m.pieces ≡ p ∷ ps) (some_bytes : 0 < length p) (rest_filled : Filled ps) where
      abbrev got : List ℕ
      got = take free_bytes p

      abbrev next : Machine
      next = fed m got (behind free_bytes (p ∷ ps))

      got_length : length got ≡ min free_bytes (length p)
      got_length = length-take free_bytes p

      all_gone : pieces ≡ (w.gone ++ (p ∷ [])) ++ ps
      all_gone = w.is ∙ ap (λ (qs : List (List ℕ)). w.gone ++ qs) e ∙ sym (append_assoc w.gone (p ∷ []) ps)

      bytes_gone : flatten (w.gone ++ (p ∷ [])) ≡ bytes ++ p
      bytes_gone = flatten_both w.gone (p ∷ []) ∙ ap (λ (l : List ℕ). bytes ++ l) (flatten_one p)

      holds_then : file next ≡ bytes ++ got
      holds_then = held_then m.input got m.held held_fits ∙ ap (λ (l : List ℕ). l ++ got) w.holds

      some_came : ltb 0 (length got) ≡ true
      some_came = lt-ltb 0 (length got) (omega (arith, got_length, w.free, w.in_size))

      -- it had room, and there is more
      all_of_it : m.held + length got < length m.input → got ≡ p
      all_of_it h = take_all free_bytes p (omega (arith, got_length))

      not_full : m.held + length got < length m.input → Waiting (suc n) next
      not_full h =
          let short : length p ≤ free_bytes = omega (arith, got_length) in
          record {
            gone = w.gone ++ (p ∷ []);
            is = all_gone ∙ ap (λ (qs : List (List ℕ)). (w.gone ++ (p ∷ [])) ++ qs) (rw (le-ltb free_bytes (length p) short));
            turns = length-append w.gone (p ∷ []) ∙ omega (arith, w.turns);
            rest_filled = rw (le-ltb free_bytes (length p) short) rest_filled;
            may_come = rw (some_came, lt-ltb (m.held + length got) (length m.input) h);
            live = refl;
            none_written = w.none_written;
            in_size =
                length-append (take m.held m.input ++ got) (drop (m.held + length got) m.input)
                ∙ omega (
                  arith,
                  length-append (take m.held m.input) got,
                  length-take-le m.held m.input held_fits,
                  length-drop (m.held + length got) m.input,
                  w.in_size,
                );
            holds = holds_then ∙ ap (λ (l : List ℕ). bytes ++ l) (all_of_it h) ∙ sym bytes_gone;
            held_is = omega (arith, w.held_is, ap length bytes_gone, length-append bytes p, ap length (all_of_it h));
            free = omega (arith, w.in_size);
          }

      -- the buffer is full
      full : length m.input ≤ m.held + length got → Last next
      full h =
          record {
            none_comes = rw (some_came, le-ltb (m.held + length got) (length m.input) h);
            live = refl;
            none_written = w.none_written;
            holds =
                holds_then
                ∙ ap (λ (k : ℕ). bytes ++ take k p) left_is
                ∙ sym (take_both (length input) bytes p (omega (arith, w.free, w.held_is)))
                ∙ sym (take-append-le (length input) (bytes ++ p) (flatten ps) (omega (arith, length-append bytes p, got_length, w.held_is, w.in_size)))
                ∙ ap (λ (l : List ℕ). take (length input) (l ++ flatten ps)) (sym bytes_gone)
                ∙ ap (take (length input)) (sym (flatten_both (w.gone ++ (p ∷ [])) ps))
                ∙ ap (λ (qs : List (List ℕ)). take (length input) (flatten qs)) (sym all_gone);
          }
        where
          left_is : free_bytes ≡ length input - length bytes
          left_is = omega (arith, w.in_size, w.held_is)

      by_room : State (suc n) next
      by_room = by (ltb (m.held + length got) (length m.input)) refl
        where
          by : (b : Bool) → ltb (m.held + length got) (length m.input) ≡ b → State (suc n) next
          by true t = waiting (not_full (ltb-true (m.held + length got) (length m.input) t))
          by false t = last (full (ltb-false (m.held + length got) (length m.input) t))

    next_piece : (q : List (List ℕ)) → m.pieces ≡ q → Filled q → State (suc n) (fed m (came free_bytes q) (behind free_bytes q))
    next_piece [] e f = last (ended_input e)
    next_piece (p ∷ ps) e f = by_room p ps e f.0 f.1

    -- ---- a turn while more may come

    -- what it holds are the pieces that came
    file_is : file m ≡ take (length input) (flatten (take n pieces))
    file_is =
        w.holds
        ∙ sym (take_all (length input) bytes (omega (arith, w.free, w.held_is)))
        ∙ ap (λ (ps : List (List ℕ)). take (length input) (flatten ps)) (sym (ap (take n) w.is ∙ take_at w.gone m.pieces n w.turns))

    taken_is : taken ≡ file m ++ take (length input - length bytes) (flatten m.pieces)
    taken_is =
        ap (λ (ps : List (List ℕ)). take (length input) (flatten ps)) w.is
        ∙ ap (take (length input)) (flatten_both w.gone m.pieces)
        ∙ take_both (length input) bytes (flatten m.pieces) (omega (arith, w.free, w.held_is))
        ∙ ap (λ (l : List ℕ). l ++ take (length input - length bytes) (flatten m.pieces)) (sym w.holds)

    -- a whole image is answered
    image : whole (file m) ≡ true → Over (turned m)
    image t =
        wrote m w.live w.none_written (rw t (never_waits m.more))
        (sym (ap survey_text taken_is ∙ nothing_follows (file m) (take (length input - length bytes) (flatten m.pieces)) t))

    -- without one it reads on
    reads_on : whole (file m) ≡ false → turned m ≡ fed m (came free_bytes m.pieces) (behind free_bytes m.pieces)
    reads_on t = goes m _ w.live (reads (file m) m.more m.output (rw (w.may_come, t)))

    no_image : whole (file m) ≡ false → State (suc n) (turned m)
    no_image t = subst (State (suc n)) (sym (reads_on t)) (next_piece m.pieces refl w.rest_filled)

  -- ---- every turn

  at_last : (m : Machine) → Last m → Over (turned m)
  at_last m l = wrote m l.live l.none_written (rw l.none_comes) (ap survey_text l.holds)

  stays_over : (m : Machine) → Over m → Over (turned m)
  stays_over m o = subst Over (sym (rests m o.has_ended)) o

  turns_on : (n : ℕ) (m : Machine) → State n m → State (suc n) (turned m)
  turns_on n m (waiting w) = by (whole (file m)) refl
    where
      by : (b : Bool) → whole (file m) ≡ b → State (suc n) (turned m)
      by true t = over_now (image n m w t)
      by false t = no_image n m w t
  turns_on n m (last l) = over_now (at_last m l)
  turns_on n m (over_now o) = over_now (stays_over m o)

  at_start : Waiting 0 (started input output pieces)
  unfolding flatten
  at_start =
      record {
        gone = [];
        is = refl;
        turns = refl;
        rest_filled = filled;
        may_come = refl;
        live = refl;
        none_written = refl;
        in_size = refl;
        holds = refl;
        held_is = refl;
        free = some;
      }

  -- the program after `n` turns
  abbrev machine : ℕ → Machine
  machine n = after n (started input output pieces)

  state : (n : ℕ) → State n (machine n)
  unfolding after
  state zero = waiting at_start
  state (suc n) = turns_on n (machine n) (state n)

  -- ---- where the image is not whole in the first pieces, all of them fit, and there are so many

  record Wanting (n : ℕ) : Type 0 where
    not_whole : whole (take (length input) (flatten (take n pieces))) ≡ false
    fit : length (flatten (take n pieces)) < length input
    are : n ≤ length pieces

  one_more : (n : ℕ) → flatten (take (suc n) pieces) ≡ flatten (take n pieces) ++ flatten (take 1 (drop n pieces))
  one_more n =
      ap (λ (k : ℕ). flatten (take k pieces)) (sym (add-one n))
      ∙ ap flatten (take-add n 1 pieces)
      ∙ flatten_both (take n pieces) (take 1 (drop n pieces))

  -- then neither is it in fewer
  fewer : (n : ℕ) → Wanting (suc n) → Wanting n
  fewer n s =
      let first = flatten (take n pieces) in
      let second = flatten (take 1 (drop n pieces)) in
      let longer : length (flatten (take (suc n) pieces)) ≡ length first + length second = ap length (one_more n) ∙ length-append first second in
      let both : take (length input) (flatten (take (suc n) pieces)) ≡ take (length input) first ++ second =
      take_all (length input) (flatten (take (suc n) pieces)) (omega (arith, s.fit))
      ∙ one_more n
      ∙ ap (λ (l : List ℕ). l ++ second) (sym (take_all (length input) first (omega (arith, s.fit)))) in
      record {
        not_whole = by (take (length input) first) second (ap whole (sym both) ∙ s.not_whole) (whole (take (length input) first)) refl;
        fit = omega (arith, s.fit);
        are = omega (arith, s.are);
      }
    where
      by : (a b : List ℕ) → whole (a ++ b) ≡ false → (t : Bool) → whole a ≡ t → whole a ≡ false
      by a b e true t = absurd (false≢true (sym e ∙ still_whole a b t))
      by a b e false t = t

  -- and the program waits for more
  waits : (n : ℕ) → Wanting n → Waiting n (machine n)
  unfolding after
  waits zero s = at_start
  waits (suc n) s = on (machine n) (waits n (fewer n s))
    where
      on : (m : Machine) → Waiting n m → Waiting (suc n) (turned m)
      on m w = subst (Waiting (suc n)) (sym (reads_on n m w (rw (file_is n m w) (fewer n s).not_whole))) (by m.pieces refl w.rest_filled)
        where
          by : (q : List (List ℕ)) → m.pieces ≡ q → Filled q →
              Waiting (suc n) (fed m (came (length m.input - m.held) q) (behind (length m.input - m.held) q))
          by [] e f = absurd (omega (arith, s.are, w.turns, ap length (w.is ∙ ap (λ (ps : List (List ℕ)). w.gone ++ ps) e ∙ append-nil w.gone)))
          by (p ∷ ps) e f =
              let came-is : take (suc n) pieces ≡ w.gone ++ (p ∷ []) =
              ap (take (suc n)) (all_gone n m w p ps e f.0 f.1)
              ∙ take_at (w.gone ++ (p ∷ [])) ps (suc n) (length-append w.gone (p ∷ []) ∙ omega (arith, w.turns)) in
              not_full n m w p ps e f.0 f.1
              (omega (
                arith,
                s.fit,
                ap (λ (qs : List (List ℕ)). length (flatten qs)) came-is,
                ap length (bytes_gone n m w p ps e f.0 f.1),
                length-append (flatten w.gone) p,
                got_length n m w p ps e f.0 f.1,
                w.held_is,
                w.in_size,
              ))

  -- ---- the claims

  module _ (n : ℕ) where
    -- when it has ended, it has written the answer to what was taken of its input, once
    pub the_answer_is_written_once : (machine n).ended ≡ true → (machine n).written ≡ survey_text taken ∷ []
    the_answer_is_written_once e = by (state n)
      where
        by : State n (machine n) → (machine n).written ≡ survey_text taken ∷ []
        by (waiting w) = absurd (false≢true (sym w.live ∙ e))
        by (last l) = absurd (false≢true (sym l.live ∙ e))
        by (over_now o) = o.once

    -- before that, nothing
    pub nothing_is_written_before : (machine n).ended ≡ false → (machine n).written ≡ []
    nothing_is_written_before e = by (state n)
      where
        by : State n (machine n) → (machine n).written ≡ []
        by (waiting w) = w.none_written
        by (last l) = l.none_written
        by (over_now o) = absurd (false≢true (sym e ∙ o.has_ended))

    over_next : (Waiting n (machine n) → Over (turned (machine n))) → (machine (suc n)).ended ≡ true
    unfolding after
    over_next f = by (state n)
      where
        by : State n (machine n) → (turned (machine n)).ended ≡ true
        by (waiting w) = (f w).has_ended
        by (last l) = (at_last (machine n) l).has_ended
        by (over_now o) = (stays_over (machine n) o).has_ended

    -- it ends: each turn but the last two reads a piece
    pub it_ends : length pieces < n → (machine (suc n)).ended ≡ true
    it_ends h = over_next (λ w. absurd (too_many w))
      where
        too_many : Waiting n (machine n) → ⊥
        too_many w = omega (arith, w.turns, ap length w.is, length-append w.gone (machine n).pieces)

    -- Once the image is whole in the first `n` pieces it reads no further one: n turns at most were reads, and the next has written.
    pub the_image_is_answered_at_once : whole (take (length input) (flatten (take n pieces))) ≡ true → (machine (suc n)).ended ≡ true
    the_image_is_answered_at_once t = over_next (λ w. image n (machine n) w (rw (file_is n (machine n) w) t))

    -- and before that it waits for more, unless the buffer is full or the input has ended
    pub it_waits_for_the_image : whole (take (length input) (flatten (take n pieces))) ≡ false → length (flatten (take n pieces)) < length input →
        n ≤ length pieces → (machine (suc n)).ended ≡ false
    unfolding after
    it_waits_for_the_image t fit are =
        let w = waits n (record { not_whole = t; fit = fit; are = are }) in
        ap (λ (m : Machine). m.ended) (reads_on n (machine n) w (rw (file_is n (machine n) w) t))

-- ---- with the program's own buffer

module _ (input output : List ℕ) (pieces : List (List ℕ)) (size : length input ≡ 600000) (filled : Filled pieces) where
  some_room : 0 < length input
  some_room = omega arith

  -- after a turn for each piece, one that finds the end, and the write, the answer to the first 600,000 bytes is written, once
  pub every_picture_is_answered : (n : ℕ) → length pieces < n → (after (suc n) (started input output pieces)).written ≡ survey_text (take 600000 (flatten pieces)) ∷ []
  every_picture_is_answered n h =
      the_answer_is_written_once input output pieces some_room filled (suc n) (it_ends input output pieces some_room filled n h)
      ∙ ap (λ (k : ℕ). survey_text (take k (flatten pieces)) ∷ []) size

  -- before it waits for more, if the image is whole in the first `n` pieces
  pub a_whole_image_is_answered_at_once : (n : ℕ) → whole (take 600000 (flatten (take n pieces))) ≡ true →
      (after (suc n) (started input output pieces)).written ≡ survey_text (take 600000 (flatten pieces)) ∷ []
  a_whole_image_is_answered_at_once n t =
      the_answer_is_written_once input output pieces some_room filled (suc n)
      (the_image_is_answered_at_once input output pieces some_room filled n (rw size t))
      ∙ ap (λ (k : ℕ). survey_text (take k (flatten pieces)) ∷ []) size
