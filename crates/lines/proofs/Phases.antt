-- How far the answers to a text have come, and what a line, a read and the end make of it: over plain lists, with no word about buffers.
-- Assumes nothing.
use Prim.Native.Nat.{ℕ, ◌≤◌, ◌<◌}
use mathlib.Core.Bool.{Bool, true, false, false≢true}
use mathlib.Core.List.{List, [], ◌∷◌, ◌++◌, append_assoc, append-nil, append_cancel_right}
use mathlib.Core.Path.{◌≡◌, refl, sym, ap, subst, ◌∙◌}
use native.Mathlib.Omega.{arith}
use lib.ListN.{length, length-append}
use lib.Seq.{append_snoc}
use borrow.Author.Tests.{lt-ltb, le-ltb}
use Rattle.std.specs.Prelude.{if◌then◌else◌}
use Rattle.lines.specs.Turns.{line}
use Rattle.lines.specs.Runs.{lines_of, whole_lines, or_empty, answers_to}
use Rattle.lines.proofs.Newlines.{Free, free_append, whole_line, lines_line, none_whole, one_line}

-- of a line that is too long no bytes are or_empty out
abbrev pub line_bytes : Bool → List ℕ → List ℕ
line_bytes long l = if long then [] else l

module _ (answer : List ℕ → List ℕ) (size : ℕ) where
  -- `out` answers all lines of `done`, which a newline ends if anything does: the answers to a text that begins so begin with it
  pub record Answered (done out : List ℕ) : Type 0 where
    pub whole : (rest : List ℕ) → answers_to answer size (whole_lines (done ++ rest)) ≡ out ++ answers_to answer size (whole_lines rest)
    pub all : (rest : List ℕ) → answers_to answer size (lines_of (done ++ rest)) ≡ out ++ answers_to answer size (lines_of rest)

  nothing_answered : Answered [] []
  nothing_answered = record { whole = λ rest. refl; all = λ rest. refl }

  -- one line more
  answered_line : (done out l : List ℕ) → Free l → Answered done out → Answered (done ++ (l ++ 10 ∷ [])) (out ++ line (answer (or_empty size l)))
  unfolding answers_to
  answered_line done out l f a =
      record {
        whole = λ rest.
            rw (
              append_assoc done (l ++ 10 ∷ []) rest,
              append_snoc l 10 rest,
              a.whole (l ++ 10 ∷ rest),
              whole_line l rest f,
              append_assoc out (line (answer (or_empty size l))) (answers_to answer size (whole_lines rest)),
            );
        all = λ rest.
            rw (
              append_assoc done (l ++ 10 ∷ []) rest,
              append_snoc l 10 rest,
              a.all (l ++ 10 ∷ rest),
              lines_line l rest f,
              append_assoc out (line (answer (or_empty size l))) (answers_to answer size (lines_of rest)),
            );
      }

  -- what was dropped of a line: as much as shows that it is too long; nothing of any other
  abbrev pub Dropped : Bool → List ℕ → Type 0
  Dropped true part = size ≤ length part
  Dropped false part = part ≡ []

  -- so what is or_empty out of a line is what `l` ends it with, or nothing
  handed_is : (long : Bool) (part l : List ℕ) → Dropped long part → length l < size → or_empty size (part ++ l) ≡ line_bytes long l
  handed_is true part l d h = rw (le-ltb (length (part ++ l)) size (omega (arith, length-append part l)))
  handed_is false part l d h = rw (d, lt-ltb (length l) size h)

  module _ (text : List ℕ) where
    -- `held` bytes are held, `left` are not read yet, and `out` is answered. Either that is up to the line that is held; or all is, once the input is over
    pub data Phase (over long : Bool) (held left out : List ℕ) : Type 0 where
      going : (done part : List ℕ) → text ≡ done ++ (part ++ (held ++ left)) → Free part → Dropped long part → Answered done out →
          Phase over long held left out
      ended : over ≡ true → long ≡ false → held ≡ [] → left ≡ [] → out ≡ answers_to answer size (lines_of text) → Phase over long held left out

    pub at_first : Phase false false [] text []
    at_first = going [] [] refl tt refl nothing_answered

    -- a line is answered that a newline ends
    pub line_answered : (over long : Bool) (held l rest left out : List ℕ) → held ≡ l ++ 10 ∷ rest → Free l → length l < size →
        Phase over long held left out → Phase over false rest left (out ++ line (answer (line_bytes long l)))
    line_answered over long held l rest left out is f h (going done part e g d a) =
        going (done ++ (part ++ l ++ 10 ∷ [])) []
        (rw (
          e,
          is,
          append_assoc done (part ++ l ++ 10 ∷ []) (rest ++ left),
          append_snoc (part ++ l) 10 (rest ++ left),
          append_assoc part l (10 ∷ (rest ++ left)),
          append_assoc l (10 ∷ rest) left,
        ))
        tt refl (rw (← handed_is long part l d h) (answered_line done out (part ++ l) (free_append part l g f) a))
    line_answered over long held l rest left out is f h (ended o g none left_none e) =
        absurd (omega (arith, sym (ap length none) ∙ ap length is ∙ length-append l (10 ∷ rest)))

    -- the last line is answered, which no newline ends
    pub last_answered : (over long : Bool) (held left out : List ℕ) → over ≡ true → left ≡ [] → Free held → (long ≡ false → 0 < length held) → length held < size →
        Phase over long held left out → Phase over false [] left (out ++ line (answer (line_bytes long held)))
    unfolding answers_to
    last_answered over long held left out o none f some h (going done part e g d a) =
        let all : text ≡ done ++ (part ++ held) = rw (e, none, append-nil) in
        ended o refl refl none
        (rw (all, a.all (part ++ held), one_line (part ++ held) (free_append part held g f) (not_empty long d some), handed_is long part held d h, append-nil))
      where
        not_empty : (long : Bool) → Dropped long part → (long ≡ false → 0 < length held) → 0 < length (part ++ held)
        not_empty true d some = omega (arith, length-append part held)
        not_empty false d some = omega (arith, length-append part held, some refl)
    last_answered over long held left out o none f some h (ended p g empty left_none e) = absurd (omega (arith, some g, ap length empty))

    -- what is held is dropped: its line is too long
    pub dropped : (over long : Bool) (held left out : List ℕ) → over ≡ false → Free held → (long ≡ false → length held ≡ size) →
        Phase over long held left out → Phase over true [] left out
    dropped over long held left out o f full (going done part e g d a) =
        going done (part ++ held) (rw (e, append_assoc part held left)) (free_append part held g f) (enough long d full) a
      where
        enough : (long : Bool) → Dropped long part → (long ≡ false → length held ≡ size) → size ≤ length (part ++ held)
        enough true d full = omega (arith, length-append part held)
        enough false d full = omega (arith, length-append part held, full refl)
    dropped over long held left out o f full (ended p g none left_none e) = absurd (false≢true (sym o ∙ p))

    -- more is read
    pub read_on : (over over' long : Bool) (held got left out : List ℕ) → over ≡ false → Phase over long held (got ++ left) out →
        Phase over' long (held ++ got) left out
    read_on over over' long held got left out o (going done part e g d a) = going done part (rw (e, append_assoc held got left)) g d a
    read_on over over' long held got left out o (ended p g none left_none e) = absurd (false≢true (sym o ∙ p))

    -- ---- what is read and answered

    pub read_so_far : (over long : Bool) (held left out : List ℕ) → Phase over long held left out → (got : List ℕ) × (text ≡ got ++ left)
    read_so_far over long held left out (going done part e g d a) =
        (done ++ (part ++ held), e ∙ rw (append_assoc done (part ++ held) left, append_assoc part held left))
    read_so_far over long held left out (ended o g none left_none e) = (text, rw (left_none, append-nil))

    -- where no newline is held, and the input may go on: every line that was read
    pub all_read : (over long : Bool) (held left out got : List ℕ) → over ≡ false → text ≡ got ++ left → Free held → Phase over long held left out →
        out ≡ answers_to answer size (whole_lines got)
    unfolding answers_to
    all_read over long held left out got o is f (going done part e g d a) =
        let whole : got ++ left ≡ done ++ (part ++ held) ++ left =
        sym is ∙ e ∙ rw (append_assoc done (part ++ held) left, append_assoc part held left) in
        let came : got ≡ done ++ (part ++ held) = append_cancel_right got (done ++ (part ++ held)) left whole in
        rw (came, a.whole (part ++ held), none_whole (part ++ held) (free_append part held g f), append-nil)
    all_read over long held left out got o is f (ended p g none left_none e) = absurd (false≢true (sym o ∙ p))

    -- where nothing is held or left: every line
    pub all_answered : (over long : Bool) (held left out : List ℕ) → long ≡ false → held ≡ [] → left ≡ [] → Phase over long held left out →
        out ≡ answers_to answer size (lines_of text)
    unfolding lines_of answers_to
    all_answered over long held left out short none left_none (going done part e g d a) =
        let whole : part ≡ [] = subst (λ (b : Bool). Dropped b part) short d in
        rw (e, whole, none, left_none, a.all [], append-nil)
    all_answered over long held left out short none left_none (ended p g none' left-none' e) = e
