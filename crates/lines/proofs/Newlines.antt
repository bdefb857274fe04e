-- A text and its newlines: the first newline is where `up_to` says, and a line put in front of a text is one line more. Assumes nothing.
use Prim.Native.Nat.{ℕ, suc, ◌≤◌, ◌<◌}
use mathlib.Core.Bool.{Bool, true, false}
use mathlib.Core.List.{List, [], ◌∷◌, ◌++◌}
use mathlib.Core.Path.{◌≡◌, refl, ap, subst}
use native.Mathlib.Nat.{not-suc-le-zero}
use native.Mathlib.Omega.{arith}
use lib.Dec.{eqb}
use lib.ListN.{length, take, drop}
use lib.Seq.{take_all}
use borrow.Author.Tests.{eqb-true}
use Rattle.words.specs.Line.{up_to}
use Rattle.std.specs.Prelude.{if◌then◌else◌}
use Rattle.lines.specs.Runs.{lines_of, whole_lines}

-- no byte of it is a newline
abbrev pub Free : List ℕ → Type 0
Free [] = Unit {0}
Free (b ∷ text) = (eqb b 10 ≡ false) × Free text

pub free_append : (a b : List ℕ) → Free a → Free b → Free (a ++ b)
free_append [] b f g = g
free_append (x ∷ a) b f g = (f.0, free_append a b f.1 g)

-- ---- the first newline

-- what stands before it is free of newlines
pub free_before : (text : List ℕ) → Free (take (up_to 10 text) text)
unfolding up_to
free_before [] = tt
free_before (b ∷ text) = by (eqb b 10) refl (free_before text)
  where
    by : (t : Bool) → eqb b 10 ≡ t → Free (take (up_to 10 text) text) → Free (take (if t then 0 else suc (up_to 10 text)) (b ∷ text))
    by true e f = tt
    by false e f = (e, f)

pub cut_there : (text : List ℕ) → up_to 10 text < length text → text ≡ take (up_to 10 text) text ++ 10 ∷ drop (suc (up_to 10 text)) text
unfolding up_to
cut_there [] h = absurd (not-suc-le-zero h)
cut_there (b ∷ text) h = by (eqb b 10) refl h (λ k. cut_there text k)
  where
    by : (t : Bool) → eqb b 10 ≡ t → (if t then 0 else suc (up_to 10 text)) < suc (length text) →
        (up_to 10 text < length text → text ≡ take (up_to 10 text) text ++ 10 ∷ drop (suc (up_to 10 text)) text) →
        b ∷ text ≡ take (if t then 0 else suc (up_to 10 text)) (b ∷ text) ++ 10 ∷ drop (suc (if t then 0 else suc (up_to 10 text))) (b ∷ text)
    by true e h again = ap (λ (x : ℕ). x ∷ text) (eqb-true b 10 e)
    by false e h again = ap (λ (l : List ℕ). b ∷ l) (again (omega arith))

-- where there is none, all of the text is
pub free_all : (text : List ℕ) → length text ≤ up_to 10 text → Free text
free_all text h = subst Free (take_all (up_to 10 text) text h) (free_before text)

-- ---- lines: one that a newline ends, in front of any text; and one that none ends

pub whole_line : (l text : List ℕ) → Free l → whole_lines (l ++ 10 ∷ text) ≡ l ∷ whole_lines text
unfolding whole_lines
whole_line [] text f = refl
whole_line (b ∷ l) text f = rw (f.0, whole_line l text f.1)

pub lines_line : (l text : List ℕ) → Free l → lines_of (l ++ 10 ∷ text) ≡ l ∷ lines_of text
unfolding lines_of
lines_line [] text f = refl
lines_line (b ∷ l) text f = rw (f.0, lines_line l text f.1)

pub none_whole : (l : List ℕ) → Free l → whole_lines l ≡ []
unfolding whole_lines
none_whole [] f = refl
none_whole (b ∷ l) f = rw (f.0, none_whole l f.1)

pub one_line : (l : List ℕ) → Free l → 0 < length l → lines_of l ≡ l ∷ []
unfolding lines_of
one_line [] f h = absurd (not-suc-le-zero h)
one_line (b ∷ []) f h = rw f.0
one_line (b ∷ x ∷ l) f h = rw (f.0, one_line (x ∷ l) f.1 (omega arith))
