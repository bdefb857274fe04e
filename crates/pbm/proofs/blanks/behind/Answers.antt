-- A byte that is not passed over stops it; one that is passed over is a step of the definition.
use Prim.Native.Nat.{ℕ, ◌+◌, ◌≤◌, ◌<◌}
use mathlib.Core.Bool.{Bool, true, false, not, ◌||◌}
use mathlib.Core.List.{List}
use mathlib.Core.Path.{◌≡◌, sym, ◌∙◌}
use native.Mathlib.Nat.{le_refl}
use native.Mathlib.Numerals.{add-one}
use lib.ListN.{length, get_or, drop, drop_of_length-le}
use lib.Seq.{drop-cons}
use borrow.Author.Rules.{rules}
use borrow.Author.Tests.{not-true, not-false}
use Rattle.pbm.specs.Header.{white, hash, commented, behind}
use Rattle.pbm.proofs.blanks.behind.Goals as goal

module _ (file : List ℕ) (from i : ℕ) (comment : Bool) (inv : behind false (drop from file) ≡ behind comment (drop i file)) where
  module _ (p : Bool) (says : p ≡ (comment || white (get_or file i 0) || hash (get_or file i 0))) (h : i < length file) where
    stops : not p ≡ true → drop i file ≡ behind false (drop from file)
    unfolding behind
    stops e = rw (inv, drop-cons file i 0, sym says ∙ not-true p e, behind)

    goes_on : not p ≡ false → (c : Bool) → c ≡ commented comment (get_or file i 0) → behind false (drop from file) ≡ behind c (drop (i + 1) file)
    unfolding behind
    goes_on e c f = rw (inv, f, add-one, drop-cons file i 0, sym says ∙ not-false p e, behind)

  none_left : length file ≤ i → drop (length file) file ≡ behind false (drop from file)
  unfolding behind
  none_left h = rw (inv, drop_of_length-le file h, drop_of_length-le file (le_refl (length file)))

pub returns-then-not-passed : goal.returns-then-not-passed
returns-then-not-passed c = search (stops, rules)

pub loop-i-preserved : goal.loop-i-preserved
loop-i-preserved c = search (goes_on, rules)

pub returns : goal.returns
returns c = search (none_left, rules)
