-- The first byte that ends a line is where the definition stops.
use Prim.Native.Nat.{ℕ, suc, ◌+◌, ◌-◌, ◌≤◌, ◌<◌}
use mathlib.Core.Bool.{Bool, true, false}
use mathlib.Core.List.{List}
use mathlib.Core.Path.{◌≡◌, sym, ◌∙◌}
use native.Mathlib.Numerals.{add-one}
use native.Mathlib.Omega.{arith}
use lib.ListN.{length, get_or, drop, length-drop, drop_of_length-le}
use lib.Seq.{drop-cons}
use borrow.Author.Rules.{rules}
use Rattle.pbm.specs.Header.{line_end, past_line}
use Rattle.pbm.proofs.blanks.past_line.Goals as goal

module _ (file : List ℕ) (from i : ℕ) (inv : past_line (drop from file) ≡ past_line (drop i file)) where
  module _ (h : i < length file) (r : Bool) (says : r ≡ line_end (get_or file i 0)) where
    ends : r ≡ true → i + 1 ≡ length file - length (past_line (drop from file))
    unfolding past_line
    ends e = rw (inv, drop-cons file i 0, sym says ∙ e, past_line) (omega (arith, length-drop (suc i) file))

    goes_on : r ≡ false → past_line (drop from file) ≡ past_line (drop (i + 1) file)
    unfolding past_line
    goes_on e = rw (inv, add-one, drop-cons file i 0, sym says ∙ e, past_line)

  none_left : length file ≤ i → length file ≡ length file - length (past_line (drop from file))
  unfolding past_line
  none_left h = rw (inv, drop_of_length-le file h) (omega arith)

pub returns-then-line_end : goal.returns-then-line_end
returns-then-line_end c = search (ends, rules)

pub loop-i-preserved : goal.loop-i-preserved
loop-i-preserved c = search (goes_on, rules)

pub returns : goal.returns
returns c = search (none_left, rules)
