-- Each test picks a line of the definition.
use Prim.Native.Nat.{ℕ}
use mathlib.Core.Bool.{Bool, true, false, not, ◌||◌}
use mathlib.Core.List.{List}
use mathlib.Core.Option.{some, none}
use mathlib.Core.Path.{◌≡◌, sym, ◌∙◌}
use lib.ListN.{drop}
use borrow.Author.Rules.{rules}
use borrow.Author.Tests.{not-true, not-false}
use Rattle.std.specs.Prelude.{Some, None}
use Rattle.pbm.specs.Header.{white, hash, digit, begins, behind, digits_from, number_in, size_in}
use Rattle.pbm.specs.inside.Places.{size_at, size_of}
use Rattle.pbm.specs.declared.decimal.Size.{Size}
use Rattle.pbm.proofs.decimal.read_size.Goals as goal

module _ (file : List ℕ) (from : ℕ) (p : Bool) (says : p ≡ (begins white (drop from file) || begins hash (drop from file))) where
  not_parted : not p ≡ true → None ≡ size_of file (size_in (drop from file))
  not_parted e = rw nothing
    where
      nothing : size_in (drop from file) ≡ none
      nothing = unfold size_in in rw (sym says ∙ not-true p e, size_in)

  module _ (e : not p ≡ false) (at : ℕ) (place : drop at file ≡ behind false (drop from file)) (d : Bool) (said : d ≡ begins digit (drop at file)) where
    behind_it : size_in (drop from file) ≡ number_in (drop at file)
    unfolding size_in
    behind_it = rw (place, sym says ∙ not-false p e, size_in)

    no_digit : not d ≡ true → None ≡ size_of file (size_in (drop from file))
    no_digit f = rw (behind_it, nothing)
      where
        nothing : number_in (drop at file) ≡ none
        nothing = unfold number_in in rw (sym said ∙ not-true d f, number_in)

    size : not d ≡ false → (r : Size) → r ≡ size_at file (digits_from 0 (drop at file)) → Some r ≡ size_of file (size_in (drop from file))
    size f r g = rw (g, behind_it, number)
      where
        number : number_in (drop at file) ≡ some (digits_from 0 (drop at file))
        number = unfold number_in in rw (sym said ∙ not-false d f, number_in)

pub returns-then-not-parted : goal.returns-then-not-parted
returns-then-not-parted c = search (not_parted, rules)

pub returns-then-not-digit_at : goal.returns-then-not-digit_at
returns-then-not-digit_at c = search (no_digit, rules)

pub returns : goal.returns
returns c = search (size, rules)
