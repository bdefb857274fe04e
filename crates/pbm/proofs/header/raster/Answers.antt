-- The byte in front picks a line of the definition.
use Prim.Native.Nat.{ℕ, suc, ◌+◌, ◌-◌, ◌≤◌, ◌<◌}
use mathlib.Core.Bool.{Bool, true, false}
use mathlib.Core.List.{List}
use mathlib.Core.Path.{◌≡◌, sym, ap, ◌∙◌}
use native.Mathlib.Numerals.{add-one}
use native.Mathlib.Omega.{arith}
use lib.ListN.{length, get_or, drop, length-drop, drop_of_length-le}
use lib.Seq.{drop-cons}
use borrow.Author.Rules.{rules}
use Rattle.std.specs.Prelude.{Option, Some, None}
use Rattle.pbm.specs.Header.{white, hash, past_line, raster_in}
use Rattle.pbm.specs.inside.Places.{place_of}
use Rattle.pbm.proofs.header.raster.Goals as goal

module _ (file : List ℕ) (from : ℕ) where
  past_end : length file ≤ from → (r : Option ℕ) → r ≡ None → r ≡ place_of file (raster_in (drop from file))
  unfolding raster_in
  past_end h r e = rw (e, drop_of_length-le)

  module _ (l : from < length file) (b : ℕ) (there : b ≡ get_or file from 0) (w : Bool) (says : w ≡ white b) where
    blank : w ≡ true → Some (from + 1) ≡ place_of file (raster_in (drop from file))
    unfolding raster_in
    blank e =
        let k : from + 1 ≡ length file - length (drop (suc from) file) = omega (arith, length-drop (suc from) file) in
        rw (drop-cons file from 0, ap white (sym there) ∙ sym says ∙ e, raster_in) (ap (λ (n : ℕ). Some n) k)

    module _ (e : w ≡ false) (h : Bool) (said : h ≡ hash b) where
      comment : h ≡ true → (end : ℕ) → end ≡ length file - length (past_line (drop (from + 1) file)) → Some end ≡ place_of file (raster_in (drop from file))
      unfolding raster_in
      comment f end k = rw (k, add-one, drop-cons file from 0, ap white (sym there) ∙ sym says ∙ e, ap hash (sym there) ∙ sym said ∙ f, raster_in)

      neither : h ≡ false → None ≡ place_of file (raster_in (drop from file))
      unfolding raster_in
      neither f = rw (drop-cons file from 0, ap white (sym there) ∙ sym says ∙ e, ap hash (sym there) ∙ sym said ∙ f, raster_in)

pub returns-in_err-b : goal.returns-in_err-b
returns-in_err-b c = search (past_end, rules)

pub returns-then-white : goal.returns-then-white
returns-then-white c = search (blank, rules)

pub returns-then-hash : goal.returns-then-hash
returns-then-hash c = search (comment, rules)

pub returns : goal.returns
returns c = search (neither, rules)
