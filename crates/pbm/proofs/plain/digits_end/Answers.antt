-- What is left of the digits from i on ends where all of them do.
use Prim.Native.Nat.{ℕ, ◌+◌, ◌-◌, ◌≤◌, ◌<◌}
use mathlib.Core.Bool.{Bool, true, false, not, ◌||◌}
use mathlib.Core.List.{List}
use mathlib.Core.Option.{Option as Maybe}
use mathlib.Core.Path.{◌≡◌, sym, ap, ◌∙◌}
use native.Mathlib.Omega.{arith}
use lib.Dec.{eqb}
use lib.ListN.{length, get_or, drop, length-drop}
use borrow.Author.Rules.{rules}
use borrow.Author.Tests.{not-true, not-false}
use Rattle.std.specs.Prelude.{Option, Some, None}
use Rattle.pbm.specs.Header.{white}
use Rattle.pbm.specs.Raster.{digits_in}
use Rattle.pbm.specs.inside.Places.{place_of, behind_digits}
use Rattle.pbm.proofs.Digits.{white_blank, zero_or_one, neither, none_left, blank_at, pixel_at, wrong_at, behind_onto}
use Rattle.pbm.proofs.plain.digits_end.Goals as goal

module _ (file : List ℕ) (i left : ℕ) (end : Maybe (List ℕ)) (inv : behind_digits (digits_in left (drop i file)) ≡ end) where
  module _ (more : 0 < left) where
    file_ends : length file ≤ i → (r : Option ℕ) → r ≡ None → r ≡ place_of file end
    file_ends h r f = f ∙ ap (λ (e : Maybe (List ℕ)). place_of file e) (sym (ap behind_digits (none_left file i left more h)) ∙ inv)

    module _ (h : i < length file) (b : ℕ) (there : b ≡ get_or file i 0) (p : Bool) (says : p ≡ (eqb b 48 || eqb b 49)) where
      one_digit : p ≡ true → behind_digits (digits_in (left - 1) (drop (i + 1) file)) ≡ end
      one_digit e =
          sym (behind_onto (eqb b 49) (digits_in (left - 1) (drop (i + 1) file)))
          ∙ sym (ap behind_digits (pixel_at file i h left (eqb b 49) more (rw (← there) (zero_or_one b (sym says ∙ e)))))
          ∙ inv

      module _ (no : p ≡ false) (w : Bool) (said : w ≡ white b) where
        one_blank : not w ≡ false → behind_digits (digits_in left (drop (i + 1) file)) ≡ end
        one_blank e = sym (ap behind_digits (blank_at file i h left more (rw (← there) (white_blank b (sym said ∙ not-false w e))))) ∙ inv

        other : not w ≡ true → None ≡ place_of file end
        other e =
            ap (λ (e : Maybe (List ℕ)). place_of file e)
            (sym (ap behind_digits (wrong_at file i h left more (rw (← there) (neither b (sym said ∙ not-true w e) (sym says ∙ no))))) ∙ inv)

  all_there : left ≤ 0 → i ≤ length file → Some i ≡ place_of file end
  unfolding digits_in
  all_there e h =
      let z : left ≡ 0 = omega arith in
      let k : i ≡ length file - length (drop i file) = rw length-drop (omega arith) in
      ap (λ (n : ℕ). Some n) k ∙ ap (λ (e : Maybe (List ℕ)). place_of file e) (sym (ap (λ (n : ℕ). behind_digits (digits_in n (drop i file))) z) ∙ inv)

pub returns-in_err-b : goal.returns-in_err-b
returns-in_err-b c = search (file_ends, rules)

pub loop-left-preserved-then-is_pixel : goal.loop-left-preserved-then-is_pixel
loop-left-preserved-then-is_pixel c = (search rules, search (one_digit, rules))

pub returns-then-not-white : goal.returns-then-not-white
returns-then-not-white c = search (other, rules)

pub loop-left-preserved : goal.loop-left-preserved
loop-left-preserved c = (search rules, search (one_blank, rules))

pub returns : goal.returns
returns c = search (all_there, rules)
