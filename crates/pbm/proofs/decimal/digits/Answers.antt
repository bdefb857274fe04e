-- Each digit is a step of the definition; a size past 512 may stand for another, since with more digits both stay there.
use Prim.Native.Nat.{ℕ, suc, ◌+◌, ◌-◌, ◌*◌, ◌≤◌, ◌<◌, min}
use mathlib.Core.Bool.{Bool, true, false, not}
use mathlib.Core.List.{List, [], ◌∷◌}
use mathlib.Core.Path.{◌≡◌, refl, sym, ◌∙◌}
use native.Mathlib.Numerals.{add-one}
use native.Mathlib.Omega.{arith}
use lib.ListN.{length, get_or, drop, length-drop, drop_of_length-le}
use lib.Seq.{drop-cons}
use borrow.Author.Rules.{rules}
use borrow.Author.Tests.{not-true, not-false}
use Rattle.pbm.specs.Header.{digit, digits_from}
use Rattle.pbm.specs.inside.Places.{size_at}
use Rattle.pbm.specs.declared.decimal.Size.{Size}
use Rattle.pbm.proofs.decimal.digits.Goals as goal

module _ (file : List ℕ) where
  same_size : (m n : ℕ) → min m 513 ≡ min n 513 → (bs : List ℕ) → size_at file (digits_from m bs) ≡ size_at file (digits_from n bs)
  unfolding digits_from
  same_size m n e [] = rw e
  same_size m n e (b ∷ bs) = go (digit b) (same_size (m * 10 + (b - 48)) (n * 10 + (b - 48)) (omega arith) bs)
    where
      go : (t : Bool) → size_at file (digits_from (m * 10 + (b - 48)) bs) ≡ size_at file (digits_from (n * 10 + (b - 48)) bs)
          → size_at file (elim t [ true ↦ digits_from (m * 10 + (b - 48)) bs | false ↦ record { value = m; rest = b ∷ bs } ])
          ≡ size_at file (elim t [ true ↦ digits_from (n * 10 + (b - 48)) bs | false ↦ record { value = n; rest = b ∷ bs } ])
      go true more = more
      go false more = rw e

module _ (file : List ℕ) (from value i : ℕ)
    (inv : size_at file (digits_from 0 (drop from file)) ≡ size_at file (digits_from value (drop i file))) where
  -- the digits end at `i`
  stopped : (end : ℕ) → end ≡ i → i ≤ length file → value ≤ 513 → digits_from value (drop i file) ≡ record { value = value; rest = drop i file }
      → ◌≡◌ {A = Size} (record { value = value; end = end }) (size_at file (digits_from 0 (drop from file)))
  stopped end there l small e =
      let v : min value 513 ≡ value = omega arith in
      let k : length file - length (drop i file) ≡ i = omega (arith, length-drop i file) in
      rw (inv, e, v, k, there)

  module _ (h : i < length file) (r : Bool) (says : r ≡ digit (get_or file i 0)) where
    ends : not r ≡ true → value ≤ 513 → ◌≡◌ {A = Size} (record { value = value; end = i }) (size_at file (digits_from 0 (drop from file)))
    unfolding digits_from
    ends e small =
        let stop : digits_from value (drop i file) ≡ record { value = value; rest = drop i file }
        = rw (drop-cons file i 0, sym says ∙ not-true r e, digits_from) in
        stopped i refl (omega arith) small stop

    goes_on : not r ≡ false → (v : ℕ) → v ≡ min (value * 10 + (get_or file i 0 - 48)) 513
        → size_at file (digits_from 0 (drop from file)) ≡ size_at file (digits_from v (drop (i + 1) file))
    unfolding digits_from
    goes_on e v f =
        rw (inv, add-one, drop-cons file i 0, sym says ∙ not-false r e, digits_from)
        (same_size file (value * 10 + (get_or file i 0 - 48)) v (omega arith) (drop (suc i) file))

  none_left : length file ≡ i → value ≤ 513 → ◌≡◌ {A = Size} (record { value = value; end = length file }) (size_at file (digits_from 0 (drop from file)))
  unfolding digits_from
  none_left l small =
      let none : drop i file ≡ [] = drop_of_length-le file (omega arith) in
      let stop : digits_from value (drop i file) ≡ record { value = value; rest = drop i file } = rw none in
      stopped (length file) l (omega arith) small stop

pub returns-then-not-digit : goal.returns-then-not-digit
returns-then-not-digit c = search (ends, rules)

pub loop-i-preserved : goal.loop-i-preserved
loop-i-preserved c = (search rules, search (goes_on, rules))

pub returns : goal.returns
returns c =
    let e : length c.args.file.now ≡ c.loop-i.i = omega arith in
    none_left c.args.file.now c.args.from c.loop-i.value c.loop-i.i c.loop-i.invariant.1 e c.loop-i.invariant.0
