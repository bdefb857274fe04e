-- Whether a sum leaves 64 bits: what the definition says, and what the checked sum answers. Assumes nothing.
use Prim.Native.Nat.{◌^◌, ◌<◌}
use mathlib.Core.Bool.{Bool, true, false}
use mathlib.Core.Path.{◌≡◌, refl, sym, ◌∙◌}
use native.Mathlib.Omega.{arith}
use mir.Syntax.{w64}
use mir.Val.{SFits, of_z, to_z}
use mir.ValLaws.{to_z-of_z}
use lib.Dec.{leb}
use lib.IntN.{ℤ, pos, negsuc, ◌+ℤ◌}
use lib.Signed.{mag}
use borrow.Author.Rules.{sfits_of}
use borrow.Author.Tests.{leb-true, le-leb}
use Rattle.std.specs.Prelude.{Option, Some, None, Result, Ok, Err, SomeIff, ok_or}
use Rattle.laws.proofs.Joined.{both_true}
use Rattle.point.specs.declared.refusal.Refusal.{Refusal}
use Rattle.point.specs.declared.refusal.Refusal.TheVariants.{NoRoom}
use Rattle.areas.specs.Totals.{fits}

-- ---- the test of the definition

fits_held : (z : ℤ) → fits z ≡ true → SFits w64 z
unfolding fits
fits_held (pos n) e = record { sfits = omega (arith, leb-true n 9223372036854775807 e) }
fits_held (negsuc n) e = record { sfits = omega (arith, leb-true n 9223372036854775807 (both_true (leb n 9223372036854775807) true e).0) }

held_fits : (z : ℤ) → SFits w64 z → fits z ≡ true
unfolding fits
held_fits (pos n) f = le-leb n 9223372036854775807 (omega (arith, f.sfits))
held_fits (negsuc n) f = rw (le-leb n 9223372036854775807 (omega (arith, f.sfits)))

not_held : (z : ℤ) → (SFits w64 z → ⊥) → fits z ≡ false
not_held z n = go (fits z) refl
  where
    go : (t : Bool) → fits z ≡ t → t ≡ false
    go true e = absurd (n (fits_held z e))
    go false e = refl

same_value : (w z : ℤ) → ◌≡◌ {A = Result ℤ Refusal} (Ok w) (Ok z) → w ≡ z
same_value w z e = cc

-- ---- a number is handed on by its bits

abbrev bits : ℤ → ℤ
bits z = to_z w64 (of_z w64 z)

module _ (x y : ℤ) (hx : mag x < 2 ^ 63) (hy : mag y < 2 ^ 63) where
  sum_by_bits : bits x +ℤ bits y ≡ x +ℤ y
  sum_by_bits = rw (to_z-of_z w64 x (sfits_of hx), to_z-of_z w64 y (sfits_of hy))

  -- the checked sum of two numbers, or that there is no room for it
  pub stays : (o : Option ℤ) → SomeIff o (SFits w64 (bits x +ℤ bits y)) (bits x +ℤ bits y) →
      (r : Result ℤ Refusal) → r ≡ ok_or o NoRoom → (z : ℤ) → r ≡ Ok z →
      (fits (x +ℤ y) ≡ true) × (bits z ≡ x +ℤ y)
  stays None says r made z e = cc
  stays (Some w) says r made z e =
      let f : SFits w64 (x +ℤ y) = rw sum_by_bits at says.0 in
      let is : z ≡ x +ℤ y = sym (same_value w z (sym made ∙ e)) ∙ says.1 ∙ sum_by_bits in
      (held_fits (x +ℤ y) f, rw is (to_z-of_z w64 (x +ℤ y) f))

  pub leaves : (o : Option ℤ) → SomeIff o (SFits w64 (bits x +ℤ bits y)) (bits x +ℤ bits y) →
      (r : Result ℤ Refusal) → r ≡ ok_or o NoRoom → (e : Refusal) → r ≡ Err e →
      (fits (x +ℤ y) ≡ false) × (e ≡ NoRoom)
  leaves None says r made e was = (not_held (x +ℤ y) (λ f. says (rw sum_by_bits f)), (cc))
  leaves (Some w) says r made e was = cc
