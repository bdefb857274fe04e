use Prim.Native.Nat.{ℕ, ◌≤◌, ◌<◌, ◌+◌, ◌^◌}
use mathlib.Core.List.{List}
use mathlib.Core.Path.{◌≡◌, sym}
use native.Mathlib.Numerals.{add-one}
use native.Mathlib.Omega.{arith}
use mir.Syntax.{w32}
use mir.Val.{of_z, to_z}
use mir.ValLaws.{to_z-of_z}
use lib.IntN.{ℤ, pos}
use lib.ListN.{length, take, get_or, set}
use lib.Seq.{take_all, take-suc, length-take-le}
use lib.Signed.{mag}
use borrow.Author.Rules.{rules, sfits_of}
use Rattle.laws.specs.Lists.{over}
use Rattle.laws.proofs.Lists.{over_push, over_nil}
use Rattle.reduce.proofs.keep.keep_all.Goals as goal

begun : (points out : List ℤ) → out ≡ over (take 0 points) out
begun points out = sym (over_nil out)

module _ (points out₀ out : List ℤ) (i : ℕ) (inv : out ≡ over (take i points) out₀) where
  -- a value is stored by its bits
  stored : i < length points → length points ≤ length out₀ → mag (get_or points i (pos 0)) < 2 ^ 31 →
      set out i (to_z w32 (of_z w32 (get_or points i (pos 0)))) ≡ over (take (i + 1) points) out₀
  stored h k fits =
      let l : i ≤ length points = omega arith in
      let m : i < length out₀ = omega arith in
      rw (
        to_z-of_z w32 (get_or points i (pos 0)) (sfits_of fits),
        inv,
        over_push (take i points) out₀ i (get_or points i (pos 0)) (length-take-le i points l) m,
        add-one,
        take-suc points i (pos 0),
      )

  all_stored : length points ≤ i → out ≡ over points out₀
  all_stored k = rw (inv, take_all i points k)

pub loop-i-init : goal.loop-i-init
loop-i-init c = search (begun, rules)

pub loop-i-preserved : goal.loop-i-preserved
loop-i-preserved c = search (stored, rules)

pub returns : goal.returns
returns c = search (all_stored, rules)
