-- What the values of a list say so far, where a loop judges them one by one. Assumes nothing.
use Prim.Native.Nat.{◌%◌}
use mathlib.Core.Bool.{Bool, true, not}
use mathlib.Core.List.{List}
use mathlib.Core.Path.{◌≡◌}
use lib.ListN.{length}
use borrow.Author.Tests.{eq-eqb, ne_eqb}
use Rattle.std.specs.List.{list_all}
use Rattle.point.specs.Limits.{bad_list}

module _ {A : Type 0} (fine : A → Bool) (xs : List A) where
  pub odd : (length xs % 2 ≡ 0 → ⊥) → true ≡ bad_list fine xs
  unfolding bad_list
  odd h = rw (ne_eqb _ _ h)

  pub even : (said : Bool) → length xs % 2 ≡ 0 → said ≡ list_all fine xs → not said ≡ bad_list fine xs
  unfolding bad_list
  even said e says = rw (eq-eqb _ _ e, says)
