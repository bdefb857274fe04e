-- The two parts of a span, by which of them is shorter. Assumes nothing.
use Prim.Native.Nat.{ℕ, ◌-◌, ◌≤◌, ◌<◌}
use mathlib.Core.Bool.{Bool, true, false}
use mathlib.Core.Path.{◌≡◌, refl, sym, subst}
use lib.Dec.{leb}
use borrow.Author.Tests.{le-leb, lt-leb, leb-true, leb-false}
use Rattle.split.specs.declared.waiting.Parts.{Parts}
use Rattle.split.specs.inside.Parts.{parts_of}

abbrev pub part : ℕ → ℕ → ℕ → ℕ → Parts
part a b c d = record { first = a; last = b; from = c; to = d }

module _ (f i l : ℕ) where
  pub first_shorter : i - f ≤ l - i → part f i i l ≡ parts_of f i l
  unfolding parts_of
  first_shorter h = rw (le-leb (i - f) (l - i) h)

  pub last_shorter : l - i < i - f → part i l f i ≡ parts_of f i l
  unfolding parts_of
  last_shorter h = rw (lt-leb (i - f) (l - i) h)

  pub by_parts : (P : Parts → Type 0) → (i - f ≤ l - i → P (part f i i l)) → (l - i < i - f → P (part i l f i)) → (r : Parts) → r ≡ parts_of f i l → P r
  by_parts P a b r e = subst P (sym e) (go (leb (i - f) (l - i)) refl)
    where
      go : (c : Bool) → leb (i - f) (l - i) ≡ c → P (parts_of f i l)
      go true q = let h = leb-true (i - f) (l - i) q in subst P (first_shorter h) (a h)
      go false q = let h = leb-false (i - f) (l - i) q in subst P (last_shorter h) (b h)
