-- When a list and a buffer fit the two calls that keep spans waiting. Assumes nothing.
use Prim.Native.Nat.{ℕ, ◌/◌, ◌≤◌, ◌<◌}
use mathlib.Core.Bool.{true, false, or-true}
use mathlib.Core.List.{List}
use mathlib.Core.Path.{◌≡◌}
use native.Mathlib.Omega.{arith}
use lib.Dec.{ltb}
use lib.IntN.{ℤ}
use lib.ListN.{length}
use borrow.Author.Tests.{lt-ltb, le-ltb}
use Rattle.laws.specs.Outcome.{Outcome}
use Rattle.split.specs.Visits.{unfit}

-- how many distances were computed, and what the buffer then holds
abbrev pub counted : {A : Type 0} → ℕ → List A → Outcome ℕ (List A)
counted n m = record { answer = n; out = m }

module _ {A : Type 0} (points : List ℤ) (m : List A) where
  pub too_many : 4096 < length points / 2 → unfit points m ≡ true
  too_many h = rw (lt-ltb 4096 (length points / 2) h)

  pub too_short : length m < length points / 2 → unfit points m ≡ true
  too_short h = rw (lt-ltb (length m) (length points / 2) h) (or-true (ltb 4096 (length points / 2)))

  pub fits_all : length points / 2 ≤ 4096 → length points / 2 ≤ length m → unfit points m ≡ false
  fits_all h l = rw (le-ltb 4096 (length points / 2) h, le-ltb (length m) (length points / 2) l)

  pub fits_none : length points / 2 ≡ 0 → unfit points m ≡ false
  fits_none h = fits_all (omega arith) (omega arith)
