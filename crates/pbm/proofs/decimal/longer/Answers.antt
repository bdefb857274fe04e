-- A digit is 48 at least.
use Prim.Native.Nat.{ℕ, ◌≤◌}
use mathlib.Core.Bool.{true}
use mathlib.Core.Path.{◌≡◌}
use lib.Dec.{leb}
use borrow.Author.Tests.{leb-true}
use Rattle.laws.proofs.Joined.{both_true}
use Rattle.pbm.specs.Header.{digit}
use Rattle.pbm.proofs.decimal.longer.Goals as goal

from_zero : (b : ℕ) → digit b ≡ true → 48 ≤ b
unfolding digit
from_zero b e = leb-true 48 b (both_true (leb 48 b) (leb b 57) e).0

pub overflow_sub-b : goal.overflow_sub-b
overflow_sub-b c = from_zero c.args.b c.requires.1
