-- Where nothing is refused there is room, and what an answer counts has its place. Assumes nothing.
use Prim.Native.Nat.{ℕ, ◌*◌, ◌≤◌}
use mathlib.Core.Bool.{false}
use mathlib.Core.List.{List}
use mathlib.Core.Option.{Option, some, none}
use mathlib.Core.Path.{◌≡◌, refl}
use native.Mathlib.Omega.{arith}
use lib.IntN.{ℤ}
use lib.ListN.{length}
use borrow.Author.Tests.{ltb-false}
use Rattle.std.specs.Prelude.{Result}
use Rattle.laws.specs.Outcome.{Outcome}
use Rattle.point.specs.Limits.{places_for}
use Rattle.point.specs.Outcomes.{outcome}
use Rattle.point.specs.Points.{points, count}
use Rattle.point.specs.Refusals.{count_of}
use Rattle.point.specs.declared.refusal.Refusal.{Refusal}
use Rattle.point.proofs.Flat.{length_points}
use Rattle.reduce.specs.Kept.{kept, short_for}
use Rattle.reduce.proofs.Select.{kept_fits}

-- a refusal counts 0: what holds of that, and of what is counted where nothing is refused, holds of every answer
pub counts : {B : Type 0} (P : ℕ → Type 0) (o : Option Refusal) (old : B) (done : Outcome (Result ℕ Refusal) B) → P 0 → (o ≡ none → P (count_of done.answer)) →
    P (count_of (outcome o old done).answer)
unfolding outcome
counts P (some q) old done z f = z
counts P none old done z f = f refl

pub places : (n m : ℕ) (out : List ℤ) → short_for n out ≡ false → m ≤ places_for n → m * 2 ≤ length out
places n m out e h = omega (arith, ltb-false (length out) (places_for n * 2) e)

-- marks keep no more points of a list than there are places for
pub marks_fit : (marks : List ℕ) (list : List ℤ) → length (kept marks (points list)) ≤ places_for (count list)
marks_fit marks list = rw (length_points list) at (kept_fits marks (points list))
