use Prim.Native.Nat.{ℕ, ◌+◌, ◌<◌, ◌≤◌}
use mathlib.Core.Bool.{Bool, true, false}
use mathlib.Core.List.{List}
use mathlib.Core.Path.{◌≡◌, ◌∙◌}
use native.Mathlib.Omega.{arith}
use lib.IntN.{ℤ}
use Rattle.point.specs.declared.PointI32.{PointI32}
use Rattle.point.specs.inside.Written.{Left}
use Rattle.point.proofs.Written.{passed, taken}
use Rattle.reduce.specs.inside.Place.{placed, Picks}
use Rattle.reduce.proofs.keep.copy_those.Goals.{then-keeps, else-keeps}
use Rattle.reduce.proofs.keep.copy_those.Goals as goal

module _ (list : List ℤ) (from to : ℕ) (says : ℕ → Bool → Type 0) (rest : ℕ → List PointI32) (picks : Picks says list from to rest)
    (old : List ℤ) (kept k : ℕ) (out : List ℤ) (l : Left (rest 0) old kept (rest k) out) (h : from ≤ k) (i : k < to) (t : Bool) (p : says k t) where
  kept_one : t ≡ true → (now : List ℤ) → now ≡ placed list k kept out → Left (rest 0) old (kept + 1) (rest (k + 1)) now
  unfolding placed
  kept_one e now g = rw g (taken (passed l (picks k h i t p ∙ rw e)))

  dropped_one : t ≡ false → Left (rest 0) old kept (rest (k + 1)) out
  dropped_one e = passed l (picks k h i t p ∙ rw e)

pub loop-k-preserved : goal.loop-k-preserved
loop-k-preserved g c = elim c.if-keeps.branch [
  | then-keeps w ↦ record {
    there = omega arith;
    few = rw w.kept-is (omega arith);
    copied = λ rest picks begun.
        rw (w.kept-is, w.out-is)
        (kept_one _ _ _ _ rest picks _ _ _ _ (c.loop-k.invariant.copied rest picks begun) (omega arith) c.loop-k-test.true _ c.keeps.ensures w.if-keeps.true
        _ w.copy_point.ensures);
  }
  | else-keeps w ↦ record {
    there = omega arith;
    few = rw w.kept-is (omega arith);
    copied = λ rest picks begun.
        rw (w.kept-is, w.out-is)
        (dropped_one _ _ _ _ rest picks _ _ _ _ (c.loop-k.invariant.copied rest picks begun) (omega arith) c.loop-k-test.true _ c.keeps.ensures w.if-keeps.false);
  }
]
