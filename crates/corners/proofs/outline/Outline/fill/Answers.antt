-- One flag is stored after the other.
use Prim.Native.Nat.{ℕ, suc, ◌+◌, ◌-◌, ◌<◌, ◌≤◌}
use mathlib.Core.Bool.{Bool, not, ◌&&◌, ◌||◌}
use mathlib.Core.List.{List}
use mathlib.Core.Path.{◌≡◌, sym, ap, ◌∙◌}
use native.Mathlib.Numerals.{add-one}
use native.Mathlib.Omega.{arith}
use lib.ListN.{set}
use lib.Seq.{sets}
use borrow.Author.Rules.{rules}
use Rattle.corners.specs.Corners.{flag}
use Rattle.corners.specs.Neighbours.{is_end_at}
use Rattle.corners.specs.inside.Places.{same_flags}
use Rattle.corners.proofs.outline.Outline.fill.Goals as goal

module _ (closed : Bool) (m k : ℕ) (turned : Bool) where
  -- one is stored
  stored : (flags : List ℕ) (j : ℕ) → j < k → (t : Bool) → t ≡ ((not closed && is_end_at m j) || turned) → (v : ℕ) → v ≡ flag t →
      sets flags j (same_flags closed m turned j (k - j)) ≡ sets (set flags j v) (j + 1) (same_flags closed m turned (j + 1) (k - (j + 1)))
  unfolding same_flags
  stored flags j h t says v said =
      let n : k - j ≡ suc (k - suc j) = omega arith in
      ap (λ (l : ℕ). sets flags j (same_flags closed m turned j l)) n
      ∙ ap (λ (w : ℕ). sets (set flags j w) (suc j) (same_flags closed m turned (suc j) (k - suc j))) (sym (said ∙ ap flag says))
      ∙ ap (λ (l : ℕ). sets (set flags j v) l (same_flags closed m turned l (k - l))) (sym (add-one j))

  none_left : (old flags : List ℕ) (i j : ℕ) → sets old i (same_flags closed m turned i (k - i)) ≡ sets flags j (same_flags closed m turned j (k - j)) → k ≤ j →
      flags ≡ sets old i (same_flags closed m turned i (k - i))
  unfolding same_flags
  none_left old flags i j inv h =
      let n : k - j ≡ 0 = omega arith in
      sym (inv ∙ ap (λ (l : ℕ). sets flags j (same_flags closed m turned j l)) n)

pub loop-j-init : goal.loop-j-init
loop-j-init c = let h = c.from.ensures in let k = c.is_corner.ensures in search (stored, rules)

pub loop-j-preserved : goal.loop-j-preserved
loop-j-preserved c = c.loop-j.invariant ∙ search (stored, rules)

pub returns : goal.returns
returns c = search (none_left, rules)
