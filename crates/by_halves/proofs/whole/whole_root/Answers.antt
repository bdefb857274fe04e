-- A turn that sets its bit: it tries 2 ^ (k - 1), half of 2 ^ k.
use Rattle.std.proofs.Common.{◌≡◌, ℕ, ◌+◌, ◌-◌, ◌*◌, ◌^◌, ◌<◌, ◌≤◌, ap, ◌∙◌, arith}
use native.Mathlib.Nat.{pow-succ'}
use Rattle.std.proofs.lemmas.Nat.{one_shl}
use Rattle.sqrt.specs.inside.Whole.{Found}
use Rattle.sqrt.proofs.whole.BitByBit.{bit_set}
use Rattle.by_halves.proofs.whole.whole_root.Goals as goal

with_bit : (n root left k bit : ℕ) → 0 < k → bit ≡ 2 ^ (k - 1) → root + 2 ^ k ≤ 2 ^ 14 →
    Found n root left (2 ^ k) → (root * 2 + bit) * bit ≤ left →
    (root + bit + 2 ^ (k - 1) ≤ 2 ^ 14) × Found n (root + bit) (left - (root * 2 + bit) * bit) (2 ^ (k - 1))
with_bit n root left k bit some is room found h =
    let half : 2 ^ k ≡ 2 * 2 ^ (k - 1) = ap (λ (j : ℕ). 2 ^ j) (omega arith) ∙ pow-succ' 2 (k - 1) in
    rw is (omega (arith, half), bit_set n root left (2 ^ (k - 1)) (rw half at found) (rw is at h))

pub loop-k-preserved-then-next-left : goal.loop-k-preserved-then-next-left
loop-k-preserved-then-next-left c =
    let l = c.loop-k in
    let is = one_shl (l.k - 1) 64 (omega arith) in
    with_bit c.args.n l.root l.left l.k _ (omega arith) is l.invariant.0 l.invariant.1 c.if-next-left.true
