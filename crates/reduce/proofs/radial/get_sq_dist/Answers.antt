-- Within the limits the differences, their squares and the sum of these fit, and so each is its bits.
use Prim.Native.Nat.{◌≤◌}
use mathlib.Core.Path.{◌≡◌, ◌∙◌, refl}
use native.Mathlib.Omega.{arith}
use mir.Syntax.{w32}
use mir.Val.{SFits, of_z, to_z}
use mir.ValLaws.{to_z-of_z}
use lib.IntN.{ℤ, nat_abs, ◌+ℤ◌, ◌-ℤ◌, ◌*ℤ◌}
use Rattle.laws.proofs.Integers.{sfits_abs, abs_sub_le, abs_mul_le, mul_sfits, add_sfits}
use Rattle.reduce.specs.Radial.{sq_dist}
use Rattle.reduce.proofs.radial.get_sq_dist.Goals as goal

abbrev bits : ℤ → ℤ
bits z = to_z w32 (of_z w32 z)

same : (z : ℤ) → nat_abs z ≤ 32766 → bits z ≡ z
same z h = to_z-of_z w32 z (sfits_abs (omega arith))

module _ (a b : ℤ) (h : nat_abs a ≤ 16383) (k : nat_abs b ≤ 16383) where
  apart : bits (bits a -ℤ bits b) ≡ a -ℤ b
  apart = rw (same a (omega arith), same b (omega arith)) (same (a -ℤ b) (abs_sub_le a b h k))

  within : nat_abs ((a -ℤ b) *ℤ (a -ℤ b)) ≤ 1073610756
  within = abs_mul_le (a -ℤ b) (a -ℤ b) (abs_sub_le a b h k) (abs_sub_le a b h k)

  fits : SFits w32 ((a -ℤ b) *ℤ (a -ℤ b))
  fits = mul_sfits (a -ℤ b) (a -ℤ b) (abs_sub_le a b h k) (abs_sub_le a b h k) tt

  squared : SFits w32 (bits (bits a -ℤ bits b) *ℤ bits (bits a -ℤ bits b))
  squared = rw apart fits

  stored : bits (bits (bits a -ℤ bits b) *ℤ bits (bits a -ℤ bits b)) ≡ (a -ℤ b) *ℤ (a -ℤ b)
  stored = rw apart (to_z-of_z w32 ((a -ℤ b) *ℤ (a -ℤ b)) fits)

module _ (a b c d : ℤ) (h : nat_abs a ≤ 16383) (k : nat_abs b ≤ 16383) (i : nat_abs c ≤ 16383) (j : nat_abs d ≤ 16383) where
  sum_fits : SFits w32 ((a -ℤ b) *ℤ (a -ℤ b) +ℤ (c -ℤ d) *ℤ (c -ℤ d))
  sum_fits = add_sfits ((a -ℤ b) *ℤ (a -ℤ b)) ((c -ℤ d) *ℤ (c -ℤ d)) (within a b h k) (within c d i j) tt

pub overflow_mul-dx : goal.overflow_mul-dx
overflow_mul-dx c = squared c.args.p.x c.args.q.x c.requires.0.across c.requires.1.across

pub overflow_mul-dy : goal.overflow_mul-dy
overflow_mul-dy c = squared c.args.p.y c.args.q.y c.requires.0.down c.requires.1.down

pub overflow_add-dx : goal.overflow_add-dx
overflow_add-dx c =
    let x = stored c.args.p.x c.args.q.x c.requires.0.across c.requires.1.across in
    let y = stored c.args.p.y c.args.q.y c.requires.0.down c.requires.1.down in
    rw (x, y) (sum_fits c.args.p.x c.args.q.x c.args.p.y c.args.q.y c.requires.0.across c.requires.1.across c.requires.0.down c.requires.1.down)

pub returns : goal.returns
unfolding sq_dist
returns c =
    let x = stored c.args.p.x c.args.q.x c.requires.0.across c.requires.1.across in
    let y = stored c.args.p.y c.args.q.y c.requires.0.down c.requires.1.down in
    let both = sum_fits c.args.p.x c.args.q.x c.args.p.y c.args.q.y c.requires.0.across c.requires.1.across c.requires.0.down c.requires.1.down in
    c.from.ensures ∙ rw (x, y, to_z-of_z w32 _ both) refl
