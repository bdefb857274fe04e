-- Products of two numbers of `i32`, and a difference of two products, fit `i64`: no product is less than -(2 ^ 62 - 2 ^ 31), so a
-- difference stays below 2 ^ 63. Assumes nothing.
use Prim.Native.Nat.{suc, ◌+◌, ◌*◌, ◌≤◌}
use mathlib.Core.Logic.{⊎_elim}
use native.Mathlib.Nat.{mul-le-mul}
use native.Mathlib.Omega.{arith}
use mir.Syntax.{w32, w64}
use mir.Val.{SFits}
use lib.IntN.{ℤ, pos, negsuc, ◌-ℤ◌, ◌*ℤ◌}
use Rattle.laws.proofs.Integers.{sfits_abs}
use Rattle.laws.proofs.Ring.{P, N, abs_pn, one_zero_pn, neg_pn, sub_pn}

-- 2 ^ 62, and 2 ^ 62 - 2 ^ 31
product_pn : (a b : ℤ) → SFits w32 a → SFits w32 b → (P (a *ℤ b) ≤ 4611686018427387904) × (N (a *ℤ b) ≤ 4611686016279904256)
product_pn (pos a) (pos b) h k =
    let l : a ≤ 2147483647 = omega (arith, h.sfits) in
    let m : b ≤ 2147483647 = omega (arith, k.sfits) in
    (omega (arith, mul-le-mul l m), omega arith)
product_pn (pos a) (negsuc b) h k =
    let l : a ≤ 2147483647 = omega (arith, h.sfits) in
    let m : b + 1 ≤ 2147483648 = omega (arith, k.sfits) in
    (omega (arith, neg_pn (pos (a * suc b))), omega (arith, neg_pn (pos (a * suc b)), mul-le-mul l m))
product_pn (negsuc a) (pos b) h k =
    let l : a + 1 ≤ 2147483648 = omega (arith, h.sfits) in
    let m : b ≤ 2147483647 = omega (arith, k.sfits) in
    (omega (arith, neg_pn (pos (suc a * b))), omega (arith, neg_pn (pos (suc a * b)), mul-le-mul l m))
product_pn (negsuc a) (negsuc b) h k =
    let l : a + 1 ≤ 2147483648 = omega (arith, h.sfits) in
    let m : b + 1 ≤ 2147483648 = omega (arith, k.sfits) in
    (omega (arith, mul-le-mul l m), omega arith)

pub product_fits : (a b : ℤ) → SFits w32 a → SFits w32 b → SFits w64 (a *ℤ b)
product_fits a b h k = sfits_abs (omega (arith, product_pn a b h k, abs_pn (a *ℤ b)))

pub cross_fits : (a b c d : ℤ) → SFits w32 a → SFits w32 b → SFits w32 c → SFits w32 d → SFits w64 (a *ℤ b -ℤ c *ℤ d)
cross_fits a b c d ha hb hc hd =
    let p = product_pn a b ha hb in
    let q = product_pn c d hc hd in
    let s = sub_pn (a *ℤ b) (c *ℤ d) in
    let n = abs_pn (a *ℤ b -ℤ c *ℤ d) in
    sfits_abs (⊎_elim (λ z. omega arith) (λ z. omega arith) (one_zero_pn (a *ℤ b -ℤ c *ℤ d)))
