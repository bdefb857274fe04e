-- A mask of high bits drops what is below them.
use Prim.Native.Nat.{ℕ, ◌+◌, ◌-◌, ◌*◌, ◌/◌, ◌%◌, ◌^◌, ◌≤◌, ◌<◌}
use mathlib.Core.Path.{◌≡◌, sym, ap, subst, ◌∙◌}
use native.Mathlib.Omega.{arith}
use lib.Bits.{bit_and, and_high}
use lib.Pow.{shr_mod}
use borrow.Author.Rules.{rules}
use Rattle.laws.proofs.Bits.{high_mask}
use Rattle.pbm.proofs.raw.cleared.Goals as goal

masked : (byte n : ℕ) → byte < 2 ^ 8 → n ≤ 7 → bit_and byte (255 * 2 ^ n % 256) ≡ byte / 2 ^ n * 2 ^ n
masked byte n small few =
    let e : 8 - n + n ≡ 8 = omega arith in
    ap (bit_and byte) (high_mask 8 n (omega arith) ∙ ap (λ (k : ℕ). 2 ^ k - 2 ^ n) (sym e))
    ∙ and_high byte (8 - n) n
    ∙ ap (λ (k : ℕ). k * 2 ^ n) (shr_mod (8 - n) n (subst (λ (k : ℕ). byte < 2 ^ k) (sym e) small))

pub returns : goal.returns
returns c = search (masked, rules)
