use Rattle.std.proofs.Common.{◌≡◌, ℕ, zero, suc, ◌+◌, ◌-◌, ◌/◌, ◌^◌, ◌<◌, ◌≤◌, length, arith, length-append}
use borrow.Author.Tests.{lt-ltb, le-ltb}
use Rattle.std.proofs.Math.Nat.{pow-suc}
use Rattle.texts.specs.Text.{decimal_digits}
use Rattle.texts.proofs.decimal.places.Goals as goal

length_more : (m rest : ℕ) → 10 ≤ rest → length (decimal_digits (suc m) rest) ≡ length (decimal_digits m (rest / 10)) + 1
unfolding decimal_digits
length_more m rest h = rw (le-ltb rest 10 h, length-append)

length_one : (m rest : ℕ) → rest < 10 → length (decimal_digits (suc m) rest) ≡ 1
unfolding decimal_digits
length_one m rest h = rw (lt-ltb rest 10 h)

-- two digits or more are left
some_left : (m rest : ℕ) → rest < 10 ^ suc m → 10 ≤ rest → 0 < m
some_left zero rest h l = absurd (omega arith)
some_left (suc m) rest h l = omega arith

-- where `m` more digits may follow, one turn of the loop
turn : (l k m rest : ℕ) → k + m ≡ 20 → 10 ≤ rest → rest < 10 ^ suc m → l ≡ k + length (decimal_digits (suc m) rest) →
    (k + 1 ≤ 20) × (rest / 10 < 10 ^ m) × (l ≡ k + 1 + length (decimal_digits m (rest / 10)))
turn l k m rest e h b inv = (omega (arith, some_left m rest b h), omega (arith, b, pow-suc 10 m), omega (arith, length_more m rest h))

pub loop-rest-preserved : goal.loop-rest-preserved
loop-rest-preserved c =
    let k = c.loop-rest.k in
    let s : 21 - k ≡ suc (20 - k) = omega arith in
    let e : 21 - (k + 1) ≡ 20 - k = omega arith in
    rw e (turn _ k (20 - k) c.loop-rest.rest (omega arith) c.loop-rest-test.true (rw s at c.loop-rest.invariant.1) (rw s at c.loop-rest.invariant.2))

pub returns : goal.returns
returns c =
    let s : 21 - c.loop-rest.k ≡ suc (20 - c.loop-rest.k) = omega arith in
    (omega (arith, rw s at c.loop-rest.invariant.2, length_one (20 - c.loop-rest.k) c.loop-rest.rest c.loop-rest-test.false), omega arith)
