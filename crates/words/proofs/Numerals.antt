-- Digits read one after the other: what those from a place on say decides what all say. Assumes nothing.
use Rattle.std.proofs.Common.{ℕ, suc, ◌≡◌, ◌+◌, ◌*◌, ◌^◌, ◌≤◌, ◌<◌, Bool, true, false, ◌&&◌, List, [], ◌∷◌, length, drop, get_or, ltb, Option, Some, None, refl, ap, ◌∙◌, add-one, drop-cons, arith}
use Rattle.std.specs.Option.{unwrap_or}
use Rattle.std.proofs.lemmas.Bool.Decides.{nat_tests}
use borrow.Author.Tests.{lt-ltb, le-ltb, le-leb}
use lib.ListN.{drop_of_length-le}
use native.Mathlib.Nat.{mul-le-mul_left, pow-suc, pow-le-pow_right, add-zero}
use Rattle.std.specs.Prelude.{if◌then◌else◌}
use Rattle.words.specs.Digits.{digit_of, in_base, all_digits, value}
use Rattle.words.specs.Hexadecimal.{hex_of}
use Rattle.words.specs.inside.Numbers.{number_from}

-- a digit is below 16
pub digit_small : (b d : ℕ) → digit_of b ≡ Some d → d < 16
unfolding digit_of
digit_small b d e = grind (arith, nat_tests)

-- more digits say no less
value_grows : (base n : ℕ) (word : List ℕ) → 0 < base → n ≤ value base n word
unfolding value
value_grows base n [] h = omega arith
value_grows base n (x ∷ word) h =
    let m : n * 1 ≤ n * base = mul-le-mul_left n (omega arith) in
    omega (arith, value_grows base (n * base + unwrap_or (digit_of x) 0) word h)

last_fails : (a b : Bool) → b ≡ false → a && b ≡ false
last_fails true b e = e
last_fails false b e = refl

-- a number too large stays too large
too_large : (base n : ℕ) (word : List ℕ) → 0 < base → 18446744073709551616 ≤ n → number_from base n word ≡ None
unfolding number_from
too_large base n word h l =
    let f : ltb (value base n word) 18446744073709551616 ≡ false = le-ltb (value base n word) 18446744073709551616 (omega (arith, value_grows base n word h)) in
    rw (last_fails (all_digits base word) (ltb (value base n word) 18446744073709551616) f)

-- a digit in front
more : (base n x d : ℕ) (xs : List ℕ) → digit_of x ≡ Some d → d < base → number_from base n (x ∷ xs) ≡ number_from base (n * base + d) xs
unfolding number_from all_digits value
more base n x d xs is small =
    let v : value base n (x ∷ xs) ≡ value base (n * base + d) xs = ap (λ (o : Option ℕ). value base (n * base + unwrap_or o 0) xs) is in
    rw (v, is, lt-ltb d base small)

-- what stands at a place is no digit of the base; or it is one, and the rest decides
module _ (base n : ℕ) (word : List ℕ) (i : ℕ) where
  module _ (h : i < length word) where
    pub no_digit : in_base base (digit_of (get_or word i 0)) ≡ false → number_from base n (drop i word) ≡ None
    unfolding number_from all_digits
    no_digit e = rw (drop-cons word i 0, e)

    module _ (d : ℕ) (is : digit_of (get_or word i 0) ≡ Some d) (small : d < base) where
      pub next_digit : number_from base n (drop i word) ≡ number_from base (n * base + d) (drop (i + 1) word)
      next_digit = rw (add-one, drop-cons word i 0) (more base n (get_or word i 0) d _ is small)

      pub no_room : 0 < base → 18446744073709551616 ≤ n * base + d → number_from base n (drop i word) ≡ None
      no_room b m = next_digit ∙ too_large base (n * base + d) (drop (i + 1) word) b m

  -- past the last, all are read
  pub all_read : length word ≤ i → n < 18446744073709551616 → number_from base n (drop i word) ≡ Some n
  unfolding number_from all_digits value
  all_read e h = rw (drop_of_length-le word e, lt-ltb n 18446744073709551616 h)

pub ruleset digit_laws = (no_digit, next_digit, no_room, all_read)

-- 16 hexadecimal digits say what 64 bits hold
one_below : (o : Option ℕ) → ((d : ℕ) → o ≡ Some d → d < 16) → unwrap_or o 0 < 16
one_below None f = omega arith
one_below (Some d) f = f d refl

value_below : (k n : ℕ) (word : List ℕ) → n < 16 ^ k → value 16 n word < 16 ^ (k + length word)
unfolding value
value_below k n [] h = rw add-zero h
value_below k n (x ∷ word) h =
    let d : unwrap_or (digit_of x) 0 < 16 = one_below (digit_of x) (digit_small x) in
    let more : n * 16 + unwrap_or (digit_of x) 0 < 16 ^ suc k = rw pow-suc (omega arith) in
    let e : k + suc (length word) ≡ suc k + length word = omega arith in
    rw e (value_below (suc k) (n * 16 + unwrap_or (digit_of x) 0) word more)

pub hexadecimal : (word : List ℕ) → 0 < length word → length word ≤ 16 → number_from 16 0 word ≡ hex_of word
unfolding number_from hex_of
hexadecimal word h l =
    let z : 0 + length word ≡ length word = omega arith in
    let b : value 16 0 word < 16 ^ length word = rw z at (value_below 0 0 word (omega arith)) in
    let m : 16 ^ length word ≤ 16 ^ 16 = pow-le-pow_right {n = 16} (omega arith) {i = length word} {j = 16} l in
    let f : ltb (value 16 0 word) 18446744073709551616 ≡ true = lt-ltb (value 16 0 word) 18446744073709551616 (omega arith) in
    rw (f, lt-ltb 0 (length word) h, le-leb (length word) 16 l) (by (all_digits 16 word))
  where
    by : (t : Bool) → (if t && true then Some (value 16 0 word) else None) ≡ (if t then Some (value 16 0 word) else None)
    by true = refl
    by false = refl
