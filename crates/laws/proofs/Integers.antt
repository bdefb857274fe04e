-- Bounds on the size of signed numbers, which show that a sum, a difference, a product or a quotient of `i32` or `i64` fits its type,
-- and what the tests of signed numbers in code say of them. Assumes nothing.
use mathlib.Core.Path.{◌≡◌, refl, sym, ap, ◌∙◌, subst}
use mathlib.Core.Bool.{Bool, true, false, not, cond, ◌&&◌, and-true}
use Prim.Native.Nat.{ℕ, zero, suc, ◌+◌, ◌*◌, ◌-◌, ◌/◌, ◌^◌, ◌≤◌, ◌<◌}
use native.Mathlib.Nat.{le_refl, le_of_eq, le_trans, lt_of_le_of_lt, mul-le-mul, mul-pos, zero-lt-suc, div-le_self}
use native.Mathlib.Omega.{arith}
use lib.Dec.{T, leb, ltb, leb-suc-suc, ltb→lt, nltb→le, leb→le}
use lib.IntN.{ℤ, pos, negsuc, neg_ℤ, nat_abs, sub_ℕ, ◌+ℤ◌, ◌-ℤ◌, ◌*ℤ◌}
use lib.Signed.{mag, quot_z, le_z, lt_z, ◌≤ℤ◌, ◌<ℤ◌, le_z_yes, lt_z_yes, lt_z_no}
use lib.Ieee.Bits.{is_true}
use mir.Syntax.{Width}
use mir.Val.{SFits, hbits, of_z, to_z}
use mir.ValLaws.{to_z-of_z}
use borrow.Author.Tests.{leb-true, leb-false, le-leb, lt-ltb, le-ltb, not-true, not-false}
use Rattle.laws.proofs.Joined.{both_true}

-- ---- the size of a result

-- `sub_ℕ a b`, which is a - b, by the two cases of the order
pub sub_ℕ_cases : (a b : ℕ) (Q : ℤ → Type 0) → (a < b → Q (negsuc (b - suc a))) → (b ≤ a → Q (pos (a - b))) → Q (sub_ℕ a b)
sub_ℕ_cases a b Q f g = go (ltb a b) (λ t. f (ltb→lt a b t)) (λ t. g (nltb→le a b t))
  where
    go : (c : Bool) → (T c → Q (negsuc (b - suc a))) → (T (not c) → Q (pos (a - b))) → Q (cond c (negsuc (b - suc a)) (pos (a - b)))
    go true f g = f tt
    go false f g = g tt

pub abs_neg : (a : ℤ) → nat_abs (neg_ℤ a) ≡ nat_abs a
abs_neg (pos zero) = refl
abs_neg (pos (suc n)) = refl
abs_neg (negsuc n) = refl

abs_sub_ℕ : (a b : ℕ) → nat_abs (sub_ℕ a b) ≤ a + b
abs_sub_ℕ a b = sub_ℕ_cases a b (λ z. nat_abs z ≤ a + b) (λ h. omega arith) (λ h. omega arith)

pub abs_add : (a b : ℤ) → nat_abs (a +ℤ b) ≤ nat_abs a + nat_abs b
abs_add (pos a) (pos b) = le_refl (a + b)
abs_add (pos a) (negsuc b) = abs_sub_ℕ a (suc b)
abs_add (negsuc a) (pos b) = omega (arith, abs_sub_ℕ b (suc a))
abs_add (negsuc a) (negsuc b) = omega arith

pub abs_sub : (a b : ℤ) → nat_abs (a -ℤ b) ≤ nat_abs a + nat_abs b
abs_sub a b = omega (arith, abs_add a (neg_ℤ b), abs_neg b)

pub abs_mul : (a b : ℤ) → nat_abs (a *ℤ b) ≡ nat_abs a * nat_abs b
abs_mul (pos a) (pos b) = refl
abs_mul (pos a) (negsuc b) = abs_neg (pos (a * suc b))
abs_mul (negsuc a) (pos b) = abs_neg (pos (suc a * b))
abs_mul (negsuc a) (negsuc b) = refl

-- division as code has it, toward zero; `quot_z a (pos 2)` is a half
pub abs_quot : (a b : ℤ) → nat_abs (quot_z a b) ≡ nat_abs a / nat_abs b
abs_quot (pos a) (pos b) = refl
abs_quot (pos a) (negsuc b) = abs_neg (pos (a / suc b))
abs_quot (negsuc a) (pos b) = abs_neg (pos (suc a / b))
abs_quot (negsuc a) (negsuc b) = refl

pub square : (a : ℤ) → a *ℤ a ≡ pos (nat_abs a * nat_abs a)
square (pos a) = refl
square (negsuc a) = refl

pub squares : (a b : ℤ) → a *ℤ a +ℤ b *ℤ b ≡ pos (nat_abs a * nat_abs a + nat_abs b * nat_abs b)
squares a b = rw (square a, square b)

pub abs_pos : (a : ℤ) → (a ≡ pos 0 → ⊥) → 0 < nat_abs a
abs_pos (pos zero) h = absurd (h refl)
abs_pos (pos (suc n)) h = zero-lt-suc n
abs_pos (negsuc n) h = zero-lt-suc n

-- the sum of two squares of which one is not 0
pub squares_pos : (a b : ℤ) → (a ≡ pos 0 → b ≡ pos 0 → ⊥) → 0 < nat_abs (a *ℤ a +ℤ b *ℤ b)
squares_pos (pos zero) b h = rw (squares (pos 0) b) (omega (arith, mul-pos (abs_pos b (h refl)) (abs_pos b (h refl))))
squares_pos (pos (suc n)) b h = rw (squares (pos (suc n)) b) (omega (arith, mul-pos (zero-lt-suc n) (zero-lt-suc n)))
squares_pos (negsuc n) b h = rw (squares (negsuc n) b) (omega (arith, mul-pos (zero-lt-suc n) (zero-lt-suc n)))

-- ---- bounds: that of a result is worked out from those of its parts

pub abs_add_le : (a b : ℤ) {m n : ℕ} → nat_abs a ≤ m → nat_abs b ≤ n → nat_abs (a +ℤ b) ≤ m + n
abs_add_le a b h k = omega (arith, abs_add a b)

pub abs_sub_le : (a b : ℤ) {m n : ℕ} → nat_abs a ≤ m → nat_abs b ≤ n → nat_abs (a -ℤ b) ≤ m + n
abs_sub_le a b h k = omega (arith, abs_sub a b)

pub abs_mul_le : (a b : ℤ) {m n : ℕ} → nat_abs a ≤ m → nat_abs b ≤ n → nat_abs (a *ℤ b) ≤ m * n
abs_mul_le a b h k = le_trans (le_of_eq (abs_mul a b)) (mul-le-mul h k)

pub abs_quot_le : (a b : ℤ) {m : ℕ} → nat_abs a ≤ m → nat_abs (quot_z a b) ≤ m
abs_quot_le a b h = le_trans (le_of_eq (abs_quot a b)) (le_trans (div-le_self (nat_abs a) (nat_abs b)) h)

pub abs_half_le : (a : ℤ) {m : ℕ} → nat_abs a ≤ m → nat_abs (quot_z a (pos 2)) ≤ m / 2
abs_half_le a h = omega (arith, abs_quot a (pos 2))

-- ---- what fits a signed type

mag_le_abs : (z : ℤ) → mag z ≤ nat_abs z
mag_le_abs (pos n) = le_refl n
mag_le_abs (negsuc n) = omega arith

pub sfits_abs : {w : Width} {z : ℤ} → nat_abs z < 2 ^ hbits w → SFits w z
sfits_abs {w} {z} h = record { sfits = lt_of_le_of_lt (mag_le_abs z) h }

-- two signed numbers with the same bits, as `==` compares them
pub of_z_inj : (w : Width) (a b : ℤ) → SFits w a → SFits w b → of_z w a ≡ of_z w b → a ≡ b
of_z_inj w a b h k e = sym (to_z-of_z w a h) ∙ ap (to_z w) e ∙ to_z-of_z w b k

-- ---- what code of one operation asks: that the result fits, and that it is within a bound. Where the bounds are numbers, `tt` proves the
-- last premise, and `search (signed_laws, needs)` finds all of it, since each other premise is a fact in hand

fits_within : (w : Width) (z : ℤ) {m : ℕ} → nat_abs z ≤ m → T (ltb m (2 ^ hbits w)) → SFits w z
fits_within w z {m} h t = sfits_abs (lt_of_le_of_lt h (ltb→lt m (2 ^ hbits w) t))

pub neg_sfits : {w : Width} (a : ℤ) {m : ℕ} → nat_abs a ≤ m → T (ltb m (2 ^ hbits w)) → SFits w (pos 0 -ℤ a)
neg_sfits {w} a h t = fits_within w (pos 0 -ℤ a) (le_trans (abs_sub (pos 0) a) (omega arith)) t

pub add_sfits : {w : Width} (a b : ℤ) {m n : ℕ} → nat_abs a ≤ m → nat_abs b ≤ n → T (ltb (m + n) (2 ^ hbits w)) → SFits w (a +ℤ b)
add_sfits {w} a b h k t = fits_within w (a +ℤ b) (abs_add_le a b h k) t

pub sub_sfits : {w : Width} (a b : ℤ) {m n : ℕ} → nat_abs a ≤ m → nat_abs b ≤ n → T (ltb (m + n) (2 ^ hbits w)) → SFits w (a -ℤ b)
sub_sfits {w} a b h k t = fits_within w (a -ℤ b) (abs_sub_le a b h k) t

pub mul_sfits : {w : Width} (a b : ℤ) {m n : ℕ} → nat_abs a ≤ m → nat_abs b ≤ n → T (ltb (m * n) (2 ^ hbits w)) → SFits w (a *ℤ b)
mul_sfits {w} a b h k t = fits_within w (a *ℤ b) (abs_mul_le a b h k) t

pub quot_sfits : {w : Width} (a b : ℤ) {m : ℕ} → nat_abs a ≤ m → T (ltb m (2 ^ hbits w)) → SFits w (quot_z a b)
quot_sfits {w} a b h t = fits_within w (quot_z a b) (abs_quot_le a b h) t

wider : {a m n : ℕ} → a ≤ m → T (leb m n) → a ≤ n
wider {m} {n} h t = le_trans h (leb→le m n t)

pub neg_within : (a : ℤ) {m r : ℕ} → nat_abs a ≤ m → T (leb m r) → nat_abs (pos 0 -ℤ a) ≤ r
neg_within a h t = wider (le_trans (abs_sub (pos 0) a) (omega arith)) t

pub add_within : (a b : ℤ) {m n r : ℕ} → nat_abs a ≤ m → nat_abs b ≤ n → T (leb (m + n) r) → nat_abs (a +ℤ b) ≤ r
add_within a b h k t = wider (abs_add_le a b h k) t

pub sub_within : (a b : ℤ) {m n r : ℕ} → nat_abs a ≤ m → nat_abs b ≤ n → T (leb (m + n) r) → nat_abs (a -ℤ b) ≤ r
sub_within a b h k t = wider (abs_sub_le a b h k) t

pub mul_within : (a b : ℤ) {m n r : ℕ} → nat_abs a ≤ m → nat_abs b ≤ n → T (leb (m * n) r) → nat_abs (a *ℤ b) ≤ r
mul_within a b h k t = wider (abs_mul_le a b h k) t

pub half_within : (a : ℤ) {m r : ℕ} → nat_abs a ≤ m → T (leb (m / 2) r) → nat_abs (quot_z a (pos 2)) ≤ r
half_within a h t = wider (abs_half_le a h) t

pub ruleset signed_laws = (neg_sfits, add_sfits, sub_sfits, mul_sfits, quot_sfits, neg_within, add_within, sub_within, mul_within, half_within)

-- ---- what a test of two signed numbers tells, and the test from what is known: as `borrow.Author.Tests` has them for ℕ

leb_not : (a b : ℕ) → leb a b ≡ not (ltb b a)
leb_not a b = go (leb a b) refl
  where
    go : (t : Bool) → leb a b ≡ t → t ≡ not (ltb b a)
    go true e = sym (ap not (le-ltb b a (leb-true a b e)))
    go false e = sym (ap not (lt-ltb b a (leb-false a b e)))

pub le_z_not : (a b : ℤ) → le_z a b ≡ not (lt_z b a)
le_z_not (pos a) (pos b) = leb_not a b
le_z_not (pos a) (negsuc b) = refl
le_z_not (negsuc a) (pos b) = refl
le_z_not (negsuc a) (negsuc b) = leb_not b a

pub le_z_true : (a b : ℤ) → le_z a b ≡ true → a ≤ℤ b
le_z_true a b e = le_z_yes (subst T (sym e) tt)

pub lt_z_true : (a b : ℤ) → lt_z a b ≡ true → a <ℤ b
lt_z_true a b e = lt_z_yes (subst T (sym e) tt)

pub lt_z_false : (a b : ℤ) → lt_z a b ≡ false → b ≤ℤ a
lt_z_false a b e = lt_z_no (subst (λ (t : Bool). T (not t)) (sym e) tt)

pub le_z_false : (a b : ℤ) → le_z a b ≡ false → b <ℤ a
le_z_false a b e = lt_z_true b a (not-false (lt_z b a) (sym (le_z_not a b) ∙ e))

pub le_le_z : {a b : ℤ} → a ≤ℤ b → le_z a b ≡ true
le_le_z {a} {b} h = is_true (le_z a b) h.le

pub lt_lt_z : {a b : ℤ} → a <ℤ b → lt_z a b ≡ true
lt_lt_z {a} {b} h = is_true (lt_z a b) h.lt

pub le_lt_z : {a b : ℤ} → b ≤ℤ a → lt_z a b ≡ false
le_lt_z {a} {b} h = not-true (lt_z a b) (sym (le_z_not b a) ∙ le_le_z h)

pub lt_le_z : {a b : ℤ} → b <ℤ a → le_z a b ≡ false
lt_le_z {a} {b} h = le_z_not a b ∙ ap not (lt_lt_z h)

-- ---- a range test: -n ≤ v and v ≤ n, where n is k + 1. A coordinate's has k = 16382, n = 16383 and `refl`

module _ (k n : ℕ) (e : suc k ≡ n) (v : ℤ) where
  pub range_is : (le_z (negsuc k) v && le_z v (pos n)) ≡ leb (nat_abs v) n
  range_is = go v
    where
      go : (v : ℤ) → (le_z (negsuc k) v && le_z v (pos n)) ≡ leb (nat_abs v) n
      go (pos m) = refl
      go (negsuc m) = and-true (leb m k) ∙ sym (leb-suc-suc m k) ∙ ap (leb (suc m)) e

  pub range_true : (le_z (negsuc k) v && le_z v (pos n)) ≡ true → nat_abs v ≤ n
  range_true h = leb-true (nat_abs v) n (sym range_is ∙ h)

  pub in_range_lem : nat_abs v ≤ n → (le_z (negsuc k) v && le_z v (pos n)) ≡ true
  in_range_lem h = range_is ∙ le-leb (nat_abs v) n h

  pub range_low : nat_abs v ≤ n → le_z (negsuc k) v ≡ true
  range_low h = (both_true (le_z (negsuc k) v) (le_z v (pos n)) (in_range_lem h)).0

  pub range_high : nat_abs v ≤ n → le_z v (pos n) ≡ true
  range_high h = (both_true (le_z (negsuc k) v) (le_z v (pos n)) (in_range_lem h)).1
