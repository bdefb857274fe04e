-- Whole numbers up to 2 ^ 53 are exact as f64: `Whole n x z` says that the float x is the integer z, and sums, differences and products of
-- such are whole again. `WholeTests` compares them. Assumes nothing.
use mathlib.Core.Path.{◌≡◌, refl, sym, ap, ◌∙◌, subst}
use mathlib.Core.Bool.{Bool, true, false, not, cond}
use Prim.Native.Nat.{ℕ, suc, ◌+◌, ◌-◌, ◌*◌, ◌^◌, ◌≤◌, ◌<◌}
use native.Mathlib.Nat.{le_trans, le_of_eq, le_of_lt, lt_of_mul-lt-mul_right, le_of_mul-le-mul_right, eq_of_mul-eq-mul_right, le_refl, le_antisymm, add-le-add, mul-one, one-mul, mul_comm, mul-sub, mul_assoc, mul-mul-mul_comm, mul-pos, mul-le-mul_right}
use native.Mathlib.Omega.{arith}
use lib.Dec.{T, leb, ltb, leb→le, ltb→lt, nltb→le}
use lib.Pow.{pow_pos}
use lib.IntN.{ℤ, pos, negsuc, neg_ℤ, nat_abs, ◌+ℤ◌, ◌-ℤ◌, ◌*ℤ◌, neg_ℤ-neg_ℤ, neg_ℤ-+ℤ, +ℤ_comm}
use lib.Ieee.{Float, nan, inf, fin, binary64, up, down, round, neg, sum, add, sub, mul, of_int, of_bits, is_nan, unlike}
use lib.Ieee.Fits.{down_pos}
use lib.Ieee.Exact.{HasValue}
use lib.Ieee.Back.{round_whole}
use lib.Ieee.Scale.{round_same}
use Rattle.laws.proofs.Integers.{abs_neg, abs_add_le, abs_mul_le}
use Rattle.laws.proofs.Ring.{add_pn, neg_pn, eq_pn, neg_ℤ_*ℤ, *ℤ_neg_ℤ}
use Rattle.laws.proofs.Finite.{Big}

-- ---- definitions

-- a number with a sign; -0 and +0 are both 0
abbrev pub signed : Bool → ℕ → ℤ
signed true n = neg_ℤ (pos n)
signed false n = pos n

pub abs_signed : (s : Bool) (n : ℕ) → nat_abs (signed s n) ≡ n
abs_signed true n = abs_neg (pos n)
abs_signed false n = refl

abbrev pub Equals : Float → ℤ → Type 0
Equals nan z = ⊥
Equals (inf s) z = ⊥
Equals (fin s m e) z = (k : ℕ) × (z ≡ signed s k) × (m * up e ≡ k * down e)

-- the float x is the integer z, which is n at most in size
pub record Whole (n : ℕ) (x : Float) (z : ℤ) : Type 0 where
  pub equals : Equals x z
  pub bound : nat_abs z ≤ n

-- what is whole is finite: its integer is its sign and its size k
pub whole_cases : {n : ℕ} {x : Float} {z : ℤ} (Q : Float → ℤ → Type 0) → ((s : Bool) (m : ℕ) (e : ℤ) (k : ℕ) → m * up e ≡ k * down e → Q (fin s m e) (signed s k)) → Whole n x z → Q x z
whole_cases {x = nan} Q q w = absurd w.equals
whole_cases {x = inf s} Q q w = absurd w.equals
whole_cases {x = fin s m e} Q q w = subst (λ (y : ℤ). Q (fin s m e) y) (sym w.equals.1) (q s m e w.equals.0 w.equals.2)

pub whole_pairs : {m n : ℕ} {x y : Float} {a b : ℤ} (Q : Float → ℤ → Float → ℤ → Type 0)
    → ((s : Bool) (i : ℕ) (e : ℤ) (j : ℕ) → i * up e ≡ j * down e → (r : Bool) (p : ℕ) (d : ℤ) (k : ℕ) → p * up d ≡ k * down d → Q (fin s i e) (signed s j) (fin r p d) (signed r k))
    → Whole m x a → Whole n y b → Q x a y b
whole_pairs {y} {b} Q q v w = whole_cases (λ x a. Q x a y b) (λ s i e j h. whole_cases (λ y b. Q (fin s i e) (signed s j) y b) (λ r p d k g. q s i e j h r p d k g) w) v

-- ---- a fraction that is the whole number k, rounded

equals_of : (x : Float) (s : Bool) (k : ℕ) → HasValue x s k 1 → Equals x (signed s k)
equals_of nan s k v = v
equals_of (inf t) s k v = v
equals_of (fin t m e) s k v = (k, ap (λ (u : Bool). signed u k) (sym v.0), sym (mul-one (m * up e)) ∙ v.1)

round_equals : (s : Bool) (a c k : ℕ) → 0 < c → a ≡ k * c → k ≤ 2 ^ 53 → Equals (round binary64 s a c) (signed s k)
round_equals s a c k C h l =
    equals_of (round binary64 s a c) s k
    (subst (λ (x : Float). HasValue x s k 1) (sym (round_same binary64 s a c k 1 C (pow_pos 0) (mul-one a ∙ h))) (round_whole binary64 s k l))

pub of_int_whole : (z : ℤ) {n : ℕ} → nat_abs z ≤ n → T (leb n (2 ^ 53)) → Whole n (of_int binary64 z) z
unfolding of_int
of_int_whole z {n} h t = record { equals = go z h; bound = h }
  where
    go : (z : ℤ) → nat_abs z ≤ n → Equals (of_int binary64 z) z
    go (pos k) h = round_equals false k 1 k (pow_pos 0) (sym (mul-one k)) (le_trans h (leb→le n (2 ^ 53) t))
    go (negsuc k) h = round_equals true (suc k) 1 (suc k) (pow_pos 0) (sym (mul-one (suc k))) (le_trans h (leb→le n (2 ^ 53) t))

-- ---- the operations. The last argument says that the result's bound is at most 2 ^ 53: `tt` proves it at numbers

pub neg_whole : {n : ℕ} {x : Float} {z : ℤ} → Whole n x z → Whole n (neg x) (neg_ℤ z)
unfolding neg
neg_whole {z} w = record { equals = whole_cases (λ x z. Equals (neg x) (neg_ℤ z)) go w; bound = le_trans (le_of_eq (abs_neg z)) w.bound }
  where
    go : (s : Bool) (m : ℕ) (e : ℤ) (k : ℕ) → m * up e ≡ k * down e → Equals (neg (fin s m e)) (neg_ℤ (signed s k))
    go true m e k h = (k, neg_ℤ-neg_ℤ (pos k), h)
    go false m e k h = (k, refl, h)

signed_mul : (s t : Bool) (j k : ℕ) → signed (unlike s t) (j * k) ≡ signed s j *ℤ signed t k
signed_mul true true j k = sym (neg_ℤ_*ℤ (pos j) (neg_ℤ (pos k)) ∙ ap neg_ℤ (*ℤ_neg_ℤ (pos j) (pos k)) ∙ neg_ℤ-neg_ℤ (pos (j * k)))
signed_mul true false j k = sym (neg_ℤ_*ℤ (pos j) (pos k))
signed_mul false true j k = sym (*ℤ_neg_ℤ (pos j) (pos k))
signed_mul false false j k = refl

mul_equals : (s : Bool) (i : ℕ) (e : ℤ) (j : ℕ) → i * up e ≡ j * down e → (r : Bool) (p : ℕ) (d : ℤ) (k : ℕ) → p * up d ≡ k * down d
    → nat_abs (signed s j *ℤ signed r k) ≤ 2 ^ 53 → Equals (mul binary64 (fin s i e) (fin r p d)) (signed s j *ℤ signed r k)
unfolding mul
mul_equals s i e j h r p d k g l =
    subst (λ (z : ℤ). Equals (mul binary64 (fin s i e) (fin r p d)) z) (signed_mul s r j k)
    (round_equals (unlike s r) (i * up e * (p * up d)) (down e * down d) (j * k) (mul-pos (down_pos e) (down_pos d))
    (rw (h, g) (mul-mul-mul_comm j (down e) k (down d)))
    (le_trans (le_of_eq (sym (abs_signed (unlike s r) (j * k)) ∙ ap nat_abs (signed_mul s r j k))) l))

pub mul_whole : {m n : ℕ} {x y : Float} {a b : ℤ} → Whole m x a → Whole n y b → T (leb (m * n) (2 ^ 53)) → Whole (m * n) (mul binary64 x y) (a *ℤ b)
mul_whole {m} {n} {a} {b} v w t =
    let l = abs_mul_le a b v.bound w.bound in
    record { equals = whole_pairs (λ x a y b. nat_abs (a *ℤ b) ≤ 2 ^ 53 → Equals (mul binary64 x y) (a *ℤ b)) mul_equals v w (le_trans l (leb→le (m * n) (2 ^ 53) t)); bound = l }

-- a sum of two fractions with one denominator: of equal signs, or the difference of the sizes with the sign of the larger
pos_neg : (j k : ℕ) → k ≤ j → pos (j - k) ≡ pos j +ℤ neg_ℤ (pos k)
pos_neg j k h = eq_pn (pos (j - k)) (pos j +ℤ neg_ℤ (pos k)) (omega (arith, add_pn (pos j) (neg_ℤ (pos k)), neg_pn (pos k)))

neg_pos : (j k : ℕ) → k ≤ j → neg_ℤ (pos (j - k)) ≡ neg_ℤ (pos j) +ℤ pos k
neg_pos j k h = eq_pn (neg_ℤ (pos (j - k))) (neg_ℤ (pos j) +ℤ pos k) (omega (arith, add_pn (neg_ℤ (pos j)) (pos k), neg_pn (pos j), neg_pn (pos (j - k))))

sum_equals : (s : Bool) (a : ℕ) (r : Bool) (b c j k : ℕ) → 0 < c → a ≡ j * c → b ≡ k * c → j + k ≤ 2 ^ 53 → Equals (sum binary64 s a r b c) (signed s j +ℤ signed r k)
unfolding sum
sum_equals s a r b c j k C h g l = go s r
  where
    rounded : (s : Bool) (a i : ℕ) (z : ℤ) → a ≡ i * c → i ≤ j + k → signed s i ≡ z → Equals (round binary64 s a c) z
    rounded s a i z h o e = subst (λ (y : ℤ). Equals (round binary64 s a c) y) e (round_equals s a c i C h (le_trans o l))

    together : a + b ≡ (j + k) * c
    together = omega arith

    apart : (a b j k : ℕ) → a ≡ j * c → b ≡ k * c → a - b ≡ (j - k) * c
    apart a b j k h g = rw (h, g, mul_comm (j - k) c, mul-sub c j k, mul_comm c j, mul_comm c k)

    smaller : a < b → j ≤ k
    smaller o = le_of_lt (lt_of_mul-lt-mul_right c (rw (← h, ← g) o))

    larger : b ≤ a → k ≤ j
    larger o = le_of_mul-le-mul_right (rw (← h, ← g) o) C

    by_order : (t : Bool) (x y : Float) (z : ℤ) → (T t → Equals x z) → (T (not t) → Equals y z) → Equals (cond t x y) z
    by_order true x y z p q = p tt
    by_order false x y z p q = q tt

    -- the first is negative, and at least as large: at equal sizes the sum is +0
    first_negative : (u : Bool) → (T (not u) → a ≤ b) → b ≤ a → Equals (round binary64 u (a - b) c) (neg_ℤ (pos j) +ℤ pos k)
    first_negative true n o = rounded true (a - b) (j - k) (neg_ℤ (pos j) +ℤ pos k) (apart a b j k h g) (omega arith) (neg_pos j k (larger o))
    first_negative false n o =
        let e : a ≡ b = le_antisymm (n tt) o in
        let i : j ≡ k = eq_of_mul-eq-mul_right c C j k (sym h ∙ e ∙ g) in
        rounded false (a - b) (j - k) (neg_ℤ (pos j) +ℤ pos k) (apart a b j k h g) (omega arith) (rw i (pos_neg k k (le_refl k) ∙ +ℤ_comm (pos k) (neg_ℤ (pos k))))

    go : (s r : Bool) → Equals (sum binary64 s a r b c) (signed s j +ℤ signed r k)
    go true true = rounded true (a + b) (j + k) (neg_ℤ (pos j) +ℤ neg_ℤ (pos k)) together (le_refl (j + k)) (neg_ℤ-+ℤ (pos j) (pos k))
    go false false = rounded false (a + b) (j + k) (pos (j + k)) together (le_refl (j + k)) refl
    go false true =
        by_order (ltb a b) (round binary64 true (b - a) c) (round binary64 false (a - b) c) (pos j +ℤ neg_ℤ (pos k))
        (λ t. rounded true (b - a) (k - j) (pos j +ℤ neg_ℤ (pos k)) (apart b a k j g h) (omega arith) (neg_pos k j (smaller (ltb→lt a b t)) ∙ +ℤ_comm (neg_ℤ (pos k)) (pos j)))
        (λ t. rounded false (a - b) (j - k) (pos j +ℤ neg_ℤ (pos k)) (apart a b j k h g) (omega arith) (pos_neg j k (larger (nltb→le a b t))))
    go true false =
        by_order (ltb a b) (round binary64 false (b - a) c) (round binary64 (ltb b a) (a - b) c) (neg_ℤ (pos j) +ℤ pos k)
        (λ t. rounded false (b - a) (k - j) (neg_ℤ (pos j) +ℤ pos k) (apart b a k j g h) (omega arith) (pos_neg k j (smaller (ltb→lt a b t)) ∙ +ℤ_comm (pos k) (neg_ℤ (pos j))))
        (λ t. first_negative (ltb b a) (nltb→le b a) (nltb→le a b t))

add_equals : (s : Bool) (i : ℕ) (e : ℤ) (j : ℕ) → i * up e ≡ j * down e → (r : Bool) (p : ℕ) (d : ℤ) (k : ℕ) → p * up d ≡ k * down d
    → nat_abs (signed s j) + nat_abs (signed r k) ≤ 2 ^ 53 → Equals (add binary64 (fin s i e) (fin r p d)) (signed s j +ℤ signed r k)
unfolding add
add_equals s i e j h r p d k g l =
    sum_equals s (i * up e * down d) r (p * up d * down e) (down e * down d) j k (mul-pos (down_pos e) (down_pos d))
    (rw h (mul_assoc j (down e) (down d)))
    (rw (g, mul_assoc k (down d) (down e), mul_comm (down d) (down e)))
    (omega (arith, abs_signed s j, abs_signed r k))

pub add_whole : {m n : ℕ} {x y : Float} {a b : ℤ} → Whole m x a → Whole n y b → T (leb (m + n) (2 ^ 53)) → Whole (m + n) (add binary64 x y) (a +ℤ b)
add_whole {m} {n} {a} {b} v w t = record {
  equals = whole_pairs (λ x a y b. nat_abs a + nat_abs b ≤ 2 ^ 53 → Equals (add binary64 x y) (a +ℤ b)) add_equals v w (le_trans (add-le-add v.bound w.bound) (leb→le (m + n) (2 ^ 53) t));
  bound = abs_add_le a b v.bound w.bound;
}

pub sub_whole : {m n : ℕ} {x y : Float} {a b : ℤ} → Whole m x a → Whole n y b → T (leb (m + n) (2 ^ 53)) → Whole (m + n) (sub binary64 x y) (a -ℤ b)
unfolding sub
sub_whole v w t = add_whole v (neg_whole w) t

-- ---- what is whole, among the floats

pub whole_number : {n : ℕ} {x : Float} {z : ℤ} → Whole n x z → is_nan x ≡ false
unfolding is_nan
whole_number w = whole_cases (λ x z. is_nan x ≡ false) (λ s m e k h. refl) w

-- one that the code has as a literal: 0.0
pub zero_whole : Whole 0 (of_bits binary64 0) (pos 0)
unfolding of_bits
zero_whole = record { equals = (0, refl, refl); bound = le_refl 0 }

pub whole_big : {n : ℕ} {x : Float} {z : ℤ} → Whole n x z → 0 < nat_abs z → Big x
whole_big w = whole_cases (λ x z. 0 < nat_abs z → Big x) (λ s i e j h l. record { at_least = go s i e j h l }) w
  where
    go : (s : Bool) (i : ℕ) (e : ℤ) (j : ℕ) → i * up e ≡ j * down e → 0 < nat_abs (signed s j) → down e ≤ i * up e
    go s i e j h l = le_trans (le_of_eq (sym (one-mul (down e)))) (le_trans (mul-le-mul_right (down e) (le_trans l (le_of_eq (abs_signed s j)))) (le_of_eq (sym h)))
