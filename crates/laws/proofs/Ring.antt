-- An integer as the difference of two naturals, so that a linear identity or order of integers is one call of `omega`; and the laws of
-- the ring and of its order that `lib.IntN` and `lib.Signed` lack, each proved that way. Assumes nothing.
use mathlib.Core.Path.{◌≡◌, refl, sym, ap, ◌∙◌}
use mathlib.Core.Logic.{◌⊎◌, inl, inr}
use mathlib.Core.Bool.{true, false}
use Prim.Native.Nat.{ℕ, zero, suc, ◌+◌, ◌*◌, ◌≤◌, ◌<◌}
use native.Mathlib.Nat.{mul-le-mul_right}
use native.Mathlib.Omega.{arith}
use lib.Dec.{T, leb→le, le→leb, ltb→lt, lt→ltb}
use lib.IntN.{ℤ, pos, negsuc, neg_ℤ, nat_abs, ◌+ℤ◌, ◌-ℤ◌, ◌*ℤ◌, *ℤ_comm}
use lib.Signed.{le_z, lt_z, ◌≤ℤ◌, ◌<ℤ◌}
use Rattle.laws.proofs.Integers.{sub_ℕ_cases, le_z_true, le_z_false, lt_z_true, lt_z_false}

-- ---- z is P z - N z, and one of the two is 0

abbrev pub P : ℤ → ℕ
P (pos n) = n
P (negsuc n) = 0

abbrev pub N : ℤ → ℕ
N (pos n) = 0
N (negsuc n) = suc n

pub abs_pn : (a : ℤ) → nat_abs a ≡ P a + N a
abs_pn (pos n) = omega arith
abs_pn (negsuc n) = omega arith

pub one_zero_pn : (a : ℤ) → (P a ≡ 0) ⊎ (N a ≡ 0)
one_zero_pn (pos n) = inr refl
one_zero_pn (negsuc n) = inl refl

-- ---- what `omega` is handed of each part of a term: the fact of a sum, of an opposite, of a difference, of a product

pub add_pn : (a b : ℤ) → P (a +ℤ b) + (N a + N b) ≡ N (a +ℤ b) + (P a + P b)
add_pn (pos a) (pos b) = omega arith
add_pn (pos a) (negsuc b) = sub_ℕ_cases a (suc b) (λ z. P z + (0 + suc b) ≡ N z + (a + 0)) (λ h. omega arith) (λ h. omega arith)
add_pn (negsuc a) (pos b) = sub_ℕ_cases b (suc a) (λ z. P z + (suc a + 0) ≡ N z + (0 + b)) (λ h. omega arith) (λ h. omega arith)
add_pn (negsuc a) (negsuc b) = omega arith

pub neg_pn : (a : ℤ) → (P (neg_ℤ a) ≡ N a) × (N (neg_ℤ a) ≡ P a)
neg_pn (pos zero) = (refl, refl)
neg_pn (pos (suc n)) = (refl, refl)
neg_pn (negsuc n) = (refl, refl)

pub sub_pn : (a b : ℤ) → P (a -ℤ b) + (N a + P b) ≡ N (a -ℤ b) + (P a + N b)
sub_pn a b = omega (arith, add_pn a (neg_ℤ b), neg_pn b)

pub mul_pn : (a b : ℤ) → P (a *ℤ b) + (P a * N b + N a * P b) ≡ N (a *ℤ b) + (P a * P b + N a * N b)
mul_pn (pos a) (pos b) = omega arith
mul_pn (pos a) (negsuc b) = omega (arith, neg_pn (pos (a * suc b)))
mul_pn (negsuc a) (pos b) = omega (arith, neg_pn (pos (suc a * b)))
mul_pn (negsuc a) (negsuc b) = omega arith

-- ---- and back: an equation and an order of integers, to and from one of naturals

pub eq_pn : (a b : ℤ) → P a + N b ≡ P b + N a → a ≡ b
eq_pn (pos a) (pos b) h = ap pos (omega arith)
eq_pn (pos a) (negsuc b) h = absurd (omega arith)
eq_pn (negsuc a) (pos b) h = absurd (omega arith)
eq_pn (negsuc a) (negsuc b) h = ap negsuc (omega arith)

le_to : (a b : ℤ) → T (le_z a b) → P a + N b ≤ P b + N a
le_to (pos a) (pos b) t = omega (arith, leb→le a b t)
le_to (pos a) (negsuc b) t = absurd t
le_to (negsuc a) (pos b) t = omega arith
le_to (negsuc a) (negsuc b) t = omega (arith, leb→le b a t)

lt_to : (a b : ℤ) → T (lt_z a b) → P a + N b < P b + N a
lt_to (pos a) (pos b) t = omega (arith, ltb→lt a b t)
lt_to (pos a) (negsuc b) t = absurd t
lt_to (negsuc a) (pos b) t = omega arith
lt_to (negsuc a) (negsuc b) t = omega (arith, ltb→lt b a t)

le_from : (a b : ℤ) → P a + N b ≤ P b + N a → T (le_z a b)
le_from (pos a) (pos b) h = le→leb a b (omega arith)
le_from (pos a) (negsuc b) h = absurd (omega arith)
le_from (negsuc a) (pos b) h = tt
le_from (negsuc a) (negsuc b) h = le→leb b a (omega arith)

lt_from : (a b : ℤ) → P a + N b < P b + N a → T (lt_z a b)
lt_from (pos a) (pos b) h = lt→ltb a b (omega arith)
lt_from (pos a) (negsuc b) h = absurd (omega arith)
lt_from (negsuc a) (pos b) h = tt
lt_from (negsuc a) (negsuc b) h = lt→ltb b a (omega arith)

pub le_pn : {a b : ℤ} → a ≤ℤ b → P a + N b ≤ P b + N a
le_pn {a} {b} h = le_to a b h.le

pub lt_pn : {a b : ℤ} → a <ℤ b → P a + N b < P b + N a
lt_pn {a} {b} h = lt_to a b h.lt

pub pn_le : (a b : ℤ) → P a + N b ≤ P b + N a → a ≤ℤ b
pn_le a b h = record { le = le_from a b h }

pub pn_lt : (a b : ℤ) → P a + N b < P b + N a → a <ℤ b
pn_lt a b h = record { lt = lt_from a b h }

-- ---- a test, as `omega` reads it by its bare name: `omega (arith, le_z_true_pn, lt_z_false_pn)`

pub le_z_true_pn : (a b : ℤ) → le_z a b ≡ true → P a + N b ≤ P b + N a
le_z_true_pn a b e = le_pn (le_z_true a b e)

pub le_z_false_pn : (a b : ℤ) → le_z a b ≡ false → P b + N a < P a + N b
le_z_false_pn a b e = lt_pn (le_z_false a b e)

pub lt_z_true_pn : (a b : ℤ) → lt_z a b ≡ true → P a + N b < P b + N a
lt_z_true_pn a b e = lt_pn (lt_z_true a b e)

pub lt_z_false_pn : (a b : ℤ) → lt_z a b ≡ false → P b + N a ≤ P a + N b
lt_z_false_pn a b e = le_pn (lt_z_false a b e)

-- ---- sums and opposites

pub +ℤ_left_comm : (a b c : ℤ) → a +ℤ (b +ℤ c) ≡ b +ℤ (a +ℤ c)
+ℤ_left_comm a b c = eq_pn (a +ℤ (b +ℤ c)) (b +ℤ (a +ℤ c)) (omega (arith, add_pn a (b +ℤ c), add_pn b c, add_pn b (a +ℤ c), add_pn a c))

-- ---- products. Each distributes: the fact of the sum, times P and N of the factor

module _ (a b c : ℤ) where
  pub +ℤ_*ℤ : (a +ℤ b) *ℤ c ≡ a *ℤ c +ℤ b *ℤ c
  +ℤ_*ℤ =
      eq_pn ((a +ℤ b) *ℤ c) (a *ℤ c +ℤ b *ℤ c)
      (omega (arith, ap (λ (x : ℕ). x * P c) (add_pn a b), ap (λ (x : ℕ). x * N c) (add_pn a b), mul_pn (a +ℤ b) c, mul_pn a c, mul_pn b c, add_pn (a *ℤ c) (b *ℤ c)))

  pub _ℤ_*ℤ : (a -ℤ b) *ℤ c ≡ a *ℤ c -ℤ b *ℤ c
  _ℤ_*ℤ =
      eq_pn ((a -ℤ b) *ℤ c) (a *ℤ c -ℤ b *ℤ c)
      (omega (arith, ap (λ (x : ℕ). x * P c) (sub_pn a b), ap (λ (x : ℕ). x * N c) (sub_pn a b), mul_pn (a -ℤ b) c, mul_pn a c, mul_pn b c, sub_pn (a *ℤ c) (b *ℤ c)))

  pub *ℤ_assoc : a *ℤ b *ℤ c ≡ a *ℤ (b *ℤ c)
  *ℤ_assoc =
      eq_pn (a *ℤ b *ℤ c) (a *ℤ (b *ℤ c))
      (omega (arith, mul_pn (a *ℤ b) c, mul_pn a (b *ℤ c), ap (λ (x : ℕ). x * P c) (mul_pn a b), ap (λ (x : ℕ). x * N c) (mul_pn a b), ap (λ (x : ℕ). x * P a) (mul_pn b c), ap (λ (x : ℕ). x * N a) (mul_pn b c)))

pub *ℤ_+ℤ : (a b c : ℤ) → a *ℤ (b +ℤ c) ≡ a *ℤ b +ℤ a *ℤ c
*ℤ_+ℤ a b c = rw (*ℤ_comm a (b +ℤ c), *ℤ_comm a b, *ℤ_comm a c) (+ℤ_*ℤ b c a)

pub *ℤ__ℤ : (a b c : ℤ) → a *ℤ (b -ℤ c) ≡ a *ℤ b -ℤ a *ℤ c
*ℤ__ℤ a b c = rw (*ℤ_comm a (b -ℤ c), *ℤ_comm a b, *ℤ_comm a c) (_ℤ_*ℤ b c a)

pub *ℤ_left_comm : (a b c : ℤ) → a *ℤ (b *ℤ c) ≡ b *ℤ (a *ℤ c)
*ℤ_left_comm a b c = sym (*ℤ_assoc a b c) ∙ ap (λ (x : ℤ). x *ℤ c) (*ℤ_comm a b) ∙ *ℤ_assoc b a c

pub neg_ℤ_*ℤ : (a b : ℤ) → neg_ℤ a *ℤ b ≡ neg_ℤ (a *ℤ b)
neg_ℤ_*ℤ a b =
    eq_pn (neg_ℤ a *ℤ b) (neg_ℤ (a *ℤ b))
    (omega (arith, mul_pn (neg_ℤ a) b, mul_pn a b, neg_pn (a *ℤ b), ap (λ (x : ℕ). x * P b) (neg_pn a).0, ap (λ (x : ℕ). x * N b) (neg_pn a).0, ap (λ (x : ℕ). x * P b) (neg_pn a).1, ap (λ (x : ℕ). x * N b) (neg_pn a).1))

pub *ℤ_neg_ℤ : (a b : ℤ) → a *ℤ neg_ℤ b ≡ neg_ℤ (a *ℤ b)
*ℤ_neg_ℤ a b = *ℤ_comm a (neg_ℤ b) ∙ neg_ℤ_*ℤ b a ∙ ap neg_ℤ (*ℤ_comm b a)

-- ---- the order: chains

pub ≤ℤ_trans : {a b c : ℤ} → a ≤ℤ b → b ≤ℤ c → a ≤ℤ c
≤ℤ_trans {a} {b} {c} h k = pn_le a c (omega (arith, le_pn h, le_pn k))

pub ≤ℤ_<ℤ_trans : {a b c : ℤ} → a ≤ℤ b → b <ℤ c → a <ℤ c
≤ℤ_<ℤ_trans {a} {b} {c} h k = pn_lt a c (omega (arith, le_pn h, lt_pn k))

pub ≤ℤ_antisym : {a b : ℤ} → a ≤ℤ b → b ≤ℤ a → a ≡ b
≤ℤ_antisym {a} {b} h k = eq_pn a b (omega (arith, le_pn h, le_pn k))

-- ---- the order, and the operations

module _ {a b c d : ℤ} (h : a ≤ℤ b) (k : c ≤ℤ d) where
  pub add_≤ℤ : (a +ℤ c) ≤ℤ (b +ℤ d)
  add_≤ℤ = pn_le (a +ℤ c) (b +ℤ d) (omega (arith, le_pn h, le_pn k, add_pn a c, add_pn b d))

  pub sub_≤ℤ : (a -ℤ d) ≤ℤ (b -ℤ c)
  sub_≤ℤ = pn_le (a -ℤ d) (b -ℤ c) (omega (arith, le_pn h, le_pn k, sub_pn a d, sub_pn b c))

pub neg_≤ℤ : {a b : ℤ} → a ≤ℤ b → neg_ℤ b ≤ℤ neg_ℤ a
neg_≤ℤ {a} {b} h = pn_le (neg_ℤ b) (neg_ℤ a) (omega (arith, le_pn h, neg_pn a, neg_pn b))

-- by a factor that is not negative
pub mul_≤ℤ : {a b c : ℤ} → a ≤ℤ b → pos 0 ≤ℤ c → (a *ℤ c) ≤ℤ (b *ℤ c)
mul_≤ℤ {a} {b} {c = pos n} h p = pn_le (a *ℤ pos n) (b *ℤ pos n) (omega (arith, mul-le-mul_right n (le_pn h), mul_pn a (pos n), mul_pn b (pos n)))
mul_≤ℤ {a} {b} {c = negsuc n} h p = absurd p.le
