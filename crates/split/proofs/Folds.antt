-- The fold `farther`, which passes one position after the other: what holds of all distances holds of the one it ends at, and it ends inside.
-- Assumes nothing.
use Prim.Native.Nat.{ℕ, zero, suc, ◌+◌, ◌≤◌, ◌<◌}
use mathlib.Core.Bool.{Bool, true, false}
use mathlib.Core.Path.{◌≡◌, refl, sym, subst}
use native.Mathlib.Nat.{le_refl}
use native.Mathlib.Omega.{arith}
use lib.Ieee.{Float, lt}
use Rattle.split.specs.declared.farthest.Far.{Far}
use Rattle.split.specs.Farthest.{farther}

abbrev pub far : ℕ → Float → Far
far k d = record { index = k; distance = d }

-- a property of the n distances from k on
abbrev pub Over : (Float → Type 0) → (ℕ → Float) → ℕ → ℕ → Type 0
Over Q d n k = (i : ℕ) → k ≤ i → i < k + n → Q (d i)

module _ (Q : Float → Type 0) (d : ℕ → Float) (n k : ℕ) (h : Over Q d (suc n) k) where
  pub over_first : Q (d k)
  over_first = h k (le_refl k) (omega arith)

  pub over_rest : Over Q d n (suc k)
  over_rest i l u = h i (omega arith) (omega arith)

module _ (d : ℕ → Float) where
  pub farther_taken : (n k : ℕ) (b : Far) → lt b.distance (d k) ≡ true → farther d (suc n) k b ≡ farther d n (suc k) (far k (d k))
  unfolding farther
  farther_taken n k b e = rw e

  pub farther_kept : (n k : ℕ) (b : Far) → lt b.distance (d k) ≡ false → farther d (suc n) k b ≡ farther d n (suc k) b
  unfolding farther
  farther_kept n k b e = rw e

  -- two cases, each with what the next turns end at
  pub by_test : (n k : ℕ) (b : Far) (P : Far → Type 0) → (lt b.distance (d k) ≡ true → P (farther d n (suc k) (far k (d k))))
      → (lt b.distance (d k) ≡ false → P (farther d n (suc k) b)) → P (farther d (suc n) k b)
  by_test n k b P f g = go (lt b.distance (d k)) refl
    where
      go : (c : Bool) → lt b.distance (d k) ≡ c → P (farther d (suc n) k b)
      go true e = subst P (sym (farther_taken n k b e)) (f e)
      go false e = subst P (sym (farther_kept n k b e)) (g e)

  -- what holds of all distances holds of the one it ends at
  pub farther_any : (Q : Float → Type 0) (n k : ℕ) (b : Far) → Over Q d n k → Q b.distance → Q (farther d n k b).distance
  unfolding farther
  farther_any Q zero k b h q = q
  farther_any Q (suc n) k b h q =
      by_test n k b (λ r. Q r.distance) (λ e. farther_any Q n (suc k) (far k (d k)) (over_rest Q d n k h) (over_first Q d n k h))
      (λ e. farther_any Q n (suc k) b (over_rest Q d n k h) q)

  -- it ends at the position it starts with, or at one of those it passes
  pub farther_within : (n k : ℕ) (b : Far) (low high : ℕ) → low ≤ b.index → b.index < high → low ≤ k → k + n ≤ high
      → (low ≤ (farther d n k b).index) × ((farther d n k b).index < high)
  unfolding farther
  farther_within zero k b low high p q l u = (p, q)
  farther_within (suc n) k b low high p q l u =
      by_test n k b (λ r. (low ≤ r.index) × (r.index < high)) (λ e. farther_within n (suc k) (far k (d k)) low high l (omega arith) (omega arith) (omega arith))
      (λ e. farther_within n (suc k) b low high p q (omega arith) (omega arith))
