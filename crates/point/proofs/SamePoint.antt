-- Two points are one where the test says so, and they differ where it does not; and two coordinates are one where their bits are. Assumes nothing.
use Prim.Native.Nat.{◌^◌, ◌<◌}
use mathlib.Core.Bool.{Bool, true, false, ◌&&◌, true≢false}
use mathlib.Core.Path.{◌≡◌, refl, sym, ap, ap₂, ◌∙◌}
use mir.Syntax.{w32}
use mir.Val.{of_z}
use lib.Dec.{eqb}
use lib.IntN.{ℤ}
use lib.Signed.{mag, le_z, ≤ℤ_refl}
use borrow.Author.Rules.{sfits_of}
use borrow.Author.Tests.{eq-eqb, ne_eqb}
use Rattle.laws.proofs.Joined.{both_true}
use Rattle.laws.proofs.Integers.{of_z_inj, le_le_z, le_z_true}
use Rattle.laws.proofs.Ring.{≤ℤ_antisym}
use Rattle.point.specs.Points.{same_point}
use Rattle.point.specs.declared.PointI32.{PointI32}

-- ---- one coordinate

equal : (a b : ℤ) → (le_z a b && le_z b a) ≡ true → a ≡ b
equal a b e = let s = both_true (le_z a b) (le_z b a) e in ≤ℤ_antisym (le_z_true a b s.0) (le_z_true b a s.1)

test_equal : (a b : ℤ) → a ≡ b → (le_z a b && le_z b a) ≡ true
test_equal a b f = rw (f, le_le_z (≤ℤ_refl b))

pub same_bits : (a b : ℤ) → mag a < 2 ^ 31 → mag b < 2 ^ 31 → (le_z a b && le_z b a) ≡ eqb (of_z w32 a) (of_z w32 b)
same_bits a b h k = go (le_z a b && le_z b a) refl
  where
    go : (t : Bool) → (le_z a b && le_z b a) ≡ t → t ≡ eqb (of_z w32 a) (of_z w32 b)
    go true e = sym (eq-eqb (of_z w32 a) (of_z w32 b) (ap (of_z w32) (equal a b e)))
    go false e = sym (ne_eqb (of_z w32 a) (of_z w32 b) (λ f. true≢false (sym (test_equal a b (of_z_inj w32 a b (sfits_of h) (sfits_of k) f)) ∙ e)))

-- ---- a point

module _ (p q : PointI32) where
  pub same_point_lem : same_point p q ≡ true → p ≡ q
  same_point_lem e =
      let s = both_true (le_z p.x q.x && le_z q.x p.x) (le_z p.y q.y && le_z q.y p.y) e in
      let x = equal p.x q.x s.0 in
      let y = equal p.y q.y s.1 in
      λ i. record { x = x i; y = y i }

  pub test_same : p ≡ q → same_point p q ≡ true
  test_same e = ap₂ ◌&&◌ (test_equal p.x q.x (λ i. (e i).x)) (test_equal p.y q.y (λ i. (e i).y))

  pub test_other : (p ≡ q → ⊥) → same_point p q ≡ false
  test_other n = go (same_point p q) refl
    where
      go : (t : Bool) → same_point p q ≡ t → t ≡ false
      go true e = absurd (n (same_point_lem e))
      go false e = refl

pub same_itself : (p : PointI32) → same_point p p ≡ true
same_itself p = test_same p p refl
