-- Steps on the lattice: a step and the step back, two steps and one. A step is the sum with a vector, and a test of two points that share
-- a summand is the test of what is added, which antt computes for all ways at once. Assumes nothing.
use mathlib.Core.Bool.{Bool, true, false, not, ◌&&◌}
use mathlib.Core.Path.{◌≡◌, refl, sym, ap, ap₂, ◌∙◌}
use native.Mathlib.Omega.{arith}
use lib.IntN.{ℤ, pos, negsuc, ◌+ℤ◌, +ℤ_idr, +ℤ_assoc}
use lib.Signed.{le_z}
use Rattle.point.specs.Points.{same_point}
use Rattle.laws.proofs.Integers.{le_le_z, lt_le_z}
use Rattle.laws.proofs.Ring.{add_pn, pn_le, pn_lt, le_z_true_pn, le_z_false_pn}
use Rattle.point.specs.declared.PointI32.{PointI32}
use Rattle.walker.specs.Walk.{Way, up, right, down, left, ahead, same_way}
use Rattle.walker.proofs.AllCases.{at_w, at_w2, at_w3, same, same_eq, fails}

abbrev pub opposite : Way → Way
opposite up = down
opposite right = left
opposite down = up
opposite left = right

-- ---- a step as a sum

abbrev vx : Way → ℤ
vx up = pos 0
vx right = pos 1
vx down = pos 0
vx left = negsuc 0

abbrev vy : Way → ℤ
vy up = negsuc 0
vy right = pos 0
vy down = pos 1
vy left = pos 0

abbrev plus : PointI32 → ℤ → ℤ → PointI32
plus p a b = record { x = p.x +ℤ a; y = p.y +ℤ b }

ahead_plus : (p : PointI32) (d : Way) → ahead p d ≡ plus p (vx d) (vy d)
ahead_plus p up = λ i. record { x = sym (+ℤ_idr p.x) i; y = p.y +ℤ negsuc 0 }
ahead_plus p right = λ i. record { x = p.x +ℤ pos 1; y = sym (+ℤ_idr p.y) i }
ahead_plus p down = λ i. record { x = sym (+ℤ_idr p.x) i; y = p.y +ℤ pos 1 }
ahead_plus p left = λ i. record { x = p.x +ℤ negsuc 0; y = sym (+ℤ_idr p.y) i }

plus_plus : (p : PointI32) (a b e f : ℤ) → plus (plus p a b) e f ≡ plus p (a +ℤ e) (b +ℤ f)
plus_plus p a b e f = λ i. record { x = +ℤ_assoc p.x a e i; y = +ℤ_assoc p.y b f i }

plus_none : (p : PointI32) → p ≡ plus p (pos 0) (pos 0)
plus_none p = λ i. record { x = sym (+ℤ_idr p.x) i; y = sym (+ℤ_idr p.y) i }

two_plus : (p : PointI32) (e k : Way) → ahead (ahead p e) k ≡ plus p (vx e +ℤ vx k) (vy e +ℤ vy k)
two_plus p e k = ahead_plus (ahead p e) k ∙ ap (λ (q : PointI32). plus q (vx k) (vy k)) (ahead_plus p e) ∙ plus_plus p (vx e) (vy e) (vx k) (vy k)

-- ---- a summand that both points share

le_z_shift : (z a b : ℤ) → le_z (z +ℤ a) (z +ℤ b) ≡ le_z a b
le_z_shift z a b = go (le_z a b) refl
  where
    go : (t : Bool) → le_z a b ≡ t → le_z (z +ℤ a) (z +ℤ b) ≡ t
    go true e = le_le_z (pn_le (z +ℤ a) (z +ℤ b) (omega (arith, le_z_true_pn a b e, add_pn z a, add_pn z b)))
    go false e = lt_le_z (pn_lt (z +ℤ b) (z +ℤ a) (omega (arith, le_z_false_pn a b e, add_pn z a, add_pn z b)))

abbrev same_xy : ℤ → ℤ → ℤ → ℤ → Bool
same_xy a b e f = le_z a e && le_z e a && (le_z b f && le_z f b)

same_shift : (p : PointI32) (a b e f : ℤ) → same_point (plus p a b) (plus p e f) ≡ same_xy a b e f
same_shift p a b e f =
    ap₂ ◌&&◌ (ap₂ ◌&&◌ (le_z_shift p.x a e) (le_z_shift p.x e a)) (ap₂ ◌&&◌ (le_z_shift p.y b f) (le_z_shift p.y f b))

-- ---- what follows

-- a step and the step back
pub step_back : (p : PointI32) (d : Way) → ahead (ahead p d) (opposite d) ≡ p
step_back p up = two_plus p up down ∙ sym (plus_none p)
step_back p right = two_plus p right left ∙ sym (plus_none p)
step_back p down = two_plus p down up ∙ sym (plus_none p)
step_back p left = two_plus p left right ∙ sym (plus_none p)

-- points ahead are equal where the ways are
pub one_way : (p : PointI32) (d e : Way) → same_point (ahead p d) (ahead p e) ≡ same_way d e
one_way p d e =
    ap₂ same_point (ahead_plus p d) (ahead_plus p e)
    ∙ same_shift p (vx d) (vy d) (vx e) (vy e)
    ∙ same_eq _ _ (at_w2 (λ d e. same (same_xy (vx d) (vy d) (vx e) (vy e)) (same_way d e)) tt d e)

-- nobody stands ahead of himself
pub never_here : (p : PointI32) (d : Way) → same_point (ahead p d) p ≡ false
never_here p d =
    ap₂ same_point (ahead_plus p d) (plus_none p)
    ∙ same_shift p (vx d) (vy d) (pos 0) (pos 0)
    ∙ fails _ (at_w (λ d. not (same_xy (vx d) (vy d) (pos 0) (pos 0))) tt d)

-- two steps never lead where one does: each changes whether x + y is even
pub two_are_not_one : (p : PointI32) (e k f : Way) → same_point (ahead (ahead p e) k) (ahead p f) ≡ false
two_are_not_one p e k f =
    ap₂ same_point (two_plus p e k) (ahead_plus p f)
    ∙ same_shift p (vx e +ℤ vx k) (vy e +ℤ vy k) (vx f) (vy f)
    ∙ fails _ (at_w3 (λ e k f. not (same_xy (vx e +ℤ vx k) (vy e +ℤ vy k) (vx f) (vy f))) tt e k f)
