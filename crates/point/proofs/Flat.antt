-- A list of points and its values, x, y, x, y: the two say the same where no half point is left. Assumes nothing.
use Prim.Native.Nat.{ℕ, zero, suc, ◌+◌, ◌*◌, ◌%◌, ◌<◌}
use mathlib.Core.List.{List, [], ◌∷◌}
use mathlib.Core.Path.{◌≡◌, refl, sym, ap, ap₂, ◌∙◌}
use native.Mathlib.Omega.{arith}
use lib.IntN.{ℤ, pos}
use lib.ListN.{length, get_or}
use Rattle.point.specs.Points.{flat, points, count, point_at}
use Rattle.point.specs.declared.PointI32.{PointI32}

pub length_flat : (ps : List PointI32) → length (flat ps) ≡ length ps * 2
unfolding flat
length_flat [] = refl
length_flat (p ∷ ps) = omega (arith, length_flat ps)

pub length_points : (list : List ℤ) → length (points list) ≡ count list
unfolding points
length_points [] = refl
length_points (x ∷ []) = refl
length_points (x ∷ y ∷ list) = omega (arith, length_points list)

pub points_flat : (ps : List PointI32) → points (flat ps) ≡ ps
unfolding points flat
points_flat [] = refl
points_flat (p ∷ ps) = ap (λ (l : List PointI32). p ∷ l) (points_flat ps)

pub flat_points : (list : List ℤ) → length list % 2 ≡ 0 → flat (points list) ≡ list
unfolding points flat
flat_points [] h = refl
flat_points (x ∷ []) h = absurd (omega arith)
flat_points (x ∷ y ∷ list) h = ap (λ (l : List ℤ). x ∷ y ∷ l) (flat_points list (omega arith))

pub count_flat : (ps : List PointI32) → count (flat ps) ≡ length ps
count_flat ps = omega (arith, length_flat ps)

-- the point at a position
add_two : (n : ℕ) → n + 2 ≡ suc (suc n)
add_two n = omega arith

pub points_at : (list : List ℤ) (k : ℕ) (d : PointI32) → k < count list → get_or (points list) k d ≡ point_at list k
unfolding points
points_at [] k d h = absurd (omega arith)
points_at (x ∷ []) k d h = absurd (omega arith)
points_at (x ∷ y ∷ list) zero d h = refl
points_at (x ∷ y ∷ list) (suc k) d h =
    let e : k * 2 + 2 ≡ suc k * 2 = omega arith in
    let f : k * 2 + 1 + 2 ≡ suc k * 2 + 1 = omega arith in
    points_at list k d (omega arith)
    ∙ ap₂ (λ (m n : ℕ). record { x = get_or (x ∷ y ∷ list) m (pos 0); y = get_or (x ∷ y ∷ list) n (pos 0) }) (sym (add_two (k * 2)) ∙ e) (sym (add_two (k * 2 + 1)) ∙ f)
