-- Points and flags that are written behind those at the start of a buffer. Assumes nothing.
use Prim.Native.Nat.{ℕ, ◌+◌, ◌*◌, ◌≤◌}
use mathlib.Core.List.{List, [], ◌∷◌, ◌++◌, append_assoc, append-nil}
use mathlib.Core.Path.{◌≡◌, refl, sym, ap, ◌∙◌}
use native.Mathlib.Omega.{arith}
use lib.Ieee.{Float}
use lib.ListN.{length, length-append}
use Rattle.laws.specs.Lists.{over}
use Rattle.laws.proofs.Lists.{over_push, over_push_two}
use Rattle.point.specs.declared.PointF64.{PointF64}
use Rattle.smooth.specs.Places.{flat_f64}
use Rattle.smooth.specs.inside.Parts.{put_points, put_flags}

pub length_flat : (ps : List PointF64) → length (flat_f64 ps) ≡ length ps * 2
unfolding flat_f64
length_flat [] = refl
length_flat (p ∷ ps) = omega (arith, length_flat ps)

flat_more : (ps : List PointF64) (p : PointF64) → flat_f64 (ps ++ (p ∷ [])) ≡ flat_f64 ps ++ (p.x ∷ p.y ∷ [])
unfolding flat_f64
flat_more [] p = refl
flat_more (q ∷ ps) p = ap (λ (l : List Float). q.x ∷ q.y ∷ l) (flat_more ps p)

pub points_behind : (ps qs : List PointF64) (k : ℕ) (old : List Float) → length ps ≡ k → (k + length qs) * 2 ≤ length old →
    put_points k qs (over (flat_f64 ps) old) ≡ over (flat_f64 (ps ++ qs)) old
unfolding put_points
points_behind ps [] k old e h = ap (λ (l : List PointF64). over (flat_f64 l) old) (sym (append-nil ps))
points_behind ps (q ∷ qs) k old e h =
    let l : length (flat_f64 ps) ≡ k * 2 = length_flat ps ∙ ap (λ (n : ℕ). n * 2) e in
    let e' : length (ps ++ (q ∷ [])) ≡ k + 1 = length-append ps (q ∷ []) ∙ ap (λ (n : ℕ). n + 1) e in
    ap (put_points (k + 1) qs)
    (over_push_two (flat_f64 ps) old (k * 2) q.x q.y l (omega arith) ∙ ap (λ (l : List Float). over l old) (sym (flat_more ps q)))
    ∙ points_behind (ps ++ (q ∷ [])) qs (k + 1) old e' (omega arith)
    ∙ ap (λ (l : List PointF64). over (flat_f64 l) old) (append_assoc ps (q ∷ []) qs)

pub flags_behind : (xs ys : List ℕ) (k : ℕ) (old : List ℕ) → length xs ≡ k → k + length ys ≤ length old → put_flags k ys (over xs old) ≡ over (xs ++ ys) old
unfolding put_flags
flags_behind xs [] k old e h = ap (λ (l : List ℕ). over l old) (sym (append-nil xs))
flags_behind xs (y ∷ ys) k old e h =
    let e' : length (xs ++ (y ∷ [])) ≡ k + 1 = length-append xs (y ∷ []) ∙ ap (λ (n : ℕ). n + 1) e in
    ap (put_flags (k + 1) ys) (over_push xs old k y e (omega arith))
    ∙ flags_behind (xs ++ (y ∷ [])) ys (k + 1) old e' (omega arith)
    ∙ ap (λ (l : List ℕ). over l old) (append_assoc xs (y ∷ []) ys)
