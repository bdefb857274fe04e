-- The square of a distance is a NaN or has the sign +, whatever the coordinates: so is every distance of a tree, and the least of such and of a
-- number is one. Assumes nothing.
use Prim.Native.Nat.{ℕ, suc, ◌-◌, ◌*◌}
use mathlib.Core.Bool.{true, false, true≢false}
use mathlib.Core.List.{List}
use mathlib.Core.Logic.{◌⊎◌, inl, inr}
use mathlib.Core.Path.{◌≡◌, refl, sym}
use lib.IntN.{ℤ}
use lib.Ieee.{Float, nan, inf, fin, binary64, up, down, add, mul, lt}
use Rattle.laws.specs.inside.Finite.{NonNeg}
use Rattle.laws.proofs.Finite.{infinity_nonneg, round_nonneg, add_nonneg}
use Rattle.laws.specs.Least.{least}
use Rattle.laws.proofs.Least.{least_cases}
use Rattle.point.specs.declared.PointI32.{PointI32}
use Rattle.split.specs.Distance.{squares, sq_seg_dist}
use Rattle.split.specs.Farthest.{distance_in, farthest}
use Rattle.split.proofs.Distances.{distance_fits}
use Rattle.split.proofs.Folds.{far, farther_any}
use Rattle.split.specs.inside.Spans.{Distance, Square}
use Rattle.split.specs.Tree.{span_tree}
use Rattle.split.proofs.Trees.{Each, by_spans, reach}

square_unsigned : (x : Float) → (mul binary64 x x ≡ nan) ⊎ NonNeg (mul binary64 x x)
unfolding mul
square_unsigned nan = inl refl
square_unsigned (inf true) = inr infinity_nonneg
square_unsigned (inf false) = inr infinity_nonneg
square_unsigned (fin true m e) = inr (round_nonneg binary64 (m * up e * (m * up e)) (down e * down e))
square_unsigned (fin false m e) = inr (round_nonneg binary64 (m * up e * (m * up e)) (down e * down e))

add_nan : (x : Float) → add binary64 x nan ≡ nan
unfolding add
add_nan nan = refl
add_nan (inf s) = refl
add_nan (fin s m e) = refl

nan_add : (y : Float) → add binary64 nan y ≡ nan
unfolding add
nan_add y = refl

squares_unsigned : (x y : Float) → (squares x y ≡ nan) ⊎ NonNeg (squares x y)
squares_unsigned x y = go (square_unsigned x) (square_unsigned y)
  where
    go : (mul binary64 x x ≡ nan) ⊎ NonNeg (mul binary64 x x) → (mul binary64 y y ≡ nan) ⊎ NonNeg (mul binary64 y y) → (squares x y ≡ nan) ⊎ NonNeg (squares x y)
    go (inl e) q = inl (rw e (nan_add (mul binary64 y y)))
    go (inr p) (inl e) = inl (rw e (add_nan (mul binary64 x x)))
    go (inr p) (inr q) = inr (add_nonneg p q)

distance_square : (p a b : PointI32) → Square (sq_seg_dist p a b)
unfolding sq_seg_dist
distance_square p a b = record { unsigned = squares_unsigned _ _; fitting = distance_fits p a b }

-- ---- of a span, and of its tree

pub reach_square : (points : List ℤ) (f l : ℕ) → Square (reach points f l)
unfolding farthest
reach_square points f l =
    let d = distance_in points f l in
    farther_any d Square (l - suc (suc f)) (suc (suc f)) (far (suc f) (d (suc f))) (λ i p q. distance_square _ _ _) (distance_square _ _ _)

pub span_squares : (points : List ℤ) (f l : ℕ) → Each Square (span_tree points f l)
unfolding Each
span_squares points = by_spans points (λ f l t. Each Square t) (λ f l h. tt) (λ f l o below above p q. (reach_square points f l, p, q))

-- ---- the least of a number and a square is a number

not_nan : (x y : Float) → lt x y ≡ true → x ≡ nan → ⊥
unfolding lt
not_nan nan y h e = true≢false (sym h)
not_nan (inf s) y h e = let z : lt nan y ≡ true = rw e at h in true≢false (sym z)
not_nan (fin s m d) y h e = let z : lt nan y ≡ true = rw e at h in true≢false (sym z)

pub least_distance : (around d : Float) → Distance around → Square d → Distance (least around d)
least_distance around d p q = least_cases around d Distance (λ h. go h q.unsigned) (λ h. p)
  where
    go : lt d around ≡ true → (d ≡ nan) ⊎ NonNeg d → Distance d
    go h (inl e) = absurd (not_nan d around h e)
    go h (inr n) = record { nonneg = n; fitting = q.fitting }
