-- The flags of a list: how many there are, and which one stands at a position. Assumes nothing.
use Prim.Native.Nat.{ℕ, zero, suc, ◌-◌, ◌<◌, ◌≤◌}
use mathlib.Core.Bool.{Bool, true, false, ◌||◌}
use mathlib.Core.List.{List, [], ◌∷◌, ◌++◌, append-nil, reverse, reverse-cons}
use mathlib.Core.Path.{◌≡◌, refl, sym, ap, ap₂, ◌∙◌}
use native.Mathlib.Omega.{arith}
use lib.Dec.{eqb}
use lib.IntN.{ℤ}
use lib.ListN.{length, take, drop, get_or, length-reverse}
use lib.Seq.{append_snoc, take-take, length-take-le, length-slice, get_or-take}
use borrow.Author.Tests.{eqb-true, eqb-false, eq-eqb, ne_eqb}
use Rattle.point.specs.declared.PointI32.{PointI32}
use Rattle.point.specs.Points.{count, seen, points, point_at}
use Rattle.point.proofs.Flat.{length_points, points_at}
use Rattle.point.proofs.Room.{seen_few}
use Rattle.corners.specs.declared.Pair.{Pair}
use Rattle.corners.specs.Corners.{is_end, is_corner, flag, flags_of, corners, corners_of}
use Rattle.corners.specs.Neighbours.{is_end_at}
use Rattle.corners.specs.inside.Places.{back, ahead}
use Rattle.corners.proofs.Others.{origin}

module _ (pair : Pair) (closed : Bool) where
  pub length_flags : (passed ps : List PointI32) → length (flags_of pair closed passed ps) ≡ length ps
  unfolding flags_of
  length_flags passed [] = refl
  length_flags passed (p ∷ ps) = ap suc (length_flags (p ∷ passed) ps)

  pub flag_at : (passed ps : List PointI32) (i : ℕ) → i < length ps →
      get_or (flags_of pair closed passed ps) i 0 ≡ flag (is_corner pair closed (reverse (take i ps) ++ passed) (get_or ps i origin) (drop (suc i) ps))
  unfolding flags_of
  flag_at passed [] i h = absurd (omega arith)
  flag_at passed (p ∷ ps) zero h = refl
  flag_at passed (p ∷ ps) (suc i) h =
      flag_at (p ∷ passed) ps i (omega arith)
      ∙ ap (λ (l : List PointI32). flag (is_corner pair closed l (get_or ps i origin) (drop (suc i) ps)))
      (sym (append_snoc (reverse (take i ps)) p passed) ∙ ap (λ (l : List PointI32). l ++ passed) (sym (reverse-cons p (take i ps))))

-- ---- of a list x, y, x, y, of which m points are looked at

module _ (list : List ℤ) (pair : Pair) (closed : Bool) (m : ℕ) (e : m ≡ seen (count list) closed) where
  looked_at : corners_of list pair closed ≡ flags_of pair closed [] (take m (points list))
  unfolding corners_of corners
  looked_at = ap (λ (n : ℕ). flags_of pair closed [] (take n (points list))) (ap (λ (n : ℕ). seen n closed) (length_points list) ∙ sym e)

  enough : m ≤ length (points list)
  enough = rw (length_points list) (seen_few closed m (count list) e)

  pub one_each : length (corners_of list pair closed) ≡ m
  one_each = ap length looked_at ∙ length_flags pair closed [] (take m (points list)) ∙ length-take-le m (points list) enough

  pub corner_at : (i : ℕ) → i < m → get_or (corners_of list pair closed) i 0 ≡ flag (is_corner pair closed (back list i) (point_at list i) (ahead list m i))
  corner_at i h =
      let few : i < count list = omega (arith, seen_few closed m (count list) e) in
      let short : i ≤ m = omega arith in
      ap (λ (l : List ℕ). get_or l i 0) looked_at
      ∙ flag_at pair closed [] (take m (points list)) i (rw (length-take-le m (points list) enough) h)
      ∙ ap₂ (λ (l : List PointI32) (p : PointI32). flag (is_corner pair closed l p (ahead list m i)))
      (append-nil (reverse (take i (take m (points list)))) ∙ ap reverse (take-take i m (points list) short))
      (get_or-take m (points list) i origin h ∙ points_at list i origin few)

  -- an end, by its position
  pub end_at : (i : ℕ) → i < m → is_end (back list i) (ahead list m i) ≡ is_end_at m i
  end_at i h =
      ap₂ (λ (j k : ℕ). eqb j 0 || eqb k 0)
      (length-reverse (take i (points list)) ∙ length-take-le i (points list) (omega (arith, enough)))
      (length-slice (suc i) m (points list) enough)
      ∙ ap (λ (b : Bool). eqb i 0 || b) last
    where
      last : eqb (m - suc i) 0 ≡ eqb (suc i) m
      last = go (eqb (suc i) m) refl
        where
          go : (t : Bool) → eqb (suc i) m ≡ t → eqb (m - suc i) 0 ≡ t
          go true f = eq-eqb (m - suc i) 0 (omega (arith, eqb-true (suc i) m f))
          go false f = ne_eqb (m - suc i) 0 (λ g. eqb-false (suc i) m f (omega arith))
