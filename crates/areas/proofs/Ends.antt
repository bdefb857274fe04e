-- Both ends of a choice are kept: what the test says, and that it says so of the marks of Douglas-Peucker. Assumes nothing.
use Prim.Native.Nat.{ℕ, suc, ◌-◌}
use mathlib.Core.Bool.{Bool, true, false, not}
use mathlib.Core.List.{List, [], ◌∷◌, ◌++◌}
use mathlib.Core.Path.{◌≡◌, refl}
use native.Mathlib.Omega.{arith}
use lib.Dec.{eqb, ltb}
use lib.Ieee.{Float}
use lib.IntN.{ℤ}
use lib.ListN.{length, get_or, length-append}
use lib.Seq.{get_or-append_seam}
use borrow.Author.Tests.{not-true, ltb-true, ltb-false}
use Rattle.laws.proofs.Joined.{both_true}
use Rattle.point.specs.Points.{count}
use Rattle.split.specs.Tree.{marks_of, cut, tree, framed}
use Rattle.split.proofs.Framed.{framed_many, framed_one}
use Rattle.areas.specs.Areas.{ends_kept}

module _ (marks : List ℕ) (e : ends_kept marks ≡ true) where
  pub first_kept : eqb (get_or marks 0 0) 0 ≡ false
  unfolding ends_kept
  first_kept = not-true (eqb (get_or marks 0 0) 0) (both_true (not (eqb (get_or marks 0 0) 0)) (not (eqb (get_or marks (length marks - 1) 0) 0)) e).0

  pub last_kept : eqb (get_or marks (length marks - 1) 0) 0 ≡ false
  unfolding ends_kept
  last_kept =
      not-true (eqb (get_or marks (length marks - 1) 0) 0) (both_true (not (eqb (get_or marks 0 0) 0)) (not (eqb (get_or marks (length marks - 1) 0) 0)) e).1

-- ---- the marks of Douglas-Peucker

-- a list between two ends that are kept
between : (xs : List ℕ) → ends_kept (1 ∷ (xs ++ (1 ∷ []))) ≡ true
unfolding ends_kept
between xs =
    let last : get_or (xs ++ (1 ∷ [])) (length xs) 0 ≡ 1 = get_or-append_seam xs 1 [] 0 in
    let place : suc (length (xs ++ (1 ∷ []))) - 1 ≡ suc (length xs) = omega (arith, length-append xs (1 ∷ [])) in
    rw (place, last)

pub ends_are_kept : (list : List ℤ) (tolerance : Float) → ends_kept (marks_of tolerance list) ≡ true
unfolding marks_of
ends_are_kept list tolerance = go (ltb 1 (count list)) refl
  where
    go : (b : Bool) → ltb 1 (count list) ≡ b → ends_kept (framed list 1 (cut tolerance (tree list))) ≡ true
    go true e = rw (framed_many list 1 (cut tolerance (tree list)) (ltb-true 1 (count list) e)) (between (cut tolerance (tree list)))
    go false e = rw (framed_one list 1 (cut tolerance (tree list)) (ltb-false 1 (count list) e)) (unfold ends_kept in refl)
