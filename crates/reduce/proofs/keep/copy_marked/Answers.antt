use Prim.Native.Nat.{ℕ, ◌+◌, ◌<◌, ◌≤◌}
use mathlib.Core.Bool.{Bool, true, false, not, true≢false}
use mathlib.Core.List.{List, [], ◌∷◌}
use mathlib.Core.Path.{◌≡◌, sym, ap, ◌∙◌}
use native.Mathlib.Omega.{arith}
use lib.Dec.{eqb}
use lib.IntN.{ℤ}
use lib.ListN.{length, drop, get_or, drop_of_length-le}
use borrow.Author.Tests.{eq-eqb, eqb-true, not-false}
use Rattle.std.proofs.Common.{rules, of_calls}
use Rattle.std.specs.Prelude.{if◌then◌else◌}
use Rattle.point.specs.Points.{points, count, point_at}
use Rattle.point.specs.declared.PointI32.{PointI32}
use Rattle.point.specs.inside.Written.{Handed, Left}
use Rattle.point.proofs.Flat.{length_points, points_at}
use Rattle.point.proofs.Written.{begun, passed, ended}
use Rattle.reduce.specs.Kept.{select}
use Rattle.reduce.proofs.Select.{select_shorter, no_points, marked, unmarked}
use Rattle.reduce.proofs.keep.copy_marked.Goals as goal

module _ (list : List ℤ) (marks : List ℕ) where
  -- what is still to be copied: the marked points from a position on
  abbrev rest : ℕ → List PointI32
  rest k = select (drop k marks) (drop k (points list))

  started : (old : List ℤ) → count list ≤ count old → Left (rest 0) old 0 (rest 0) old
  started old h = begun (rest 0) old (omega (arith, select_shorter marks (points list), length_points list))

  finished : (old out : List ℤ) (kept k : ℕ) → Left (rest 0) old kept (rest k) out → count list ≤ k → Handed (rest 0) old kept out
  finished old out kept k l h =
      let none : drop k (points list) ≡ [] = drop_of_length-le (points list) {i = k} (rw (length_points list) h) in
      ended (passed l (ap (select (drop k marks)) none ∙ no_points (drop k marks)))

  picked : (k : ℕ) → k < count list → count list ≤ length marks → (t : Bool) → t ≡ not (eqb (get_or marks k 0) 0) →
      rest k ≡ (if t then point_at list k ∷ rest (k + 1) else rest (k + 1))
  picked k h each true e =
      marked marks (points list) k (point_at list k) (omega arith) (rw (length_points list) h) (λ z. true≢false (e ∙ ap not (eq-eqb _ _ z)))
      ∙ ap (λ (p : PointI32). p ∷ rest (k + 1)) (points_at list k (point_at list k) h)
  picked k h each false e =
      unmarked marks (points list) k (point_at list k) (omega arith) (rw (length_points list) h) (eqb-true _ _ (not-false _ (sym e)))

pub returns : goal.returns
returns c =
    finished _ _ _ _ _ _
    (c.copy_those.ensures (rest c.args.points.now c.args.marks.now) (λ k h i t p. picked _ _ k i c.requires.0 t (search (of_calls, rules))) (started _ _ _ c.requires.1))
    (omega arith)
