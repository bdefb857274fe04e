use Prim.Native.Nat.{ℕ, zero, suc, ◌+◌, ◌-◌, ◌/◌, ◌<◌, ◌≤◌}
use mathlib.Core.Bool.{Bool, true, false}
use mathlib.Core.List.{List, [], ◌∷◌}
use mathlib.Core.Path.{◌≡◌, refl, sym, ap, ap₂, ◌∙◌}
use native.Mathlib.Omega.{arith}
use lib.Ieee.{Float, nan, lt}
use lib.IntN.{ℤ}
use lib.ListN.{length, drop, get_or}
use Rattle.std.proofs.Common.{rules, of_calls}
use Rattle.std.specs.Prelude.{if◌then◌else◌}
use Rattle.point.specs.Points.{points, count, point_at}
use Rattle.point.specs.declared.PointI32.{PointI32}
use Rattle.point.proofs.Flat.{length_points, points_at}
use Rattle.point.specs.inside.Written.{Left}
use Rattle.point.proofs.Written.{passed, room}
use Rattle.reduce.specs.Kept.{select, kept}
use Rattle.reduce.specs.Zoom.{marks_after, marks_by}
use Rattle.reduce.proofs.Select.{kept_after, above, not_above, last_kept}
use Rattle.reduce.proofs.keep.copy_between.Goals as goal

module _ (list : List ℤ) (numbers : List Float) (tolerance : Float) where
  -- position k, or the last before it
  abbrev upto : ℕ → ℕ
  upto k = count list - 1 - (count list - 1 - k)

  abbrev after : ℕ → List PointI32
  after j = select (marks_after tolerance (drop j numbers)) (drop j (points list))

  -- what is still to be copied: all, and the points from a position on that are kept by their numbers
  abbrev rest : ℕ → List PointI32
  rest zero = kept (marks_by tolerance numbers) (points list)
  rest (suc k) = after (upto (suc k))

  rest_is : (k : ℕ) → 1 ≤ k → rest k ≡ after (upto k)
  rest_is zero h = absurd (omega arith)
  rest_is (suc k) h = refl

  module _ (some : 0 < count list) (each : length numbers ≡ count list) where
    started : (old : List ℤ) → Left (rest 0) old 1 (drop 1 (rest 0)) old → Left (rest 0) old 1 (rest 1) old
    started old l =
        passed l (rw (← length_points list) (kept_after tolerance numbers (points list) (omega (arith, length_points list)) (omega (arith, length_points list))))

    picked : (k : ℕ) → 1 ≤ k → k < length numbers - 1 → (t : Bool) → t ≡ lt tolerance (get_or numbers k nan) →
        rest k ≡ (if t then point_at list k ∷ rest (k + 1) else rest (k + 1))
    picked k h i t e = rest_is k h ∙ ap after here ∙ by t (sym e)
      where
        here : upto k ≡ k
        here = omega arith

        next : after (k + 1) ≡ rest (k + 1)
        next = let e : k + 1 ≡ upto (k + 1) = omega arith in ap after e ∙ sym (rest_is (k + 1) (omega arith))

        by : (t : Bool) → lt tolerance (get_or numbers k nan) ≡ t → after k ≡ (if t then point_at list k ∷ rest (k + 1) else rest (k + 1))
        by true e =
            above tolerance numbers (points list) (point_at list k) k nan (rw (length_points list) (omega arith)) (omega arith) e
            ∙ ap₂ (λ (p : PointI32) (ps : List PointI32). p ∷ ps) (points_at list k (point_at list k) (omega arith)) next
        by false e = not_above tolerance numbers (points list) (point_at list k) k nan (rw (length_points list) (omega arith)) (omega arith) e ∙ next

    finished : (old out : List ℤ) (n k : ℕ) → Left (rest 0) old n (rest k) out → 1 ≤ k → length numbers - 1 ≤ k →
        (n < length out / 2) × Left (rest 0) old n (point_at list (count list - 1) ∷ []) out
    finished old out n k l h m =
        let e : upto k ≡ count list - 1 = omega arith in
        let last = count list - 1 in
        let done : Left (rest 0) old n (point_at list (count list - 1) ∷ []) out =
        passed l (rest_is k h ∙ ap after e
        ∙ last_kept tolerance numbers (points list) (point_at list last) last nan (rw (length_points list) (omega arith)) (omega arith)
        ∙ ap (λ (p : PointI32). p ∷ []) (points_at list last (point_at list last) (omega arith))) in
        (omega (arith, room done), done)

pub returns : goal.returns
returns c =
    finished c.args.points.now c.args.numbers.now c.args.tolerance c.requires.0 c.requires.1 _ _ _ _
    (c.copy_those.ensures (rest c.args.points.now c.args.numbers.now c.args.tolerance)
    (λ k h i t p. picked _ _ _ c.requires.0 c.requires.1 k h i t (search (of_calls, rules)))
    (started _ _ _ c.requires.0 c.requires.1 _ c.requires.3))
    (omega arith) (omega arith)
