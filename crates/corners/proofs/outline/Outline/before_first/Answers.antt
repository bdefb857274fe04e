-- A turn looks at the point before this position.
use Prim.Native.Nat.{ℕ, zero, suc, ◌-◌, ◌<◌, ◌≤◌}
use mathlib.Core.Bool.{Bool, true, false, not}
use mathlib.Core.List.{List, [], ◌∷◌, reverse}
use mathlib.Core.Path.{◌≡◌, refl, sym, ap, ◌∙◌}
use native.Mathlib.Omega.{arith}
use lib.IntN.{ℤ}
use lib.Seq.{slice, slice_empty}
use borrow.Author.Rules.{rules}
use borrow.Author.Tests.{not-true, not-false}
use Rattle.point.specs.declared.PointI32.{PointI32}
use Rattle.point.specs.Points.{count, seen, points, point_at, same_point}
use Rattle.point.proofs.Room.{seen_few}
use Rattle.point.proofs.SamePoint.{same_point_lem}
use Rattle.corners.specs.Corners.{first_other, nearest}
use Rattle.corners.specs.inside.Places.{back, ahead}
use Rattle.corners.proofs.Others.{near_at, reverse_slice, passed, found}
use Rattle.corners.proofs.outline.Outline.before_first.Invariants.{down}
use Rattle.corners.proofs.outline.Outline.before_first.Goals as goal

open_list : (list : List ℤ) (closed : Bool) (m : ℕ) (p : PointI32) → not closed ≡ true → p ≡ nearest closed p (back list 0) (ahead list m 0)
unfolding nearest first_other
open_list list closed m p c = rw (not-true closed c)

-- positions of which none is from 1 up to, not including, k
none_left : (l : List PointI32) (k : ℕ) → k ≤ 1 → slice 1 k l ≡ []
none_left l zero h = refl
none_left l (suc zero) h = slice_empty 1 l
none_left l (suc (suc k)) h = absurd (omega arith)

module _ (list : List ℤ) (closed : Bool) (m : ℕ) (c : closed ≡ true) (p : PointI32) where
  answered : (r : PointI32) → down list p m ≡ r → r ≡ nearest closed p (back list 0) (ahead list m 0)
  unfolding nearest
  answered r e = rw c (sym e)

  module _ (e : m ≡ seen (count list) closed) (k : ℕ) (h : 1 < k) (l : k ≤ m) (b : down list p m ≡ down list p k) (q : PointI32) (eq : q ≡ point_at list (k - 1)) where
    one_down : down list p m ≡ first_other p (q ∷ reverse (slice 1 (k - 1) (points list)))
    one_down =
        let n : k ≡ suc (k - 1) = omega arith in
        b
        ∙ ap (down list p) n
        ∙ ap (first_other p) (reverse_slice list 1 (k - 1) (omega arith) (omega (arith, seen_few closed m (count list) e)))
        ∙ ap (λ (r : PointI32). first_other p (r ∷ reverse (slice 1 (k - 1) (points list)))) (sym eq)

    module _ (t : Bool) (says : t ≡ not (same_point p q)) where
      onward : t ≡ false → down list p m ≡ down list p (k - 1)
      onward f = one_down ∙ passed p q (reverse (slice 1 (k - 1) (points list))) (sym (same_point_lem p q (not-false (same_point p q) (sym says ∙ f))))

      here : t ≡ true → q ≡ nearest closed p (back list 0) (ahead list m 0)
      here f = answered q (one_down ∙ found p q (reverse (slice 1 (k - 1) (points list))) (not-true (same_point p q) (sym says ∙ f)))

  nowhere : (k : ℕ) → k ≤ 1 → down list p m ≡ down list p k → p ≡ nearest closed p (back list 0) (ahead list m 0)
  unfolding first_other
  nowhere k h b = answered p (b ∙ ap (λ (l : List PointI32). first_other p (reverse l)) (none_left (points list) k h))

pub returns-then-not-self : goal.returns-then-not-self
returns-then-not-self c = search (open_list, near_at, rules)

pub returns-then-ne : goal.returns-then-ne
returns-then-ne c =
    (search (near_at, rules), here _ _ _ c.if-not-self.false _ c.args.self.now.flagged c.loop-k.k c.loop-k-test.true c.loop-k.auto.k c.loop-k.invariant _ c.point_at-q.ensures _ (search rules) c.if-ne.true)

pub loop-k-preserved : goal.loop-k-preserved
loop-k-preserved c =
    onward _ _ _ c.if-not-self.false _ c.args.self.now.flagged c.loop-k.k c.loop-k-test.true c.loop-k.auto.k c.loop-k.invariant _ c.point_at-q.ensures _ (search rules) c.if-ne.false

pub returns : goal.returns
returns c = (search (near_at, rules), search (nowhere, rules))
