-- On the way along a list of points: what was added up, and what the points from the i-th on still add, is what the whole list has. Assumes nothing.
use Prim.Native.Nat.{ℕ, ◌+◌, ◌*◌, ◌-◌, ◌<◌, ◌≤◌}
use mathlib.Core.Bool.{false}
use mathlib.Core.List.{List, [], ◌∷◌}
use mathlib.Core.Path.{◌≡◌, sym, ap, ap₂, subst, ◌∙◌}
use native.Mathlib.Numerals.{add-one}
use native.Mathlib.Omega.{arith}
use lib.IntN.{ℤ, pos, nat_abs, ◌+ℤ◌, ◌*ℤ◌}
use lib.ListN.{drop, drop_of_length-le}
use lib.Seq.{drop-cons}
use Rattle.laws.proofs.Integers.{abs_add_le, abs_sub_le, abs_mul_le}
use Rattle.laws.proofs.Ring.{eq_pn, add_pn}
use Rattle.point.specs.Limits.{bad_points}
use Rattle.point.specs.Points.{count, points, point_at}
use Rattle.point.specs.declared.PointI32.{PointI32}
use Rattle.point.specs.inside.Near.{Near}
use Rattle.point.proofs.Flat.{length_points, points_at}
use Rattle.point.proofs.Near.{limit_x, limit_y}
use Rattle.areas.specs.Areas.{edge, back_to, twice_area}
use Rattle.areas.proofs.Edges.{to_itself}

-- a point of a list that is not refused lies within the limits
pub near_at : (list : List ℤ) → bad_points list ≡ false → (p : PointI32) (k : ℕ) → p ≡ point_at list k → Near p
near_at list good p k e = record { across = limit_x list good p k e; down = limit_y list good p k e }

pub small_edge : (p q : PointI32) → Near p → Near q → nat_abs (edge p q) ≤ 536805378
small_edge p q n o =
    abs_sub_le (p.x *ℤ q.y) (q.x *ℤ p.y) (abs_mul_le p.x q.y n.across o.down) (abs_mul_le q.x p.y o.across n.down)

-- ---- sums

pub from_nothing : (z : ℤ) → pos 0 +ℤ z ≡ z
from_nothing z = eq_pn (pos 0 +ℤ z) z (omega (arith, add_pn (pos 0) z))

pub one_more : (a e r : ℤ) → a +ℤ e +ℤ r ≡ a +ℤ (e +ℤ r)
one_more a e r = eq_pn (a +ℤ e +ℤ r) (a +ℤ (e +ℤ r)) (omega (arith, add_pn (a +ℤ e) r, add_pn a e, add_pn a (e +ℤ r), add_pn e r))

-- ---- the area of a list

-- where the way begins: at the first point, if there is one
from_first : (list : List ℤ) → pos 0 +ℤ back_to (point_at list 0) (point_at list 0) (drop 1 (points list)) ≡ twice_area (points list)
unfolding points twice_area back_to
from_first [] = from_nothing (edge (point_at [] 0) (point_at [] 0)) ∙ to_itself (point_at [] 0)
from_first (x ∷ []) = from_nothing (edge (point_at (x ∷ []) 0) (point_at (x ∷ []) 0)) ∙ to_itself (point_at (x ∷ []) 0)
from_first (x ∷ y ∷ list) = from_nothing (twice_area (points (x ∷ y ∷ list)))

module _ (list : List ℤ) where
  abbrev pub first : PointI32
  first = point_at list 0

  abbrev pub ahead : ℕ → List PointI32
  ahead i = drop i (points list)

  pub next : (i : ℕ) → i < count list → ahead i ≡ point_at list i ∷ ahead (i + 1)
  next i h =
      drop-cons (points list) i (point_at list i) (rw (length_points list) h)
      ∙ ap₂ (λ (p : PointI32) (k : ℕ). p ∷ ahead k) (points_at list i (point_at list i) h) (sym (add-one i))

  pub none_ahead : (i : ℕ) → count list ≤ i → ahead i ≡ []
  none_ahead i h = drop_of_length-le (points list) {i = i} (rw (length_points list) h)

  pub record Along (i : ℕ) (prev : PointI32) (sum : ℤ) : Type 0 where
    pub left : sum +ℤ back_to first prev (ahead i) ≡ twice_area (points list)
    pub last : prev ≡ point_at list (i - 1)
    pub small : nat_abs sum ≤ i * 536805378

  pub begun : (p : PointI32) → p ≡ first → Along 1 p (pos 0)
  begun p e = record { left = rw e (from_first list); last = e; small = omega arith }

  module _ (good : bad_points list ≡ false) (i : ℕ) (prev : PointI32) (sum : ℤ) (way : Along i prev sum) where
    pub near_prev : Near prev
    near_prev = near_at list good prev (i - 1) way.last

    pub passed : i < count list → (p : PointI32) → p ≡ point_at list i → (more : ℤ) → more ≡ sum +ℤ edge prev p → Along (i + 1) p more
    unfolding back_to
    passed h p is more e =
        let near : Near p = near_at list good p i is in
        let here : i + 1 - 1 ≡ i = omega arith in
        record {
          left = rw (e, one_more sum (edge prev p) (back_to first p (ahead (i + 1))))
              (subst (λ (ps : List PointI32). sum +ℤ back_to first prev ps ≡ twice_area (points list)) (next i h ∙ ap (λ (q : PointI32). q ∷ ahead (i + 1)) (sym is)) way.left);
          last = rw here is;
          small = rw e (omega (arith, abs_add_le sum (edge prev p) way.small (small_edge prev p near_prev near)));
        }

    pub ended : count list ≤ i → (r : ℤ) → r ≡ sum +ℤ edge prev first → r ≡ twice_area (points list)
    unfolding back_to
    ended h r e = e ∙ subst (λ (ps : List PointI32). sum +ℤ back_to first prev ps ≡ twice_area (points list)) (none_ahead i h) way.left
