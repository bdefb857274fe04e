-- An edge walked back takes away what it added, and an edge from a point to itself adds nothing. Assumes nothing.
use mathlib.Core.Path.{◌≡◌}
use native.Mathlib.Omega.{arith}
use lib.IntN.{pos, neg_ℤ, ◌*ℤ◌}
use Rattle.laws.proofs.Ring.{eq_pn, sub_pn, neg_pn}
use Rattle.point.specs.declared.PointI32.{PointI32}
use Rattle.areas.specs.Areas.{edge}

pub to_itself : (p : PointI32) → edge p p ≡ pos 0
to_itself p = eq_pn (edge p p) (pos 0) (omega (arith, sub_pn (p.x *ℤ p.y) (p.x *ℤ p.y)))

pub walked_back : (p q : PointI32) → edge q p ≡ neg_ℤ (edge p q)
walked_back p q =
    eq_pn (edge q p) (neg_ℤ (edge p q))
    (omega (arith, sub_pn (p.x *ℤ q.y) (q.x *ℤ p.y), sub_pn (q.x *ℤ p.y) (p.x *ℤ q.y), neg_pn (edge p q)))
