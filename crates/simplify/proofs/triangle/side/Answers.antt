-- Each difference is handed on by its bits.
use mathlib.Core.Path.{◌≡◌}
use mir.Syntax.{w32}
use mir.Val.{of_z, to_z}
use lib.Ieee.{Float, binary64, add}
use borrow.Author.Rules.{rules}
use Rattle.point.specs.declared.PointI32.{PointI32}
use Rattle.point.specs.inside.Near.{Near}
use Rattle.sqrt.specs.Root.{root_of}
use Rattle.util.proofs.ByBits.{apart, apart_by_bits}
use Rattle.simplify.specs.Penalties.{sq, side}
use Rattle.simplify.proofs.triangle.side.Goals as goal

rooted : (p q : PointI32) (a b r : Float) → r ≡ root_of binary64 (add binary64 a b) → a ≡ sq (to_z w32 (of_z w32 (apart p.x q.x))) →
    b ≡ sq (to_z w32 (of_z w32 (apart p.y q.y))) → Near p → Near q → r ≡ side p q
rooted p q a b r e f g np nq = rw (e, f, g, apart_by_bits p.x q.x np.across nq.across, apart_by_bits p.y q.y np.down nq.down)

pub returns : goal.returns
returns c = search (rooted, rules)
