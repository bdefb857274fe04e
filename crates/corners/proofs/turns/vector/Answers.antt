-- Each difference is handed on by its bits.
use mathlib.Core.Path.{◌≡◌, refl}
use mir.Syntax.{w32}
use mir.Val.{of_z, to_z}
use Rattle.point.specs.declared.PointI32.{PointI32}
use Rattle.point.specs.inside.Near.{Near}
use Rattle.util.proofs.ByBits.{apart, apart_by_bits, apart_within}
use Rattle.corners.specs.Corners.{vector}
use Rattle.corners.specs.inside.Sizes.{Short}
use Rattle.corners.proofs.turns.vector.Goals as goal

abbrev by_bits : PointI32 → PointI32 → PointI32
by_bits p q = record { x = to_z w32 (of_z w32 (apart q.x p.x)); y = to_z w32 (of_z w32 (apart q.y p.y)) }

short : (p q : PointI32) → Near p → Near q → (by_bits p q ≡ vector p q) × Short (by_bits p q)
short p q np nq =
    rw (apart_by_bits q.x p.x nq.across np.across, apart_by_bits q.y p.y nq.down np.down)
    (refl, record { across = apart_within q.x p.x nq.across np.across; down = apart_within q.y p.y nq.down np.down })

pub returns : goal.returns
returns c = short c.args.p c.args.q c.requires.0 c.requires.1
