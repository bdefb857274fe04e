-- The length of a side stays in its range, and the fields that the walk tests and turns by come back from their bits.
use Rattle.std.proofs.Common.{arith, ◌≡◌, ◌+ℤ◌, pos, false}
use Rattle.std.proofs.lemmas.Int.{ints}
use mir.Syntax.{w32}
use mir.Val.{SFits}
use mir.ValLaws.{to_z-of_z}
use lib.Signed.{lt_z}
use Rattle.spiral.specs.Spiral.{turned}
use Rattle.spiral.proofs.Ranges.{InRange, in_range, turned_fits}
use Rattle.spiral.proofs.places.onward.Goals as goal

pub corner-requires : goal.corner-requires
corner-requires c = let r : InRange c.args.s = in_range c.args.s c.requires in grind (arith, ints)

pub returns : goal.returns
returns c =
    let r : InRange c.args.s = in_range c.args.s c.requires in
    let dir : SFits w32 c.args.s.dir = omega (arith, ints) in
    let next : SFits w32 (turned c.args.s.dir) = turned_fits c.args.s.dir dir in
    let cc : SFits w32 (c.args.s.cc +ℤ pos 1) = omega (arith, ints) in
    let sq : SFits w32 c.args.s.sq = omega (arith, ints) in
    let e : c.turned.result ≡ turned c.args.s.dir = simp to_z-of_z at c.turned.ensures in
    let done : lt_z (c.args.s.cc +ℤ pos 1) c.args.s.sq ≡ false = simp (c.ahead-next.ensures, to_z-of_z) at c.if-next.false in
    simp (done, c.corner.ensures, e, to_z-of_z, c.ahead-next.ensures)
