-- Each sum of fields in range fits its type.
use Rattle.std.proofs.Common.{arith, ◌+ℤ◌, pos}
use Rattle.std.proofs.lemmas.Int.{ints}
use mir.Syntax.{w32}
use mir.Val.{SFits}
use mir.ValLaws.{to_z-of_z}
use Rattle.spiral.proofs.Ranges.{InRange, in_range}
use Rattle.spiral.proofs.places.ahead.Goals as goal

pub overflow_add-result : goal.overflow_add-result
overflow_add-result c = let r : InRange c.args.s = in_range c.args.s c.requires in omega (arith, ints)

pub overflow_add-result-2 : goal.overflow_add-result-2
overflow_add-result-2 c = let r : InRange c.args.s = in_range c.args.s c.requires in omega (arith, ints)

pub overflow_add-result-3 : goal.overflow_add-result-3
overflow_add-result-3 c = let r : InRange c.args.s = in_range c.args.s c.requires in omega (arith, ints)

pub overflow_add-result-4 : goal.overflow_add-result-4
overflow_add-result-4 c = let r : InRange c.args.s = in_range c.args.s c.requires in omega arith

pub returns : goal.returns
returns c =
    let r : InRange c.args.s = in_range c.args.s c.requires in
    let x : SFits w32 c.args.s.x = omega (arith, ints) in
    let y : SFits w32 c.args.s.y = omega (arith, ints) in
    let dir : SFits w32 c.args.s.dir = omega (arith, ints) in
    let gx : SFits w32 c.args.s.gx = omega (arith, ints) in
    let gy : SFits w32 c.args.s.gy = omega (arith, ints) in
    let sq : SFits w32 c.args.s.sq = omega (arith, ints) in
    let cc : SFits w32 c.args.s.cc = omega (arith, ints) in
    let next_x : SFits w32 (c.args.s.x +ℤ c.args.s.gx) = omega (arith, ints) in
    let next_y : SFits w32 (c.args.s.y +ℤ c.args.s.gy) = omega (arith, ints) in
    let next_cc : SFits w32 (c.args.s.cc +ℤ pos 1) = omega (arith, ints) in
    simp to_z-of_z
