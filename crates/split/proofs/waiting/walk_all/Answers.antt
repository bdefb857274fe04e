-- What `walk_all` leaves to show: the stores of the whole call are the answer, laid over the start of the buffer. Assumes nothing.
use Prim.Native.Nat.{◌-◌, ◌/◌, ◌<◌}
use native.Mathlib.Omega.{arith}
use lib.ListN.{length}
use Rattle.std.proofs.Common.{List, ◌≡◌, ap, ap₂}
use Rattle.std.specs.Prelude.{Bool, ℤ, Float}
use Rattle.split.specs.Tree.{tree}
use Rattle.split.specs.inside.Passes.{counted_over}
use Rattle.split.proofs.Buffers.{laid_none, all_laid}
use Rattle.split.proofs.Fitting.{counted, too_many, too_short, fits_none, fits_all}
use Rattle.split.proofs.Passing.{no_values}
use Rattle.split.proofs.Visited.{none_visited}
use Rattle.split.proofs.waiting.walk_all.Goals as goal

module _ {A : Type 0} (splits : Float → Bool) (points : List ℤ) (new m : List A) where
  no_point : length points / 2 ≡ 0 → counted 0 m ≡ counted_over splits points new m
  unfolding counted_over tree
  no_point h = rw (fits_none points m h, none_visited points splits 0 (length points / 2 - 1) (omega arith)) (ap (counted 0) (laid_none points new m h))

  many : 4096 < length points / 2 → counted 0 m ≡ counted_over splits points new m
  unfolding counted_over
  many h = rw (too_many points m h)

  short : length m < length points / 2 → counted 0 m ≡ counted_over splits points new m
  unfolding counted_over
  short h = rw (too_short points m h)

pub returns-then-n-eq0 : goal.returns-then-n-eq0
returns-then-n-eq0 g c = no_point _ _ _ _ c.if-n-eq0.true

pub returns-then-n-gt4096 : goal.returns-then-n-gt4096
returns-then-n-gt4096 g c = many _ _ _ _ c.if-n-gt4096.true

pub returns-then-out-n : goal.returns-then-out-n
returns-then-out-n g c = short _ _ _ _ c.if-out-n.true

pub returns : goal.returns
unfolding counted_over tree
returns g c =
    let laws = c.requires.laws in
    rw (fits_all c.args.points.now c.args.out.now c.if-n-gt4096.false c.if-out-n.false)
    (ap₂ counted c.walk_spans.ensures.1
    (all_laid c.args.points.now _ (g.P.Pass.rules.values c.args.pass) (laws.sized c.args.pass) (no_values _ laws c.args.pass) c.args.out.now c.walk_spans.new.out c.if-n-eq0.false c.if-out-n.false
    (rw (c.cell.ensures, c.cell-2.ensures) at c.walk_spans.ensures.0)))
