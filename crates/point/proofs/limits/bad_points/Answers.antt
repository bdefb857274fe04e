use Rattle.std.proofs.Common.{rules}
use Rattle.std.proofs.lemmas.List.{take_all}
use Rattle.point.proofs.Every.{odd, even}
use Rattle.point.proofs.limits.bad_points.Goals as goal

pub returns-then-points-ne0 : goal.returns-then-points-ne0
returns-then-points-ne0 g c = search (odd, rules)

pub returns : goal.returns
returns g c = search (even, take_all, rules)
