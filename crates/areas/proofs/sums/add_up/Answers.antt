use native.Mathlib.Omega.{arith}
use borrow.Author.Rules.{rules}
use Rattle.areas.proofs.Ways.{near_at}
use Rattle.areas.proofs.Chosen.{chosen_begun, room_for_an_edge, near_last, point_dropped, point_kept, chosen_ended}
use Rattle.areas.proofs.sums.add_up.Goals.{then-marks-k-ne0, else-marks-k-ne0}
use Rattle.areas.proofs.sums.add_up.Goals as goal

pub loop-k-init : goal.loop-k-init
loop-k-init c = (c.point_at-first.ensures, search chosen_begun)

pub along-sums-requires : goal.along-sums-requires
along-sums-requires c = (search (room_for_an_edge, rules), search near_last, search near_at)

pub across-sums-requires : goal.across-sums-requires
across-sums-requires c = (c.along-sums.ensures.1, c.loop-k.invariant.1.near_from, search near_at)

pub loop-k-preserved : goal.loop-k-preserved
loop-k-preserved c = elim c.if-marks-k-ne0.branch [
  | then-marks-k-ne0 w ↦ rw (w.from-is, w.sums-is) (c.point_at-first.ensures, search (point_kept, rules))
  | else-marks-k-ne0 w ↦ rw (w.from-is, w.sums-is) (c.point_at-first.ensures, search (point_dropped, rules))
]

pub closed-requires : goal.closed-requires
closed-requires c = (search (room_for_an_edge, rules), search near_last, search near_at)

pub returns : goal.returns
returns c =
    chosen_ended _ _ c.requires.0 c.requires.3 c.requires.4 _ _ _ _ c.loop-k.invariant.1 (omega arith) c.loop-k-test.false
    _ c.point_at-first.ensures _ c.closed.ensures
