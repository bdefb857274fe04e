-- A turn takes the round one point on; at its end it is the whole round.
use Rattle.std.proofs.Common.{rules}
use Rattle.smooth.proofs.SoFar.{begun, few, turned, ended, last_fits, closed_again}
use Rattle.smooth.proofs.outline.Outline.round.Goals as goal

pub loop-i-init : goal.loop-i-init
loop-i-init c = begun _ _ _ _ _ _ _

pub turn-t-requires : goal.turn-t-requires
turn-t-requires c = search (rules, few)

pub loop-i-preserved : goal.loop-i-preserved
loop-i-preserved c =
    turned _ _ _ _ _ _ _ _ _ _ _ _ c.loop-i.invariant c.loop-i-test.true c.requires.2 c.requires.3 _ _ _ c.turn-t.ensures

pub write-requires : goal.write-requires
write-requires c = search (rules, last_fits)

pub overflow_add-k : goal.overflow_add-k
overflow_add-k c = search (rules, few)

pub returns-then-self : goal.returns-then-self
returns-then-self c = search (rules, closed_again)

pub returns-else-self : goal.returns-else-self
returns-else-self c = search (rules, ended)
