use Rattle.std.proofs.Common.{rules}
use Rattle.walker.proofs.exits.Words.{right_after, exits_after, exits_after_left}
use Rattle.walker.proofs.exits.exits_after.Goals as goal

pub returns-in-true-eq0 : goal.returns-in-true-eq0
unfolding right_after
returns-in-true-eq0 c = search (exits_after, rules)

pub returns-in-true-eq1 : goal.returns-in-true-eq1
unfolding right_after
returns-in-true-eq1 c = search (exits_after, rules)

pub returns-in-true-eq2 : goal.returns-in-true-eq2
unfolding right_after
returns-in-true-eq2 c = search (exits_after, rules)

pub returns-in-true-default : goal.returns-in-true-default
unfolding right_after
returns-in-true-default c = search (exits_after_left, rules)

pub returns-in-false-eq0 : goal.returns-in-false-eq0
unfolding right_after
returns-in-false-eq0 c = search (exits_after, rules)

pub returns-in-false-eq1 : goal.returns-in-false-eq1
unfolding right_after
returns-in-false-eq1 c = search (exits_after, rules)

pub returns-in-false-eq2 : goal.returns-in-false-eq2
unfolding right_after
returns-in-false-eq2 c = search (exits_after, rules)

pub returns-in-false-default : goal.returns-in-false-default
unfolding right_after
returns-in-false-default c = search (exits_after_left, rules)
