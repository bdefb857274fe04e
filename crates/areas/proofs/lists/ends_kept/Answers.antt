use borrow.Author.Tests.{eq-eqb, ne_eqb}
use Rattle.areas.specs.Areas.{ends_kept}
use Rattle.areas.proofs.lists.ends_kept.Goals as goal

pub returns-then-kept-ne0 : goal.returns-then-kept-ne0
unfolding ends_kept
returns-then-kept-ne0 c = rw (ne_eqb _ _ c.if-kept-ne0.true)

pub returns-else-kept-ne0 : goal.returns-else-kept-ne0
unfolding ends_kept
returns-else-kept-ne0 c = rw (eq-eqb _ _ c.if-kept-ne0.false)
