use Rattle.std.proofs.Common.{rules}
use Rattle.walker.proofs.run.Running.{around_small, again}
use Rattle.walker.proofs.run.run.Goals as goal

pub exit_in-next-requires : goal.exit_in-next-requires
exit_in-next-requires c = search (around_small, rules)

pub loop-next-preserved : goal.loop-next-preserved
loop-next-preserved c = search (again, rules)
