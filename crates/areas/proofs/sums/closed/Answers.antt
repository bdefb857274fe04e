use Rattle.areas.proofs.Added.{closed_made}
use Rattle.areas.proofs.sums.closed.Goals as goal

pub returns : goal.returns
returns c = search closed_made
