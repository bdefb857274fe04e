use Rattle.areas.proofs.Added.{across_made}
use Rattle.areas.proofs.sums.across.Goals as goal

pub returns : goal.returns
returns c = search across_made
