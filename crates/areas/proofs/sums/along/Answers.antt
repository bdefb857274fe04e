use Rattle.areas.proofs.Added.{along_made, along_small}
use Rattle.areas.proofs.sums.along.Goals as goal

pub returns : goal.returns
returns c = (search along_made, search along_small)
