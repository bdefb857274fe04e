-- Two texts put one behind the other are put as one.
use borrow.Author.Rules.{rules}
use Rattle.texts.proofs.Pieces.{put_then}
use Rattle.pbm.proofs.write.put_size.Goals as goal

pub returns : goal.returns
returns c = search (put_then, rules)
