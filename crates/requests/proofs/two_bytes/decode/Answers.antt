-- Nothing is put before the first turn, and all of it after the last.
use Rattle.std.proofs.Common.{sym, rules}
use Rattle.laws.proofs.Lists.{over_nil}
use Rattle.requests.proofs.Values.{how_many, all_put}
use Rattle.requests.proofs.two_bytes.decode.Goals as goal

pub loop-i-init : goal.loop-i-init
loop-i-init c = sym (over_nil _)

pub returns : goal.returns
returns c = search (how_many, all_put, rules)
