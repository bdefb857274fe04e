-- The loop of `walk_spans`. `Turn`: what the span at hand and then those that wait, the last of them first, still come to and count gives the
-- whole. What falls is two for each interior point left, and one for each span.
use Rattle.split.proofs.Passing.{Ends, piece}
use Rattle.split.proofs.Turns.{Turn, to_do_of}
use Rattle.split.proofs.waiting.walk_spans.Given as goal

abbrev pub invariant-loop-last : goal.invariant-loop-last
invariant-loop-last g l =
    let r = g.P.Pass.rules in
    Turn l.points (r.splits l.pass) (Ends r l.pass) (piece r l.pass l.points) l.end l.initial.out l.out l.waiting.first l.waiting.last l.waiting.count l.first l.last l.distances

abbrev pub decreases-loop-last : goal.decreases-loop-last
decreases-loop-last g l = to_do_of l.waiting.first l.waiting.last l.waiting.count l.first l.last
