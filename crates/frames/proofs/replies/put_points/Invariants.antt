-- What is left to put, where it stands, gives the whole.
use Rattle.std.proofs.Common.{◌≡◌, drop}
use Rattle.frames.specs.Replies.{coordinates}
use Rattle.frames.proofs.Behind.{Left}
use Rattle.frames.proofs.replies.put_points.Given as goal

abbrev pub invariant-loop-value : goal.invariant-loop-value
invariant-loop-value l =
    Left (coordinates l.values) l.initial.pen.out.now l.initial.pen.at (coordinates (drop l.value-index l.values)) l.pen.out.now l.pen.at
    × (l.pen.out.ghost_name ≡ l.initial.pen.out.ghost_name)
