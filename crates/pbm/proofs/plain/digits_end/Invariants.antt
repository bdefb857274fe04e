-- What is left of the digits from `i` on ends where all of them do.
use Rattle.std.proofs.Common.{◌≡◌, ◌≤◌, ◌-◌, length, drop}
use Rattle.pbm.specs.Raster.{digits_in}
use Rattle.pbm.specs.inside.Places.{behind_digits}
use Rattle.pbm.proofs.plain.digits_end.Given as goal

abbrev pub invariant-loop-left : goal.invariant-loop-left
invariant-loop-left l = (l.i ≤ length l.file) × (behind_digits (digits_in l.left (drop l.i l.file)) ≡ behind_digits (digits_in l.n (drop l.from l.file)))

abbrev pub decreases-loop-left : goal.decreases-loop-left
decreases-loop-left l = length l.file - l.i
