-- The digits from `i` on are those behind the first ones, which the byte holds.
use Rattle.std.proofs.Common.{◌≡◌, ◌≤◌, ◌-◌, length, drop}
use Rattle.pbm.specs.Bytes.{packed}
use Rattle.pbm.specs.Raster.{digits_in}
use Rattle.pbm.proofs.Digits.{skip, bit}
use Rattle.pbm.proofs.plain.gather.Given as goal

abbrev pub invariant-loop-wanted : goal.invariant-loop-wanted
invariant-loop-wanted l =
    (l.wanted ≤ l.n)
    × (l.byte ≡ packed (l.n - l.wanted) (bit (digits_in l.n (drop l.from l.file))))
    × (digits_in l.wanted (drop l.i l.file) ≡ skip (l.n - l.wanted) (digits_in l.n (drop l.from l.file)))

abbrev pub decreases-loop-wanted : goal.decreases-loop-wanted
decreases-loop-wanted l = length l.file - l.i
