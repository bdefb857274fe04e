-- The scratch of `reduce`: the radial list at its start, or nothing where a list is answered whole.
use Rattle.std.specs.Prelude.{ℕ, ◌*◌, Bool, true, false, List, ◌≡◌, ℤ, take, Option, Some, None}
use Rattle.point.specs.declared.PointI32.{PointI32}
use Rattle.point.specs.inside.Written.{Handed}

-- what was written to a scratch that was `old`, and how many points are answered
abbrev pub Filled : Bool → List PointI32 → List ℤ → Option ℕ → List ℤ → Type 0
Filled true ring old kept now = (kept ≡ None) × (now ≡ old)
Filled false ring old kept now = (n : ℕ) × (kept ≡ Some n) × Handed ring old n now

-- the part of the two lists that is gone on with
abbrev pub part_of : Option ℕ → List ℤ → List ℤ → List ℤ
part_of None list scratch = list
part_of (Some n) list scratch = take (n * 2) scratch
