-- Totals: "10 when a total would leave i64".
use Rattle.std.specs.Prelude.{Bool, ◌&&◌, ℤ, pos, negsuc, ◌+ℤ◌, if◌then◌else◌, Result, Ok, Err}
use Rattle.std.specs.Int.Signed.{le_z}
use Rattle.point.specs.declared.refusal.Refusal.{Refusal}
use Rattle.point.specs.declared.refusal.Refusal.TheVariants.{NoRoom}
use Rattle.areas.specs.declared.Areas.{Areas}

-- i64 holds it: from -2^63 to 2^63 - 1
unfoldable pub fits : ℤ → Bool
fits z = le_z (negsuc 9223372036854775807) z && le_z z (pos 9223372036854775807)

-- each of the three areas of two, added up
abbrev pub plus : Areas → Areas → Areas
plus a b = record { whole = a.whole +ℤ b.whole; kept = a.kept +ℤ b.kept; gaps = a.gaps +ℤ b.gaps }

unfoldable pub together_of : Areas → Areas → Result Areas Refusal
unfolding fits
together_of a b =
    if fits (a.whole +ℤ b.whole) && fits (a.kept +ℤ b.kept) && fits (a.gaps +ℤ b.gaps) then Ok (plus a b) else Err NoRoom
