-- What `subdivide_keep_corners` refuses and answers, and what the two buffers lent to it then hold.
use Rattle.std.specs.Prelude.{ℕ, ◌-◌, ◌*◌, Bool, not, ◌&&◌, ◌||◌, List, ◌++◌, ltb, pos, Float, length, Result, Ok}
use Rattle.std.proofs.Math.Option.{Option, none}
use Rattle.std.specs.Float.{binary64}
use Rattle.std.specs.Float.Ieee.{of_int}
use Rattle.laws.specs.Lists.{over}
use Rattle.laws.specs.Outcome.{Outcome}
use Rattle.point.specs.Limits.{too_many, bad_points_f64, bad_flags, within}
use Rattle.point.specs.Outcomes.{outcome}
use Rattle.point.specs.Points.{count, seen}
use Rattle.point.specs.Refusals.{refuse◌when◌or◌}
use Rattle.point.specs.declared.PointF64.{PointF64}
use Rattle.point.specs.declared.refusal.Refusal.{Refusal}
use Rattle.point.specs.declared.refusal.Refusal.TheVariants.{TooMany, BadPoint, TooFew, BadFlags, BadSettings, NoRoom}
use Rattle.smooth.specs.Places.{flat_f64}
use Rattle.smooth.specs.Round.{Made, round_of, closing}
use Rattle.smooth.specs.declared.scheme.Settings.{Settings}
use Rattle.smooth.specs.declared.Subdivided.{Subdivided}

-- ---- what it refuses

-- "Outset ratio 1 to 1,000; segment length 0 to 65,536"; "out of range or NaN"
abbrev pub bad_settings : Settings → Bool
bad_settings settings =
    not (within (of_int binary64 (pos 1)) settings.ratio (of_int binary64 (pos 1000))) ||
    not (within (of_int binary64 (pos 0)) settings.length (of_int binary64 (pos 65536)))

-- "subdivision needs 2n-1 points and 2n-1 flags (none for n=0)"
abbrev pub round_places : ℕ → ℕ
round_places n = n * 2 - 1

-- a room of so many values, or one of so many flags, is too short for n points
abbrev pub too_short : ℕ → ℕ → ℕ → Bool
too_short n room flagRoom = ltb room (round_places n * 2) || ltb flagRoom (round_places n)

-- the refusals, lowest first. TooFew is for "closed subdivision of fewer than 2"
abbrev pub round_refusal : List Float → List ℕ → Settings → Bool → ℕ → ℕ → Option Refusal
round_refusal list corners settings closed room flagRoom =
    refuse TooMany when too_many (length list) or
    refuse BadPoint when bad_points_f64 list or
    refuse TooFew when closed && ltb (count list) 2 or
    refuse BadFlags when bad_flags (seen (count list) closed) corners or
    refuse BadSettings when bad_settings settings or
    refuse NoRoom when too_short (count list) room flagRoom or
    none

-- ---- what it does

-- the points, the closing one behind them, and the flags, each over the start of its buffer
abbrev pub rounded : Made → List PointF64 → List Float → List ℕ → Outcome (Result Subdivided Refusal) (List Float × List ℕ)
rounded made end out flags = record {
  answer = Ok (record { points = length (made.points ++ end); finished = made.finished });
  out = (over (flat_f64 (made.points ++ end)) out, over made.flags flags);
}

unfoldable pub subdivided_of : List Float → List ℕ → Settings → Bool → List Float → List ℕ → Outcome (Result Subdivided Refusal) (List Float × List ℕ)
unfolding outcome round_of flat_f64 over
subdivided_of list corners settings closed out flags =
    outcome (round_refusal list corners settings closed (length out) (length flags)) (out, flags)
    (rounded (round_of list corners settings closed) (closing list closed) out flags)
