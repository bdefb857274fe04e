-- What a crossing says of its two lines. "The three look at the ratios alone and refuse nothing."
use Rattle.std.specs.Prelude.{Bool, true, false, not, ◌&&◌, ◌||◌, pos, Float, is_nan}
use Rattle.std.specs.Float.{binary64}
use Rattle.std.specs.Float.Ieee.{of_int, of_bits, add, sub, lt}
use Rattle.util.specs.declared.ratios.Intersection.{Intersection}
use Rattle.util.specs.declared.ratios.Intersection.TheVariants.{Parallel, Coincide, Cross, Refused}

-- "`outside` uses 1e-3"
abbrev pub margin : Float
margin = of_bits binary64 0x3f50624dd2f1a9fc

-- a ratio that lies off its line; a NaN is neither below nor above
unfoldable pub off : Float → Bool
off mu = lt mu (sub binary64 (of_int binary64 (pos 0)) margin) || lt (add binary64 (of_int binary64 (pos 1)) margin) mu

-- "Coincide counts as inside. In Cross a NaN ratio alone never makes it outside". "Asked of Parallel, all three say no"
unfoldable pub outside_of : Intersection → Bool
unfolding off
outside_of Parallel = false
outside_of (Coincide p) = false
outside_of (Cross p mua mub) = off mua || off mub
outside_of (Refused r) = false

unfoldable pub inside_of : Intersection → Bool
unfolding off
inside_of Parallel = false
inside_of (Coincide p) = true
inside_of (Cross p mua mub) = not (off mua || off mub)
inside_of (Refused r) = false

-- "it coincides if both are NaN"
unfoldable pub coincide_of : Intersection → Bool
coincide_of Parallel = false
coincide_of (Coincide p) = true
coincide_of (Cross p mua mub) = is_nan mua && is_nan mub
coincide_of (Refused r) = false
