-- The test for a costly outline as the code makes it, a penalty at a time.
use Rattle.std.specs.Prelude.{Bool, pos, Float}
use Rattle.std.specs.Float.{binary64}
use Rattle.std.specs.Float.Ieee.{of_int, le}

-- a penalty that is the tolerance or more; a NaN is not
unfoldable pub reaches : Float → Bool
reaches v = le (of_int binary64 (pos 1)) v
