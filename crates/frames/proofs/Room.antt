-- What a call counts fits the buffer that it was lent, and the zero of the code is that of the definitions. Assumes nothing.
use Prim.Native.Nat.{ℕ, ◌*◌, ◌≤◌}
use mathlib.Core.Bool.{Bool}
use mathlib.Core.List.{List}
use mathlib.Core.Path.{◌≡◌, refl, ap}
use native.Mathlib.Omega.{arith}
use lib.Ieee.{Float, binary64, of_int, of_bits}
use lib.IntN.{ℤ, pos}
use lib.ListN.{length, length-replicate}
use Rattle.std.specs.Prelude.{Result, Ok, Err}
use Rattle.laws.specs.Outcome.{Outcome}
use Rattle.point.specs.Refusals.{count_of}
use Rattle.point.specs.declared.PointI32.{PointI32}
use Rattle.point.specs.declared.refusal.Refusal.{Refusal}
use Rattle.chart.specs.declared.Chart.{Chart}
use Rattle.walker.specs.Walk.{walked}
use Rattle.walker.proofs.Claims.{fits}
use Rattle.simplify.specs.Simplify.{simplify_of}
use Rattle.simplify.proofs.Claims.{simplify_fits}
use Rattle.reduce.specs.Numbers.{numbered_of}
use Rattle.reduce.specs.Reduce.{reduce_of}
use Rattle.reduce.proofs.Claims.{reduce_fits, numbers_fit}
use Rattle.frames.specs.Room.{room, marks, number_room}

pub walk_counts : (c : Chart) (pixels : List ℕ) (start : PointI32) (cw : Bool) → count_of (walked c pixels start cw room).answer * 2 ≤ 8190
walk_counts c pixels start cw = by (walked c pixels start cw room).answer refl
  where
    by : (a : Result ℕ Refusal) → (walked c pixels start cw room).answer ≡ a → count_of a * 2 ≤ 8190
    by (Ok n) e = omega (arith, fits c pixels start cw room n e, length-replicate 8190 (pos 0))
    by (Err r) e = omega arith

pub simplify_counts : (list : List ℤ) (cw : Bool) → count_of (simplify_of list cw room).answer * 2 ≤ 8190
simplify_counts list cw = omega (arith, (simplify_fits list room cw).counted, length-replicate 8190 (pos 0))

pub reduce_counts : (list : List ℤ) (tolerance : Float) → count_of (reduce_of list tolerance room room marks).answer * 2 ≤ 8190
reduce_counts list tolerance = omega (arith, reduce_fits list tolerance room room marks, length-replicate 8190 (pos 0))

-- any call that answers points, in a room for so many
pub counted_room : {B : Type 0} (a : Result ℕ Refusal) (b : B) (values : List ℤ) (o : Outcome (Result ℕ Refusal) B) →
    record { answer = a; out = b } ≡ o → length values ≡ 8190 → count_of o.answer * 2 ≤ 8190 → count_of a * 2 ≤ length values
counted_room {B = B} a b values o is size few = omega (arith, ap (λ (o : Outcome (Result ℕ Refusal) B). count_of o.answer) is)

pub numbers_counts : (list : List ℤ) → count_of (numbered_of list number_room).answer ≤ 2047
numbers_counts list = omega (arith, numbers_fit list number_room, length-replicate 2047 (of_int binary64 (pos 0)))

-- the literal 0.0 of the code
pub zero_is : of_bits binary64 0 ≡ of_int binary64 (pos 0)
unfolding of_bits of_int
zero_is = refl

-- in any buffer
pub numbers_room : (list : List ℤ) (a : Result ℕ Refusal) (old numbers : List Float) → record { answer = a; out = numbers } ≡ numbered_of list old →
    length numbers ≡ length old → count_of a ≤ length numbers
numbers_room list a old numbers is kept = omega (arith, numbers_fit list old, ap (λ (o : Outcome (Result ℕ Refusal) (List Float)). count_of o.answer) is)
