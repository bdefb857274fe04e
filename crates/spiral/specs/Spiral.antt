-- Document 01, "Spiral": the Rust's SpiralWalker, one step at a time. Odd sizes from 3 leave the square, as there.
-- `Option` is the code's own, of a step or a point; `Maybe` is that of a list of refusals.
use Rattle.std.specs.Prelude.{ℕ, ◌+◌, ◌*◌, ◌/◌, ◌%◌, Bool, not, ◌&&◌, ltb, leb, eqb, ℤ, pos, negsuc, nat_abs, ◌+ℤ◌, ◌-ℤ◌, if◌then◌else◌, Option, Some, None, Result, Ok, Err}
use Rattle.std.proofs.Math.Option.{Option as Maybe, some, none}
use Rattle.std.specs.Int.Signed.{le_z, lt_z}
use Rattle.laws.specs.Outcome.{Outcome}
use Rattle.point.specs.Refusals.{refuse◌when◌or◌}
use Rattle.point.specs.declared.PointI32.{PointI32}
use Rattle.point.specs.declared.refusal.Refusal.{Refusal}
use Rattle.point.specs.declared.refusal.Refusal.TheVariants.{BadSize}
use Rattle.spiral.specs.declared.SpiralWalker.{SpiralWalker}
use Rattle.spiral.specs.declared.Step.{Step}

-- ---- the fresh state for a size

-- as SpiralWalker::new
abbrev pub fresh_state : ℕ → SpiralWalker
fresh_state size = record {
  x = pos (size / 2) -ℤ pos 1;
  y = pos (size / 2) -ℤ pos 1;
  dir = pos 0;
  gx = pos 1;
  gy = pos 0;
  sq = pos 1;
  cc = pos 0;
  area = size * size;
  step = 0;
}

abbrev pub fresh_answer : Maybe Refusal → ℕ → Result SpiralWalker Refusal
fresh_answer (some r) size = Err r
fresh_answer none size = Ok (fresh_state size)

-- "Spiral size 0 to 512"
abbrev pub fresh_spiral : ℕ → Result SpiralWalker Refusal
fresh_spiral size = fresh_answer (refuse BadSize when ltb 512 size or none) size

-- ---- a step

abbrev pub between : ℤ → ℤ → ℤ → Bool
between low v high = le_z low v && le_z v high

-- "x, y -512 to 512, dir 0 to 3, gx and gy -1 to 1"
abbrev pub placed : ℤ → ℤ → ℤ → ℤ → ℤ → Bool
placed x y dir gx gy =
    between (negsuc 511) x (pos 512) &&
    between (negsuc 511) y (pos 512) &&
    between (pos 0) dir (pos 3) &&
    between (negsuc 0) gx (pos 1) &&
    between (negsuc 0) gy (pos 1)

-- "sq 1 to 1,024, cc 0 to sq-1, area to 262,144, step to area"
abbrev pub paced : ℤ → ℤ → ℕ → ℕ → Bool
paced sq cc area step =
    between (pos 1) sq (pos 1024) &&
    le_z (pos 0) cc &&
    lt_z cc sq &&
    leb area 262144 &&
    leb step area

-- every field is in range
abbrev pub sound : SpiralWalker → Bool
sound s = placed s.x s.y s.dir s.gx s.gy && paced s.sq s.cc s.area s.step

-- the directions are 0 right, 1 down, 2 left, 3 up: the one after d
abbrev pub turned : ℤ → ℤ
turned d = if le_z (pos 4) (d +ℤ pos 1) then pos 0 else (d +ℤ pos 1)

-- a coordinate goes on in one direction, back in another, and stays in the two others
abbrev pub along : ℕ → ℕ → ℤ → ℤ
along there back d = if eqb (nat_abs d) there then pos 1 else if eqb (nat_abs d) back then negsuc 0 else pos 0

abbrev pub going_x : ℤ → ℤ
going_x d = along 0 2 d

abbrev pub going_y : ℤ → ℤ
going_y d = along 1 3 d

-- how long a side in direction d is, behind one of sq: every second side is one longer
abbrev pub longer : ℤ → ℤ → ℤ
longer d sq = if eqb (nat_abs d % 2) 0 then sq +ℤ pos 1 else sq

-- one place on in the direction that it goes
abbrev pub ahead : SpiralWalker → SpiralWalker
ahead s = record {
  x = s.x +ℤ s.gx;
  y = s.y +ℤ s.gy;
  dir = s.dir;
  gx = s.gx;
  gy = s.gy;
  sq = s.sq;
  cc = s.cc +ℤ pos 1;
  area = s.area;
  step = s.step + 1;
}

-- at the end of a side: the first place of a side in the direction d
abbrev pub corner : ℤ → SpiralWalker → SpiralWalker
corner d s = record {
  x = s.x;
  y = s.y;
  dir = d;
  gx = going_x d;
  gy = going_y d;
  sq = longer d s.sq;
  cc = pos 0;
  area = s.area;
  step = s.step;
}

-- one place on; at the end of a side, when cc reaches sq, in the next direction
abbrev pub onward : SpiralWalker → SpiralWalker
onward s = if lt_z (s.cc +ℤ pos 1) s.sq then ahead s else corner (turned s.dir) (ahead s)

-- the one step of size 1, which moves nowhere: "size 1 gives (0,0)"
abbrev pub alone : SpiralWalker → SpiralWalker
alone s = record { x = s.x; y = s.y; dir = s.dir; gx = s.gx; gy = s.gy; sq = s.sq; cc = s.cc; area = s.area; step = s.step + 1 }

-- "one step, which answers a point or none": the point that the state stands on, with the next state
abbrev pub turn_answer : Maybe Refusal → SpiralWalker → Result (Option Step) Refusal
turn_answer (some r) s = Err r
turn_answer none s =
    if leb s.area s.step then Ok None else
    if eqb s.area 1 then Ok (Some (record { point = record { x = pos 0; y = pos 0 }; next = alone s })) else
    Ok (Some (record { point = record { x = s.x; y = s.y }; next = onward s }))

abbrev pub spiral_turn : SpiralWalker → Result (Option Step) Refusal
spiral_turn s = turn_answer (refuse BadSize when not (sound s) or none) s

-- ---- a step of the caller's own struct

-- a point comes with the next state; "a refused step leaves the state as it came", and so does one that answers none
abbrev pub advanced_by : Result (Option Step) Refusal → SpiralWalker → Outcome (Result (Option PointI32) Refusal) SpiralWalker
advanced_by (Ok (Some step)) s = record { answer = Ok (Some step.point); out = step.next }
advanced_by (Ok None) s = record { answer = Ok None; out = s }
advanced_by (Err r) s = record { answer = Err r; out = s }

abbrev pub advanced : SpiralWalker → Outcome (Result (Option PointI32) Refusal) SpiralWalker
advanced s = advanced_by (spiral_turn s) s
