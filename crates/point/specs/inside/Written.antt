-- How points are handed out: one after the other, at the start of a lent buffer. "Places past the answer hold theirs".
use Rattle.std.specs.Prelude.{ℕ, ◌+◌, ◌*◌, ◌≤◌, List, ◌++◌, ◌≡◌, ℤ, length, take, drop}
use Rattle.laws.specs.Lists.{over}
use Rattle.point.specs.Points.{flat}
use Rattle.point.specs.declared.PointI32.{PointI32}

-- a list laid over another from position n on
unfoldable pub onto : {A : Type 0} → ℕ → List A → List A → List A
unfolding over
onto n xs old = take n old ++ over xs (drop n old)

-- the points ps stand at the start of a buffer that was `old`, and their number is answered
pub record Handed (ps : List PointI32) (old : List ℤ) (number : ℕ) (now : List ℤ) : Type 0 where
  pub counted : number ≡ length ps
  pub written : now ≡ over (flat ps) old

-- so many points of a whole are written to `out`, which was `old`, and the rest completes it: what a loop keeps that writes some points
-- of a list, one after the other
pub record Left (whole : List PointI32) (old : List ℤ) (kept : ℕ) (rest : List PointI32) (out : List ℤ) : Type 0 where
  pub fits : length whole * 2 ≤ length old
  pub long : length out ≡ length old
  pub number : kept + length rest ≡ length whole
  pub result : onto (kept * 2) (flat rest) out ≡ over (flat whole) old
