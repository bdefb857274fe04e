-- How large the numbers are that a corner is judged by, so that nothing leaves its type.
use Rattle.std.specs.Prelude.{◌≤◌, nat_abs}
use Rattle.point.specs.declared.PointI32.{PointI32}

-- a vector between two points within the limits
pub record Short (v : PointI32) : Type 0 where
  pub across : nat_abs v.x ≤ 32766
  pub down : nat_abs v.y ≤ 32766
