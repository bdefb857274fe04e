-- A point whose coordinates lie within the limits of document 01, so that differences and their products fit.
use Rattle.std.specs.Prelude.{◌≤◌, nat_abs}
use Rattle.point.specs.declared.PointI32.{PointI32}

pub record Near (p : PointI32) : Type 0 where
  pub across : nat_abs p.x ≤ 16383
  pub down : nat_abs p.y ≤ 16383
