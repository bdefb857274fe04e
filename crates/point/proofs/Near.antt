-- Points within the limits: one that is in range, and those of a list that is not refused. Assumes nothing.
use Prim.Native.Nat.{ℕ, ◌+◌, ◌*◌, ◌≤◌}
use mathlib.Core.Bool.{true, false}
use mathlib.Core.List.{List}
use mathlib.Core.Path.{◌≡◌}
use lib.IntN.{ℤ, nat_abs}
use Rattle.laws.proofs.Joined.{both_true}
use Rattle.point.specs.Limits.{in_range, point_in_range, bad_points}
use Rattle.point.specs.declared.PointI32.{PointI32}
use Rattle.point.proofs.Claims.{in_range_abs, coordinates_fit}
use Rattle.point.specs.Points.{point_at}
use Rattle.point.specs.inside.Near.{Near}

pub in_range_near : (p : PointI32) → point_in_range p ≡ true → Near p
in_range_near p e =
    let both = both_true (in_range p.x) (in_range p.y) e in
    record { across = in_range_abs p.x both.0; down = in_range_abs p.y both.1 }

module _ (list : List ℤ) (good : bad_points list ≡ false) (p : PointI32) (k : ℕ) (e : p ≡ point_at list k) where
  pub limit_x : nat_abs p.x ≤ 16383
  limit_x = rw e (coordinates_fit list good (k * 2))

  pub limit_y : nat_abs p.y ≤ 16383
  limit_y = rw e (coordinates_fit list good (k * 2 + 1))
