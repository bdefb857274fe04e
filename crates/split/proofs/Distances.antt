-- The squared distance from a point to a segment of i32 points is finite and not negative: each operation keeps a bound on what it is
-- handed, and the divisor, a sum of two squares of which one is not 0, is 1 at least. Assumes nothing.
use Prim.Native.Nat.{ℕ, suc, ◌+◌, ◌*◌, ◌≤◌, ◌<◌, max}
use mathlib.Core.Bool.{Bool, true, false, true≢false}
use mathlib.Core.Logic.{◌⊎◌, inl, inr}
use mathlib.Core.Path.{◌≡◌, refl}
use native.Mathlib.Nat.{le_trans, le_of_eq, mul-le-mul, mul-pos, mul-le-mul_right, mul_comm, le-add_right, le-add_left, zero-lt-suc}
use native.Mathlib.Omega.{arith}
use lib.Dec.{T, lit≤, leb}
use lib.IntN.{ℤ, nat_abs, ◌-ℤ◌}
use lib.Ieee.{Float, nan, inf, fin, binary64, up, down, round, of_int, add, sub, mul, sum, le, lt, ne, fits}
use lib.Ieee.Fits.{down_pos, add-fits}
use lib.Ieee.Exact.{HasValue}
use lib.Ieee.Back.{round_whole}
use lib.Ieee.Order.{round_mono}
use lib.Ieee.Positive.{positive, positive_of_value, own_value, above_of_le, values_of_le}
use Rattle.laws.proofs.Integers.{abs_pos}
use Rattle.laws.proofs.Finite.{Below, Big, below_mono, of_int_below, add_below, sub_below, mul_below, div_below, add_nonneg, square_nonneg}
use Rattle.laws.specs.inside.Finite.{NonNeg}
use Rattle.laws.proofs.Whole.{Whole, of_int_whole, zero_whole, sub_whole, whole_big}
use Rattle.laws.proofs.WholeTests.{ne_true_whole}
use Rattle.std.specs.Prelude.{if◌then◌else◌}
use Rattle.point.specs.declared.PointI32.{PointI32}
use Rattle.point.specs.declared.PointF64.{PointF64}
use Rattle.split.specs.Distance.{zero64, one64, place_of, squares, along, has_length, nearest, foot, from_place, sq_seg_dist}
use Rattle.split.specs.declared.distance.Segment.{Segment}

-- the coordinates of an i32 point lie within 2 ^ 31 of zero
pub record Small (p : PointI32) : Type 0 where
  pub small_x : nat_abs p.x ≤ 2147483648
  pub small_y : nat_abs p.y ≤ 2147483648

-- ---- what is 1 at least stays so: rounding keeps the order, and 1 is a value of the format

above_one : {k : ℕ} (lo z : Float) → HasValue lo false 1 1 → Below k z → T (le lo z) → Big z
above_one lo nan v b h = absurd b.at_most
above_one lo (inf s) v b h = absurd b.at_most
above_one lo (fin true m e) v b h = absurd (above_of_le lo (fin true m e) (positive_of_value lo 1 1 v (zero-lt-suc 0)) h)
above_one lo (fin false m e) v b h =
    let q : T (positive (fin false m e)) = above_of_le lo (fin false m e) (positive_of_value lo 1 1 v (zero-lt-suc 0)) h in
    let l : 1 * down e ≤ m * up e * 1 = values_of_le lo (fin false m e) 1 1 (m * up e) (down e) (positive_of_value lo 1 1 v (zero-lt-suc 0)) q v (own_value (fin false m e) q) h in
    record { at_least = omega arith }

round_big : (a c k : ℕ) → 0 < c → c ≤ a → Below k (round binary64 false a c) → Big (round binary64 false a c)
round_big a c k C h b =
    above_one (round binary64 false 1 1) (round binary64 false a c) (round_whole binary64 false 1 (lit≤ tt)) b
    (round_mono binary64 1 1 a c (zero-lt-suc 0) C (omega arith))

square_big : {k : ℕ} {x : Float} → Below k x → Big x → T (leb (k + k) 1023) → Big (mul binary64 x x)
unfolding mul
square_big {x = nan} h b t = absurd b.at_least
square_big {x = inf s} h b t = absurd b.at_least
square_big {k} {x = fin true m e} h b t =
    round_big (m * up e * (m * up e)) (down e * down e) (k + k) (mul-pos (down_pos e) (down_pos e)) (mul-le-mul b.at_least b.at_least) (mul_below h h t)
square_big {k} {x = fin false m e} h b t =
    round_big (m * up e * (m * up e)) (down e * down e) (k + k) (mul-pos (down_pos e) (down_pos e)) (mul-le-mul b.at_least b.at_least) (mul_below h h t)

-- the sum of what is not negative, one of which is 1 at least
add_big : {j k : ℕ} {x y : Float} → Below j x → Below k y → NonNeg x → NonNeg y → Big x ⊎ Big y → Below (suc (max j k)) (add binary64 x y) → Big (add binary64 x y)
unfolding add sum
add_big {x = nan} h g p q b t = absurd h.at_most
add_big {x = inf s} h g p q b t = absurd h.at_most
add_big {x = fin true m e} h g p q b t = absurd (true≢false p.plus)
add_big {x = fin false m e} {y = nan} h g p q b t = absurd g.at_most
add_big {x = fin false m e} {y = inf s} h g p q b t = absurd g.at_most
add_big {x = fin false m e} {y = fin true n d} h g p q b t = absurd (true≢false q.plus)
add_big {j} {k} {x = fin false m e} {y = fin false n d} h g p q b t =
    round_big (m * up e * down d + n * up d * down e) (down e * down d) (suc (max j k)) (mul-pos (down_pos e) (down_pos d)) (go b) t
  where
    go : Big (fin false m e) ⊎ Big (fin false n d) → down e * down d ≤ m * up e * down d + n * up d * down e
    go (inl o) = le_trans (mul-le-mul_right (down d) o.at_least) (le-add_right (m * up e * down d) (n * up d * down e))
    go (inr o) = le_trans (le_trans (le_of_eq (mul_comm (down e) (down d))) (mul-le-mul_right (down e) o.at_least)) (le-add_left (n * up d * down e) (m * up e * down d))

-- ---- the distance, from its parts

module _ (p a b : PointI32) (P : Small p) (A : Small a) (B : Small b) where
  abbrev f : ℤ → Float
  f z = of_int binary64 z

  abbrev dx : Float
  dx = sub binary64 (f b.x) (f a.x)

  abbrev dy : Float
  dy = sub binary64 (f b.y) (f a.y)

  -- `segment_of`, written out
  abbrev s : Segment
  s = record { x = f a.x; y = f a.y; x2 = f b.x; y2 = f b.y; dx = dx; dy = dy; squared = squares dx dy }

  at : (z : ℤ) → nat_abs z ≤ 2147483648 → Below 31 (f z)
  at z h = of_int_below 31 z h tt

  dx_below : Below 32 s.dx
  dx_below = sub_below (at b.x B.small_x) (at a.x A.small_x) tt

  dy_below : Below 32 s.dy
  dy_below = sub_below (at b.y B.small_y) (at a.y A.small_y) tt

  squared_below : Below 65 s.squared
  squared_below = add_below (mul_below dx_below dx_below tt) (mul_below dy_below dy_below tt) tt

  -- a difference of whole numbers that is not 0 is 1 at least
  apart : (y z : ℤ) → nat_abs y ≤ 2147483648 → nat_abs z ≤ 2147483648 → ne (sub binary64 (f y) (f z)) zero64 ≡ true → Big (sub binary64 (f y) (f z))
  apart y z h k n =
      let w : Whole 4294967296 (sub binary64 (f y) (f z)) (y -ℤ z) = sub_whole (of_int_whole y h tt) (of_int_whole z k tt) tt in
      whole_big w (abs_pos (y -ℤ z) (ne_true_whole w zero_whole n))

  squared_big : has_length s ≡ true → Big s.squared
  squared_big n =
      add_big (mul_below dx_below dx_below tt) (mul_below dy_below dy_below tt) (square_nonneg dx_below) (square_nonneg dy_below) (go (ne s.dx zero64) refl) squared_below
    where
      go : (c : Bool) → ne s.dx zero64 ≡ c → Big (mul binary64 s.dx s.dx) ⊎ Big (mul binary64 s.dy s.dy)
      go true e = inl (square_big dx_below (apart b.x a.x B.small_x A.small_x e) tt)
      go false e = inr (square_big dy_below (apart b.y a.y B.small_y A.small_y (rw e at n)) tt)

  -- within what the foot of the perpendicular lies
  record Bounded (q : PointF64) : Type 0 where
    bound_x : Below 100 q.x
    bound_y : Below 100 q.y

  along_below : Big s.squared → Below 65 (along (place_of p) s)
  along_below g =
      div_below
      (add_below
      (mul_below (sub_below (at p.x P.small_x) (at a.x A.small_x) tt) dx_below tt)
      (mul_below (sub_below (at p.y P.small_y) (at a.y A.small_y) tt) dy_below tt)
      tt)
      g tt

  first_bounded : Bounded (record { x = f a.x; y = f a.y })
  first_bounded = record { bound_x = below_mono (at a.x A.small_x) tt; bound_y = below_mono (at a.y A.small_y) tt }

  nearest_bounded : (t : Float) → Below 65 t → Bounded (nearest s t)
  unfolding nearest
  nearest_bounded t h = go (lt one64 t) (lt zero64 t)
    where
      go : (c d : Bool)
          → Bounded (if c then record { x = s.x2; y = s.y2 } else
          if d then record { x = add binary64 s.x (mul binary64 s.dx t); y = add binary64 s.y (mul binary64 s.dy t) } else
          record { x = s.x; y = s.y })
      go true d = record { bound_x = below_mono (at b.x B.small_x) tt; bound_y = below_mono (at b.y B.small_y) tt }
      go false true = record {
        bound_x = below_mono (add_below (at a.x A.small_x) (mul_below dx_below h tt) tt) tt;
        bound_y = below_mono (add_below (at a.y A.small_y) (mul_below dy_below h tt) tt) tt;
      }
      go false false = first_bounded

  foot_bounded : Bounded (foot (place_of p) s)
  unfolding foot
  foot_bounded = go (has_length s) refl
    where
      go : (c : Bool) → has_length s ≡ c → Bounded (if c then nearest s (along (place_of p) s) else record { x = s.x; y = s.y })
      go true e = nearest_bounded (along (place_of p) s) (along_below (squared_big e))
      go false e = first_bounded

  from_below : (q : PointF64) → Bounded q → Below 203 (from_place (place_of p) q)
  from_below q n =
      let hx = sub_below (at p.x P.small_x) n.bound_x tt in
      let hy = sub_below (at p.y P.small_y) n.bound_y tt in
      add_below (mul_below hx hx tt) (mul_below hy hy tt) tt

  from_nonneg : (q : PointF64) → Bounded q → NonNeg (from_place (place_of p) q)
  from_nonneg q n =
      add_nonneg (square_nonneg (sub_below (at p.x P.small_x) n.bound_x tt)) (square_nonneg (sub_below (at p.y P.small_y) n.bound_y tt))

  -- below 2 ^ 203, so finite
  pub distance_below : Below 203 (sq_seg_dist p a b)
  unfolding sq_seg_dist
  distance_below = from_below (foot (place_of p) s) foot_bounded

  pub distance_nonneg : NonNeg (sq_seg_dist p a b)
  unfolding sq_seg_dist
  distance_nonneg = from_nonneg (foot (place_of p) s) foot_bounded

pub distance_fits : (p a b : PointI32) → T (fits binary64 (sq_seg_dist p a b))
unfolding sq_seg_dist
distance_fits p a b = add-fits binary64 _ _
