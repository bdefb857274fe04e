-- What the ranges of a spiral's state say of its fields, so that each sum fits its type. Assumes nothing.
use mathlib.Core.Bool.{Bool, true, false, ◌&&◌}
use mathlib.Core.Path.{◌≡◌, refl}
use Prim.Native.Nat.{◌≤◌}
use mir.Syntax.{w32}
use mir.Val.{SFits}
use lib.IntN.{ℤ, pos, negsuc}
use lib.Dec.{leb}
use lib.Signed.{le_z, lt_z, ◌≤ℤ◌, ◌<ℤ◌}
use native.Mathlib.Omega.{arith}
use borrow.Author.Tests.{leb-true}
use Rattle.std.proofs.lemmas.Int.{ints}
use Rattle.laws.proofs.Integers.{le_z_true, lt_z_true}
use Rattle.laws.proofs.Joined.{both_true}
use Rattle.spiral.specs.Spiral.{between, placed, paced, sound, turned}
use Rattle.spiral.specs.declared.SpiralWalker.{SpiralWalker}

-- tests that all hold hold one by one
five : (a b c d e : Bool) → (a && b && c && d && e) ≡ true → (a ≡ true) × (b ≡ true) × (c ≡ true) × (d ≡ true) × (e ≡ true)
five true true true true e h = (refl, refl, refl, refl, h)
five true true true false e h = cc
five true true false d e h = cc
five true false c d e h = cc
five false b c d e h = cc

-- a number that lies in a range
pub record Within (low v high : ℤ) : Type 0 where
  pub above : low ≤ℤ v
  pub below : v ≤ℤ high

within : (low v high : ℤ) → between low v high ≡ true → Within low v high
within low v high h =
    let b = both_true (le_z low v) (le_z v high) h in
    record { above = le_z_true low v b.0; below = le_z_true v high b.1 }

-- every field of a state is in range
pub record InRange (s : SpiralWalker) : Type 0 where
  pub x : Within (negsuc 511) s.x (pos 512)
  pub y : Within (negsuc 511) s.y (pos 512)
  pub dir : Within (pos 0) s.dir (pos 3)
  pub gx : Within (negsuc 0) s.gx (pos 1)
  pub gy : Within (negsuc 0) s.gy (pos 1)
  pub sq : Within (pos 1) s.sq (pos 1024)
  pub cc_above : pos 0 ≤ℤ s.cc
  pub cc_below : s.cc <ℤ s.sq
  pub area : s.area ≤ 262144
  pub step : s.step ≤ s.area

pub in_range : (s : SpiralWalker) → sound s ≡ true → InRange s
in_range s h =
    let b = both_true (placed s.x s.y s.dir s.gx s.gy) (paced s.sq s.cc s.area s.step) h in
    let p = five (between (negsuc 511) s.x (pos 512)) (between (negsuc 511) s.y (pos 512)) (between (pos 0) s.dir (pos 3)) (between (negsuc 0) s.gx (pos 1)) (between (negsuc 0) s.gy (pos 1)) b.0 in
    let q = five (between (pos 1) s.sq (pos 1024)) (le_z (pos 0) s.cc) (lt_z s.cc s.sq) (leb s.area 262144) (leb s.step s.area) b.1 in
    record {
      x = within _ _ _ p.0;
      y = within _ _ _ p.1;
      dir = within _ _ _ p.2;
      gx = within _ _ _ p.3;
      gy = within _ _ _ p.4;
      sq = within _ _ _ q.0;
      cc_above = le_z_true _ _ q.1;
      cc_below = lt_z_true _ _ q.2;
      area = leb-true _ _ q.3;
      step = leb-true _ _ q.4;
    }

-- the direction after one fits, whatever number stands for it
pub turned_fits : (d : ℤ) → SFits w32 d → SFits w32 (turned d)
turned_fits d h = grind (arith, ints)
