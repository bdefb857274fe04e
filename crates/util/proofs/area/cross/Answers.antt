-- A number of `i32` is handed on by its bits, and is the same among those of `i64`.
use Rattle.std.proofs.Common.{rules, ◌≡◌, ℤ, ◌-ℤ◌, ◌*ℤ◌, to_z, of_z, w32, w64}
use mir.Val.{SFits}
use mir.Facts.{sfits_widen}
use mir.ValLaws.{to_z-of_z}
use Rattle.util.specs.Area.{cross_of}
use Rattle.util.proofs.Products.{product_fits, cross_fits}
use Rattle.util.proofs.area.cross.Goals as goal

wider : (a x : ℤ) → a ≡ to_z w32 (of_z w32 x) → SFits w32 x → to_z w64 (of_z w64 a) ≡ x
wider a x e f = let w : SFits w64 x = sfits_widen tt f in rw (e, to_z-of_z w32 x f, to_z-of_z w64 x w)

module _ (a b c d x1 y1 x2 y2 : ℤ) (ea : a ≡ to_z w32 (of_z w32 x1)) (eb : b ≡ to_z w32 (of_z w32 y2)) (ec : c ≡ to_z w32 (of_z w32 x2))
    (ed : d ≡ to_z w32 (of_z w32 y1)) (f1 : SFits w32 x1) (g2 : SFits w32 y2) (f2 : SFits w32 x2) (g1 : SFits w32 y1) where
  abbrev difference : ℤ
  difference = to_z w64 (of_z w64 (to_z w64 (of_z w64 a) *ℤ to_z w64 (of_z w64 b))) -ℤ to_z w64 (of_z w64 (to_z w64 (of_z w64 c) *ℤ to_z w64 (of_z w64 d)))

  is_cross : difference ≡ cross_of x1 y1 x2 y2
  is_cross =
      rw (
        wider a x1 ea f1,
        wider b y2 eb g2,
        wider c x2 ec f2,
        wider d y1 ed g1,
        to_z-of_z w64 (x1 *ℤ y2) (product_fits x1 y2 f1 g2),
        to_z-of_z w64 (x2 *ℤ y1) (product_fits x2 y1 f2 g1),
      )

  fits : SFits w64 difference
  fits = rw is_cross (cross_fits x1 y2 x2 y1 f1 g2 f2 g1)

  handed_on : to_z w64 (of_z w64 difference) ≡ cross_of x1 y1 x2 y2
  handed_on = rw (to_z-of_z w64 difference fits) is_cross

pub overflow_sub-result : goal.overflow_sub-result
overflow_sub-result c = search (fits, rules)

pub returns : goal.returns
returns c = search (handed_on, rules)
