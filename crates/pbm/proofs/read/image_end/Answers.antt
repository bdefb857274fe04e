-- A plain image ends where its digits do, and a raw one behind its rows.
use Prim.Native.Nat.{ℕ, ◌+◌, ◌-◌, ◌*◌, ◌≤◌, ◌<◌}
use mathlib.Core.Bool.{Bool, true, false}
use mathlib.Core.List.{List}
use mathlib.Core.Path.{◌≡◌, ap}
use native.Mathlib.Omega.{arith}
use lib.ListN.{length, drop, length-drop}
use borrow.Author.Rules.{rules}
use Rattle.chart.specs.Pixels.{all_bytes}
use Rattle.chart.specs.declared.Chart.{Chart}
use Rattle.pbm.specs.Raster.{digits_in}
use Rattle.pbm.specs.inside.Places.{place_of, behind_digits, behind_image, image_of}
use Rattle.std.specs.Prelude.{Option, Some, None}
use Rattle.pbm.proofs.Images.{area_fits, raw_short, raw_whole, plain_behind}
use Rattle.pbm.proofs.read.image_end.Goals as goal

module _ (file : List ℕ) (from : ℕ) (plain : Bool) (c : Chart) where
  by_digits : plain ≡ true → (r : Option ℕ) → r ≡ place_of file (behind_digits (digits_in (c.width * c.height) (drop from file)))
      → r ≡ place_of file (behind_image (image_of plain c (drop from file)))
  by_digits p r e = rw (e, p, plain_behind)

  module _ (p : plain ≡ false) (bytes : ℕ) (all : bytes ≡ all_bytes c) where
    too_short : length file - from < bytes → None ≡ place_of file (behind_image (image_of plain c (drop from file)))
    too_short h =
        let l : length (drop from file) < all_bytes c = omega (arith, length-drop from file) in
        rw (p, raw_short c (drop from file) l)

    by_rows : bytes ≤ length file - from → from ≤ length file → Some (from + bytes) ≡ place_of file (behind_image (image_of plain c (drop from file)))
    by_rows h k =
        let l : all_bytes c ≤ length (drop from file) = omega (arith, length-drop from file) in
        let e : from + bytes ≡ length file - length (drop (all_bytes c) (drop from file))
        = omega (arith, length-drop from file, length-drop (all_bytes c) (drop from file)) in
        rw (p, raw_whole c (drop from file) l) (ap (λ (n : ℕ). Some n) e)

pub overflow_mul-chart : goal.overflow_mul-chart
overflow_mul-chart c = search (area_fits, rules)

pub returns-then-plain : goal.returns-then-plain
returns-then-plain c = search (by_digits, rules)

pub returns-then-file-from : goal.returns-then-file-from
returns-then-file-from c = search (too_short, rules)

pub returns : goal.returns
returns c = search (by_rows, rules)
