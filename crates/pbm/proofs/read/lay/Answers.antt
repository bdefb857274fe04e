-- Digits that are packed, or rows that are copied, are the pixels of the image.
use Prim.Native.Nat.{ℕ, ◌+◌, ◌-◌, ◌*◌, ◌≤◌}
use mathlib.Core.Bool.{Bool, true, false}
use mathlib.Core.List.{List, ◌++◌}
use mathlib.Core.Path.{◌≡◌, sym, ap, ap₂, ◌∙◌}
use native.Mathlib.Omega.{arith}
use lib.ListN.{length, get_or, take, drop, length-drop}
use lib.Seq.{take_all}
use borrow.Author.Rules.{rules}
use Rattle.laws.specs.Lists.{over}
use Rattle.chart.specs.Pixels.{cell, all_bytes}
use Rattle.chart.specs.declared.Chart.{Chart}
use Rattle.pbm.specs.Bytes.{chart_bytes}
use Rattle.pbm.specs.Raster.{digits_in}
use Rattle.pbm.specs.inside.Places.{image_of, has_image, set_of, bits_of, whole}
use Rattle.pbm.proofs.Bytes.{length_chart_bytes}
use Rattle.pbm.proofs.Images.{raw_enough, raw_set, plain_whole, plain_set}
use Rattle.pbm.proofs.read.lay.Goals as goal

module _ (file : List ℕ) (from : ℕ) (plain : Bool) (c : Chart) (has : has_image (image_of plain c (drop from file)) ≡ true) where
  is_whole : plain ≡ true → whole (digits_in (c.width * c.height) (drop from file)) ≡ true
  is_whole p = plain_whole c (drop from file) ∙ rw p at has

  -- the raster, as it is handed on
  the_rest : take (length file - from) (drop from file) ≡ drop from file
  the_rest = let l : length (drop from file) ≤ length file - from = omega (arith, length-drop from file) in rw take_all

  are_there : plain ≡ false → all_bytes c ≤ length (take (length file - from) (drop from file))
  are_there p = rw the_rest (raw_enough c (drop from file) (rw p at has))

  module _ (pixels : List ℕ) where
    packed : (last : List ℕ) → plain ≡ true
        → last ≡ over (chart_bytes c (λ x y. get_or (bits_of (digits_in (c.width * c.height) (drop from file))) (y * c.width + x) false)) pixels
        → last ≡ over (chart_bytes c (set_of (image_of plain c (drop from file)))) pixels
    packed last p e = rw p (e ∙ ap (λ (set : ℕ → ℕ → Bool). over (chart_bytes c set) pixels) (sym (plain_set c (drop from file))))

    copied : plain ≡ false → (n : ℕ) (part : List ℕ) → n ≡ all_bytes c
        → part ≡ chart_bytes c (cell c (take (length file - from) (drop from file)))
        → part ++ drop n pixels ≡ over (chart_bytes c (set_of (image_of plain c (drop from file)))) pixels
    unfolding over
    copied p n part size e =
        let l : n ≡ length (chart_bytes c (cell c (drop from file))) = omega (arith, length_chart_bytes c (cell c (drop from file))) in
        rw p
        (ap₂ (λ (rows : List ℕ) (k : ℕ). rows ++ drop k pixels) (rw the_rest at e) l
        ∙ ap (λ (set : ℕ → ℕ → Bool). over (chart_bytes c set) pixels) (sym (raw_set c (drop from file) (rw p at has))))

ruleset laws = (is_whole, are_there, packed, copied, rules)

pub pack_rows-requires : goal.pack_rows-requires
pack_rows-requires c = search laws

pub returns-then-plain : goal.returns-then-plain
returns-then-plain c = search laws

pub copy_rows-requires : goal.copy_rows-requires
copy_rows-requires c = search laws

pub returns : goal.returns
returns c = search laws
