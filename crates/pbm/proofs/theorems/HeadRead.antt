-- The header that is written is read back, with what stands behind it: of a raw picture, and of a plain one with the same sizes. Assumes nothing.
use Prim.Native.Nat.{ℕ, ◌≤◌}
use mathlib.Core.Bool.{Bool, true, false}
use mathlib.Core.List.{List, [], ◌∷◌, ◌++◌, append_assoc}
use mathlib.Core.Option.{some}
use mathlib.Core.Path.{◌≡◌, refl, ap, ◌∙◌}
use Rattle.chart.specs.declared.Chart.{Chart}
use Rattle.texts.specs.Text.{natural_text}
use Rattle.pbm.specs.Header.{white, hash, digit, sizes_in, header_in}
use Rattle.pbm.proofs.theorems.Numerals.{size_read}
use Rattle.pbm.proofs.theorems.HeaderFront.{sizes_are}

-- "newline, width, space, height, newline"
abbrev pub sizes_text : Chart → List ℕ
sizes_text c = 10 ∷ natural_text c.width ++ (32 ∷ natural_text c.height) ++ (10 ∷ [])

module _ (c : Chart) (wide : c.width ≤ 512) (high : c.height ≤ 512) (raster : List ℕ) where
  in_turn : sizes_text c ++ raster ≡ 10 ∷ (natural_text c.width ++ (32 ∷ (natural_text c.height ++ (10 ∷ raster))))
  in_turn =
      append_assoc (10 ∷ natural_text c.width ++ (32 ∷ natural_text c.height)) (10 ∷ []) raster
      ∙ append_assoc (10 ∷ natural_text c.width) (32 ∷ natural_text c.height) (10 ∷ raster)

  sizes_read : (plain : Bool) → sizes_in plain (sizes_text c ++ raster) ≡ some (record { plain = plain; chart = c; rest = 10 ∷ raster })
  unfolding white hash digit
  sizes_read plain =
      let behind-width : List ℕ = 32 ∷ (natural_text c.height ++ (10 ∷ raster)) in
      ap (sizes_in plain) in_turn
      ∙ sizes_are plain _ _ _ (size_read c.width behind-width wide refl 10 refl refl) (size_read c.height (10 ∷ raster) high refl 32 refl refl)

  pub raw_read : header_in (80 ∷ 52 ∷ sizes_text c ++ raster) ≡ some (record { plain = false; chart = c; rest = 10 ∷ raster })
  unfolding header_in
  raw_read = sizes_read false

  pub plain_read : header_in (80 ∷ 49 ∷ sizes_text c ++ raster) ≡ some (record { plain = true; chart = c; rest = 10 ∷ raster })
  unfolding header_in
  plain_read = sizes_read true
