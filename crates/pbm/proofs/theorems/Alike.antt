-- Two files with the same chart and the same pixels in it are read alike. Assumes nothing.
use Prim.Native.Nat.{ℕ, ◌<◌}
use mathlib.Core.Bool.{Bool, true, false}
use mathlib.Core.List.{List}
use mathlib.Core.Option.{Option, some, none}
use mathlib.Core.Path.{◌≡◌, refl}
use lib.Dec.{ltb}
use lib.ListN.{length}
use Rattle.std.specs.Prelude.{Result, Ok, Err}
use Rattle.point.specs.declared.refusal.Refusal.{Refusal}
use Rattle.point.specs.declared.refusal.Refusal.TheVariants.{BadPicture}
use Rattle.chart.specs.Pixels.{all_bytes, bad_sides}
use Rattle.chart.specs.declared.Chart.{Chart}
use Rattle.pbm.specs.Header.{Header, header_in}
use Rattle.pbm.specs.Raster.{Image, image_in}
use Rattle.pbm.specs.Read.{Reading, refused, was_read, laid, read_behind, read_of}
use Rattle.pbm.specs.declared.Picture.{Picture}
use Rattle.pbm.proofs.Bytes.{chart_bytes_same}

-- an answer but for how many bytes were taken
abbrev pub uncounted : Result Picture Refusal → Result Picture Refusal
uncounted (Ok picture) = was_read picture.chart 0
uncounted (Err r) = Err r

-- the same chart or the same refusal, and the same in the buffer
pub record ReadAlike (o o' : Reading) : Type 0 where
  pub answers : uncounted o.answer ≡ uncounted o'.answer
  pub buffers : o.out ≡ o'.out

-- the same pixels within a chart, or none at all
pub data ImagesAlike (c : Chart) : Option Image → Option Image → Type 0 where
  both_missing : ImagesAlike c none none
  both_there : (image image' : Image) → ((x y : ℕ) → x < c.width → y < c.height → image.set x y ≡ image'.set x y) →
      ImagesAlike c (some image) (some image')

module _ (file file' buffer : List ℕ) where
  laid_alike : (c : Chart) (image image' : Image) → ((x y : ℕ) → x < c.width → y < c.height → image.set x y ≡ image'.set x y) →
      ReadAlike (laid file c image buffer) (laid file' c image' buffer)
  unfolding laid
  laid_alike c image image' same = by_test (ltb (length buffer) (all_bytes c)) refl
    where
      by_test : (t : Bool) → ltb (length buffer) (all_bytes c) ≡ t → ReadAlike (laid file c image buffer) (laid file' c image' buffer)
      by_test true t = rw (t, laid) (record { answers = refl; buffers = refl })
      by_test false t = rw (t, laid) (record { answers = refl; buffers = rw (chart_bytes_same c image.set image'.set same) })

  by_images : (c c' : Chart) (o o' : Option Image) → c ≡ c' → ImagesAlike c o o' → ReadAlike
      (elim o [ none ↦ refused BadPicture buffer | some image ↦ laid file c image buffer ])
      (elim o' [ none ↦ refused BadPicture buffer | some image ↦ laid file' c' image buffer ])
  by_images c c' o o' e both_missing = record { answers = refl; buffers = refl }
  by_images c c' o o' e (both_there image image' same) = rw (← e) (laid_alike c image image' same)

  module _ (h h' : Header) (chart : h.chart ≡ h'.chart) (images : ImagesAlike h.chart (image_in h) (image_in h')) where
    behind_alike : ReadAlike (read_behind file h buffer) (read_behind file' h' buffer)
    unfolding read_behind
    behind_alike = by_test (bad_sides h.chart) refl
      where
        by_test : (t : Bool) → bad_sides h.chart ≡ t → ReadAlike (read_behind file h buffer) (read_behind file' h' buffer)
        by_test true t = rw (t, read_behind, ← chart, t, read_behind) (record { answers = refl; buffers = refl })
        by_test false t = rw (t, read_behind, ← chart, t, read_behind) (by_images h.chart h'.chart (image_in h) (image_in h') chart images)

    pub read_alike : header_in file ≡ some h → header_in file' ≡ some h' → ReadAlike (read_of file buffer) (read_of file' buffer)
    unfolding read_of
    read_alike head head' = rw (head, read_of, head', read_of) behind_alike
