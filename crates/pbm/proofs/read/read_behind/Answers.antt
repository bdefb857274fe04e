-- At each return the tests on the way decide.
use Prim.Native.Nat.{ℕ, ◌-◌, ◌≤◌, ◌<◌}
use mathlib.Core.Bool.{Bool, true, false}
use mathlib.Core.List.{List}
use mathlib.Core.Option.{Option as Maybe, some, none}
use mathlib.Core.Path.{◌≡◌, refl, sym, ap, ◌∙◌}
use lib.ListN.{length, drop}
use borrow.Author.Rules.{rules}
use Rattle.std.specs.Prelude.{Option, Some, None}
use Rattle.std.specs.Option.{is_some}
use Rattle.laws.specs.Lists.{over}
use Rattle.point.specs.declared.refusal.Refusal.TheVariants.{BadSize, NoRoom, BadPicture}
use Rattle.chart.specs.Pixels.{all_bytes, bad_sides}
use Rattle.pbm.specs.Header.{raster_in}
use Rattle.pbm.specs.Raster.{Image, image_in}
use Rattle.pbm.specs.Bytes.{chart_bytes}
use Rattle.pbm.specs.Read.{refused, was_read, read_behind}
use Rattle.pbm.specs.inside.Places.{place_of, header_at, behind_image, set_of, image_of}
use Rattle.pbm.specs.declared.header.Header.{Header}
use Rattle.pbm.proofs.Left.{left_place, left_of_left, drop_left, raster_left}
use Rattle.pbm.proofs.Images.{no_raster, image_of_raster}
use Rattle.pbm.proofs.Outcomes.{bad_sides_lem, no_image, an_image, no_room, room}
use Rattle.pbm.proofs.read.read_behind.Goals as goal

-- a place that was found, or not
record PlaceFound (file : List ℕ) (o : Maybe (List ℕ)) (place : ℕ) : Type 0 where
  rest : List ℕ
  is : o ≡ some rest
  says : place ≡ length file - length rest

place_found : (file : List ℕ) (o : Maybe (List ℕ)) (place : ℕ) → Some place ≡ place_of file o → PlaceFound file o place
place_found file none place e = absurd cc
place_found file (some rest) place e = record { rest = rest; is = refl; says = cc }

nowhere : (file : List ℕ) (o : Maybe (List ℕ)) → None ≡ place_of file o → o ≡ none
nowhere file none e = refl
nowhere file (some rest) e = absurd cc

-- an image that is there
record Whole (file : List ℕ) (o : Maybe Image) (end : ℕ) : Type 0 where
  image : Image
  is : o ≡ some image
  says : end ≡ length file - length image.rest

whole : (file : List ℕ) (o : Maybe Image) (end : ℕ) → Some end ≡ place_of file (behind_image o) → Whole file o end
whole file none end e = absurd cc
whole file (some i) end e = record { image = i; is = refl; says = cc }

record ImageThere (o : Maybe Image) : Type 0 where
  image : Image
  is : o ≡ some image

image_there : (file : List ℕ) (o : Maybe Image) → is_some (place_of file (behind_image o)) ≡ true → ImageThere o
image_there file none e = absurd cc
image_there file (some i) e = record { image = i; is = refl }

not_whole : (file : List ℕ) (o : Maybe Image) → None ≡ place_of file (behind_image o) → o ≡ none
not_whole file none e = refl
not_whole file (some i) e = absurd cc

module _ (file pixels : List ℕ) (h : Header) (b : Bool) (sides : b ≡ bad_sides h.chart) where
  bad : b ≡ true → refused BadSize pixels ≡ read_behind file (header_at file h) pixels
  bad e = bad_sides_lem file pixels (header_at file h) (sym sides ∙ e)

  module _ (fine : b ≡ false) (p : Option ℕ) (first : p ≡ place_of file (raster_in (drop h.end file))) where
    nothing : p ≡ None → refused BadPicture pixels ≡ read_behind file (header_at file h) pixels
    nothing e =
        no_image file pixels (header_at file h) (sym sides ∙ fine)
        (no_raster (header_at file h) (nowhere file (raster_in (drop h.end file)) (sym e ∙ first)))

    module _ (q : Option ℕ) (from : ℕ) (second : q ≡ place_of file (behind_image (image_of h.plain h.chart (drop from file)))) (is : p ≡ Some from) where
      begins_there : image_in (header_at file h) ≡ image_of h.plain h.chart (drop from file)
      begins_there =
          let f : PlaceFound file (raster_in (drop h.end file)) from = place_found file (raster_in (drop h.end file)) from (sym is ∙ first) in
          let l : drop (length file - length f.rest) file ≡ f.rest
          = left_place file f.rest (left_of_left (drop_left h.end file) (raster_left (drop h.end file) f.rest f.is)) in
          image_of_raster (header_at file h) f.rest f.is
          ∙ ap (image_of h.plain h.chart) (sym l ∙ ap (λ (n : ℕ). drop n file) (sym f.says))

      broken : q ≡ None → refused BadPicture pixels ≡ read_behind file (header_at file h) pixels
      broken e =
          no_image file pixels (header_at file h) (sym sides ∙ fine)
          (begins_there ∙ not_whole file (image_of h.plain h.chart (drop from file)) (sym e ∙ second))

      module _ (n : ℕ) (all : n ≡ all_bytes h.chart) where
        full : is_some q ≡ true → length pixels < n → refused NoRoom pixels ≡ read_behind file (header_at file h) pixels
        full there l =
            let i : ImageThere (image_of h.plain h.chart (drop from file)) = image_there file _ (ap is_some (sym second) ∙ there) in
            no_room file pixels h.chart i.image (rw all at l)
            ∙ an_image file pixels (header_at file h) (sym sides ∙ fine) i.image (begins_there ∙ i.is)

        done : n ≤ length pixels → (last : List ℕ)
            → last ≡ over (chart_bytes h.chart (set_of (image_of h.plain h.chart (drop from file)))) pixels
            → (end : ℕ) → q ≡ Some end → record { answer = was_read h.chart end; out = last } ≡ read_behind file (header_at file h) pixels
        done l last e end ends =
            let w : Whole file (image_of h.plain h.chart (drop from file)) end = whole file _ end (sym ends ∙ second) in
            ap (λ (k : ℕ). record { answer = was_read h.chart k; out = last }) w.says
            ∙ ap (λ (l : List ℕ). record { answer = was_read h.chart (length file - length w.image.rest); out = l })
            (e ∙ ap (λ (o : Maybe Image). over (chart_bytes h.chart (set_of o)) pixels) w.is)
            ∙ room file pixels h.chart w.image (rw all at l)
            ∙ an_image file pixels (header_at file h) (sym sides ∙ fine) w.image (begins_there ∙ w.is)

ruleset laws = (bad, nothing, broken, full, done, rules)

pub returns : goal.returns
returns c =
    let is : c.raster.result ≡ Some c.in_ok-from.from = search rules in
    let ends : c.image_end.result ≡ Some c.in_ok-end.end = search rules in
    search laws

pub returns-then-bad_sides : goal.returns-then-bad_sides
returns-then-bad_sides c = search laws

pub returns-in_err-from : goal.returns-in_err-from
returns-in_err-from c = search laws

pub returns-in_err-end : goal.returns-in_err-end
returns-in_err-end c = search laws

pub returns-then-pixels-all_bytes : goal.returns-then-pixels-all_bytes
returns-then-pixels-all_bytes c =
    let is : c.raster.result ≡ Some c.in_ok-from.from = search rules in
    let there : is_some c.image_end.result ≡ true = search rules in
    search laws
