-- The part of the scratch that is read back is the radial list, which is split and answered; or nothing
-- is written there, and the caller's points are answered whole.
use Prim.Native.Nat.{ℕ, ◌*◌, ◌/◌, ◌<◌, ◌≤◌}
use mathlib.Core.Bool.{Bool, true, false, ◌||◌}
use mathlib.Core.List.{List}
use mathlib.Core.Option.{none}
use mathlib.Core.Path.{◌≡◌, ap, subst, ◌∙◌}
use native.Mathlib.Omega.{arith}
use lib.Dec.{leb}
use lib.Ieee.{Float, binary64, of_bits, mul, eq}
use lib.IntN.{ℤ}
use lib.ListN.{length}
use borrow.Author.Rules.{rules}
use Rattle.std.specs.Prelude.{Option, Ok, IfSome}
use Rattle.laws.specs.Lists.{over}
use Rattle.laws.specs.Outcome.{Outcome}
use Rattle.laws.proofs.Lists.{take_over_all}
use Rattle.point.specs.Limits.{places_for}
use Rattle.point.specs.Points.{flat, points, count}
use Rattle.point.specs.declared.PointI32.{PointI32}
use Rattle.point.specs.inside.Written.{Handed}
use Rattle.point.proofs.Flat.{length_flat, length_points, count_flat}
use Rattle.point.proofs.Room.{places_shorter}
use Rattle.split.specs.Tree.{marks_of}
use Rattle.split.specs.Visits.{counted_marks}
use Rattle.split.proofs.Claims.{a_mark_for_each_point, marks_over}
use Rattle.split.proofs.Fitting.{counted}
use Rattle.split.proofs.Shallow.{marks_stay}
use Rattle.reduce.specs.Kept.{kept}
use Rattle.reduce.specs.inside.Scratch.{Filled, part_of}
use Rattle.reduce.specs.Radial.{radial}
use Rattle.reduce.specs.Reduce.{reduce_refusal, reduction}
use Rattle.reduce.proofs.Reduction.{test_is, many_points, answers_whole, answers_narrowed, few, good_points, out_room, scratch_room, marks_room, scratch_fits, out_fits}
use Rattle.reduce.proofs.Select.{kept_over}
use Rattle.reduce.proofs.radial.Far.{radial_shorter, radial_some}
use Rattle.reduce.proofs.both_passes.narrow.Goals as goal

-- the tolerance of the radial pass
abbrev halved : Float → Float
halved tolerance = mul binary64 (mul binary64 tolerance tolerance) (of_bits binary64 0x3fe0000000000000)

module _ (list : List ℤ) (tolerance : Float) (out scratch : List ℤ) (marks : List ℕ) (passed : reduce_refusal list tolerance out scratch marks ≡ none)
    (all : Bool) (a : all ≡ (leb (count list) 2 || eq tolerance (of_bits binary64 0)))
    (n : Option ℕ) (after : List ℤ) (filled : Filled all (radial (halved tolerance) (points list)) scratch n after) where
  abbrev ring : List PointI32
  ring = radial (halved tolerance) (points list)

  ring_shorter : length ring ≤ count list
  ring_shorter = omega (arith, radial_shorter (halved tolerance) (points list), length_points list)

  -- what is read back was written
  part_fits : length after ≡ length scratch → IfSome n (λ m. m * 2 ≤ length after)
  part_fits k = by all filled
    where
      by : (t : Bool) → Filled t ring scratch n after → IfSome n (λ m. m * 2 ≤ length after)
      by true f = rw f.0 tt
      by false f = rw f.1 (omega (arith, f.2.counted, ring_shorter, scratch_room list tolerance out scratch marks passed))

  module _ (picked : List ℤ) (p : picked ≡ part_of n list after) where
    -- the caller's points, answered whole
    module _ (e : all ≡ true) where
      nothing : Filled true ring scratch n after
      nothing = subst (λ (t : Bool). Filled t ring scratch n after) e filled

      points_are : picked ≡ list
      points_are = p ∙ rw nothing.0

      points_fit : length picked ≤ length out
      points_fit = rw points_are (out_fits list tolerance out scratch marks passed)

      in_whole : (last : List ℤ) → last ≡ over picked out →
          record { answer = Ok (length picked / 2); out = (last, after, marks) } ≡ reduction list tolerance out scratch marks
      in_whole last d = rw (d, points_are, nothing.1, answers_whole list tolerance out scratch marks (test_is list tolerance all true a e))

    -- else the radial list, of which those that are marked are kept
    module _ (e : all ≡ false) where
      abbrev sq : Float
      sq = mul binary64 tolerance tolerance

      abbrev ring_marks : List ℕ
      ring_marks = marks_of sq (flat ring)

      more : 2 < count list
      more = many_points list tolerance (test_is list tolerance all false a e)

      some : 0 < count (flat ring)
      some = rw (count_flat ring) (radial_some (halved tolerance) (points list) (rw (length_points list) (omega (arith, more))))

      fewer : count (flat ring) ≤ count list
      fewer = omega (arith, count_flat ring, ring_shorter)

      all_there : Filled false ring scratch n after
      all_there = subst (λ (t : Bool). Filled t ring scratch n after) e filled

      scratch_is : after ≡ over (flat ring) scratch
      scratch_is = all_there.2.written

      list_is : picked ≡ flat ring
      list_is =
          let m : all_there.0 ≡ length ring = all_there.2.counted in
          let l : all_there.0 * 2 ≡ length (flat ring) = omega (arith, length_flat ring) in
          p ∙ rw (all_there.1, l, scratch_is) (take_over_all (flat ring) scratch)

      -- there is room for it
      places_fit : places_for (count picked) * 2 ≤ length out
      places_fit =
          rw list_is
          (omega (arith, places_shorter (count (flat ring)) (count list) fewer (omega (arith, more)), out_room list tolerance out scratch marks passed))

      marks_fit : count (flat ring) ≤ length marks
      marks_fit = omega (arith, fewer, marks_room list tolerance out scratch marks passed)

      module _ (marked : List ℕ) where
        a_mark_each : length marked ≡ length marks → count picked ≤ length marked
        a_mark_each k = rw list_is (omega (arith, marks_fit))

        module _ (r : ℕ) (s : counted r marked ≡ counted_marks picked sq marks) where
          marks_are : marked ≡ over ring_marks marks
          marks_are =
              let short : count (flat ring) ≤ 4096 = omega (arith, fewer, few list tolerance out scratch marks passed) in
              ap (λ (x : Outcome ℕ (List ℕ)). x.out) s ∙ ap (λ (l : List ℤ). (counted_marks l sq marks).out) list_is ∙ marks_stay (flat ring) short sq marks
              ∙ marks_over (flat ring) sq marks some marks_fit

          kept_are : kept marked (points picked) ≡ kept ring_marks (points (flat ring))
          kept_are =
              let each : length ring_marks ≡ count (flat ring) = a_mark_for_each_point (flat ring) sq some in
              let enough : length (points (flat ring)) ≤ length ring_marks = rw (each, length_points (flat ring)) (omega arith) in
              rw (list_is, marks_are, kept_over ring_marks marks (points (flat ring)) enough)

          narrowed : (k : ℕ) (last : List ℤ) → Handed (kept marked (points picked)) out k last →
              record { answer = Ok k; out = (last, after, marked) } ≡ reduction list tolerance out scratch marks
          narrowed k last d =
              rw (
                d.counted,
                d.written,
                kept_are,
                scratch_is,
                marks_are,
                answers_narrowed list tolerance out scratch marks (test_is list tolerance all false a e),
              )

pub radial_unless-kept-requires : goal.radial_unless-kept-requires
radial_unless-kept-requires c = (good_points _ _ _ _ _ c.requires, scratch_fits _ _ _ _ _ c.requires)

pub list_of-list-requires : goal.list_of-list-requires
list_of-list-requires c =
    part_fits _ _ _ _ _ c.requires _ c.is_whole-whole.ensures _ _ c.radial_unless-kept.ensures (search rules)

pub keep_all-requires : goal.keep_all-requires
keep_all-requires c = search points_fit

pub returns-then-whole : goal.returns-then-whole
returns-then-whole c = search (in_whole, rules)

pub keep_marked-requires : goal.keep_marked-requires
keep_marked-requires c = (search a_mark_each, search places_fit)

pub returns : goal.returns
returns c = search (narrowed, rules)
