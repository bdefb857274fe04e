-- What follows of the contracts, for their readers and their callers. Assumes nothing.
use Prim.Native.Nat.{ℕ, ◌*◌, ◌≤◌}
use mathlib.Core.Bool.{not, ◌||◌, Bool, true, false}
use mathlib.Core.List.{List}
use mathlib.Core.Option.{none}
use mathlib.Core.Path.{◌≡◌, refl, ap}
use native.Mathlib.Omega.{arith}
use lib.Dec.{ltb, eqb}
use lib.Ieee.{Float, binary64, of_bits, mul}
use lib.IntN.{ℤ}
use lib.ListN.{length}
use borrow.Author.Tests.{ltb-false}
use Rattle.std.specs.Prelude.{Result, Ok, Err}
use Rattle.laws.specs.Outcome.{Outcome}
use Rattle.laws.specs.Lists.{over}
use Rattle.laws.proofs.Determined.{Determined, same}
use Rattle.laws.proofs.Joined.{both_false}
use Rattle.point.specs.Limits.{too_many, bad_points, bad_sq_tolerance, places_for}
use Rattle.point.specs.Outcomes.{Points, handed}
use Rattle.point.specs.Points.{points, count, flat}
use Rattle.point.specs.Refusals.{count_of}
use Rattle.point.specs.declared.PointI32.{PointI32}
use Rattle.point.specs.declared.refusal.Refusal.{Refusal}
use Rattle.point.proofs.Claims.{refusal_changes_nothing}
use Rattle.point.proofs.Flat.{length_points, count_flat}
use Rattle.point.proofs.Room.{places_enough, places_shorter}
use Rattle.split.specs.Tree.{marks_of, numbers_of}
use Rattle.reduce.specs.DouglasPeucker.{douglas_peucker_refusal, kept_and_marked, douglas_peucker_of, counted_douglas_peucker_of}
use Rattle.reduce.specs.Kept.{kept, short_for}
use Rattle.reduce.specs.Numbers.{numbers_refusal, numbered_of, counted_numbered_of}
use Rattle.reduce.specs.Radial.{radial, radial_refusal, radial_of}
use Rattle.reduce.specs.Reduce.{reduce_refusal, reduction, reduce_of}
use Rattle.reduce.specs.Zoom.{marks_by, zoom_refusal, zoom_of}
use Rattle.reduce.specs.declared.Counted.{Counted}
use Rattle.reduce.proofs.Reduction.{in_whole, many_points, answers_whole, answers_narrowed, out_room}
use Rattle.point.proofs.Verdicts.{passes}
use Rattle.reduce.proofs.Room.{counts, places, marks_fit}
use Rattle.reduce.proofs.Uncounted.{uncounted, douglas_peucker_uncounted, numbers_uncounted}
use Rattle.reduce.proofs.both_passes.reduce.Reads.{Post as Reduce}
use Rattle.reduce.proofs.douglas_peucker.simplify_douglas_peucker.Reads.{Post as DouglasPeucker}
use Rattle.reduce.proofs.douglas_peucker.simplify_douglas_peucker_counted.Reads.{Post as DouglasPeuckerCounted}
use Rattle.reduce.proofs.numbering.numbers.Reads.{Post as Numbers}
use Rattle.reduce.proofs.numbering.numbers_counted.Reads.{Post as NumbersCounted}
use Rattle.reduce.proofs.radial.Far.{radial_shorter}
use Rattle.reduce.proofs.radial.simplify_radial_dist.Reads.{Post as Radial}
use Rattle.reduce.proofs.zooming.zoom.Reads.{Post as Zoom}

-- ---- each contract leaves no choice: of equal arguments it allows one answer, and one last content of every buffer. `Post` is the contract
-- itself, as Rattle reads it off the source, at arguments `a`, a result `r` and parameters at exit `s`.

pub radial_determined : Determined (List ℤ × Float × List ℤ) Points Radial
    (λ _ a. (a.0.now, a.1.0, a.1.1.0.now))
    (λ _ r s. record { answer = r; out = s.1.1.0.now })
radial_determined = same (λ x. radial_of x.0 x.1 x.2) (λ _ a r s p. p)

pub douglas_peucker_determined : Determined (List ℤ × Float × List ℤ × List ℕ) (Outcome (Result ℕ Refusal) (List ℤ × List ℕ)) DouglasPeucker
    (λ _ a. (a.0.now, a.1.0, a.1.1.0.now, a.1.1.1.0.now))
    (λ _ r s. record { answer = r; out = (s.1.1.0.now, s.1.1.1.0.now) })
douglas_peucker_determined = same (λ x. douglas_peucker_of x.0 x.1 x.2 x.3) (λ _ a r s p. p)

pub reduce_determined : Determined (List ℤ × Float × List ℤ × List ℤ × List ℕ) (Outcome (Result ℕ Refusal) (List ℤ × List ℤ × List ℕ)) Reduce
    (λ _ a. (a.0.now, a.1.0, a.1.1.0.now, a.1.1.1.0.now, a.1.1.1.1.0.now))
    (λ _ r s. record { answer = r; out = (s.1.1.0.now, s.1.1.1.0.now, s.1.1.1.1.0.now) })
reduce_determined = same (λ x. reduce_of x.0 x.1 x.2 x.3 x.4) (λ _ a r s p. p)

pub numbers_determined : Determined (List ℤ × List Float) (Outcome (Result ℕ Refusal) (List Float)) Numbers
    (λ _ a. (a.0.now, a.1.0.now))
    (λ _ r s. record { answer = r; out = s.1.0.now })
numbers_determined = same (λ x. numbered_of x.0 x.1) (λ _ a r s p. p)

pub zoom_determined : Determined (List ℤ × List Float × Float × List ℤ) Points Zoom
    (λ _ a. (a.0.now, a.1.0.now, a.1.1.0, a.1.1.1.0.now))
    (λ _ r s. record { answer = r; out = s.1.1.1.0.now })
zoom_determined = same (λ x. zoom_of x.0 x.1 x.2 x.3) (λ _ a r s p. p)

pub douglas_peucker_counted_determined : Determined (List ℤ × Float × List ℤ × List ℕ) (Outcome (Result Counted Refusal) (List ℤ × List ℕ)) DouglasPeuckerCounted
    (λ _ a. (a.0.now, a.1.0, a.1.1.0.now, a.1.1.1.0.now))
    (λ _ r s. record { answer = r; out = (s.1.1.0.now, s.1.1.1.0.now) })
douglas_peucker_counted_determined = same (λ x. counted_douglas_peucker_of x.0 x.1 x.2 x.3) (λ _ a r s p. p)

pub numbers_counted_determined : Determined (List ℤ × List Float) (Outcome (Result Counted Refusal) (List Float)) NumbersCounted
    (λ _ a. (a.0.now, a.1.0.now))
    (λ _ r s. record { answer = r; out = s.1.0.now })
numbers_counted_determined = same (λ x. counted_numbered_of x.0 x.1) (λ _ a r s p. p)

-- ---- with its work counted a call answers what it answers without

pub douglas_peucker_counts_beside : (list : List ℤ) (t : Float) (out : List ℤ) (marks : List ℕ) → uncounted (counted_douglas_peucker_of list t out marks) ≡ douglas_peucker_of list t out marks
douglas_peucker_counts_beside = douglas_peucker_uncounted

pub numbers_count_beside : (list : List ℤ) (out : List Float) → uncounted (counted_numbered_of list out) ≡ numbered_of list out
numbers_count_beside = numbers_uncounted

-- ---- a refusal changes no buffer, and what an answer counts has its place in the buffer

module _ (list : List ℤ) (tolerance : Float) (out : List ℤ) where
  pub radial_unchanged : (r : Refusal) → (radial_of list tolerance out).answer ≡ Err r → (radial_of list tolerance out).out ≡ out
  unfolding radial_of
  radial_unchanged r = refusal_changes_nothing (radial_refusal list tolerance out) out (handed (radial tolerance (points list)) out) (length (radial tolerance (points list))) refl r

  pub radial_fits : count_of (radial_of list tolerance out).answer * 2 ≤ length out
  unfolding radial_of
  radial_fits = counts (λ n. n * 2 ≤ length out) (radial_refusal list tolerance out) out (handed (radial tolerance (points list)) out) (omega arith) kept_fit
    where
      kept_fit : radial_refusal list tolerance out ≡ none → length (radial tolerance (points list)) * 2 ≤ length out
      kept_fit e =
          let good = (passes _ (bad_points list) _ (passes _ (too_many (length list)) _ e).1).1 in
          let room = (passes _ (short_for (count list) out) _ (passes _ (bad_sq_tolerance tolerance) _ good).1).0 in
          places (count list) (length (radial tolerance (points list))) out room
          (omega (arith, radial_shorter tolerance (points list), length_points list, places_enough (count list)))

module _ (list : List ℤ) (tolerance : Float) (out : List ℤ) (marks : List ℕ) where
  pub douglas_peucker_unchanged : (r : Refusal) → (douglas_peucker_of list tolerance out marks).answer ≡ Err r → (douglas_peucker_of list tolerance out marks).out ≡ (out, marks)
  unfolding douglas_peucker_of
  douglas_peucker_unchanged r =
      refusal_changes_nothing (douglas_peucker_refusal list tolerance out marks) (out, marks) (kept_and_marked list tolerance out marks)
      (length (kept (marks_of tolerance list) (points list))) refl r

  pub douglas_peucker_fits : count_of (douglas_peucker_of list tolerance out marks).answer * 2 ≤ length out
  unfolding douglas_peucker_of
  douglas_peucker_fits =
      counts (λ n. n * 2 ≤ length out) (douglas_peucker_refusal list tolerance out marks) (out, marks) (kept_and_marked list tolerance out marks) (omega arith) kept_fit
    where
      kept_fit : douglas_peucker_refusal list tolerance out marks ≡ none → length (kept (marks_of tolerance list) (points list)) * 2 ≤ length out
      kept_fit e =
          let good = (passes _ (bad_points list) _ (passes _ (too_many (length list)) _ e).1).1 in
          let fine = (passes _ (bad_sq_tolerance tolerance) _ (passes _ (eqb (count list) 0) _ good).1).1 in
          let room = (passes _ (short_for (count list) out || ltb (length marks) (count list)) _ fine).0 in
          places (count list) (length (kept (marks_of tolerance list) (points list))) out
          (both_false (short_for (count list) out) (ltb (length marks) (count list)) room).0 (marks_fit (marks_of tolerance list) list)

module _ (list : List ℤ) (out : List Float) where
  abbrev numbered : Outcome (Result ℕ Refusal) (List Float)
  numbered = record { answer = Ok (count list); out = over (numbers_of list) out }

  pub numbers_unchanged : (r : Refusal) → (numbered_of list out).answer ≡ Err r → (numbered_of list out).out ≡ out
  unfolding numbered_of
  numbers_unchanged r = refusal_changes_nothing (numbers_refusal list out) out numbered (count list) refl r

  pub numbers_fit : count_of (numbered_of list out).answer ≤ length out
  unfolding numbered_of
  numbers_fit = counts (λ n. n ≤ length out) (numbers_refusal list out) out numbered (omega arith) all_fit
    where
      all_fit : numbers_refusal list out ≡ none → count list ≤ length out
      all_fit e =
          let good = (passes _ (bad_points list) _ (passes _ (too_many (length list)) _ e).1).1 in
          let room = (passes _ (ltb (length out) (places_for (count list))) _ (passes _ (eqb (count list) 0) _ good).1).0 in
          omega (arith, ltb-false (length out) (places_for (count list)) room, places_enough (count list))

module _ (list : List ℤ) (numbers : List Float) (tolerance : Float) (out : List ℤ) where
  abbrev zoomed : List PointI32
  zoomed = kept (marks_by tolerance numbers) (points list)

  pub zoom_unchanged : (r : Refusal) → (zoom_of list numbers tolerance out).answer ≡ Err r → (zoom_of list numbers tolerance out).out ≡ out
  unfolding zoom_of
  zoom_unchanged r = refusal_changes_nothing (zoom_refusal list numbers tolerance out) out (handed zoomed out) (length zoomed) refl r

  pub zoom_fits : count_of (zoom_of list numbers tolerance out).answer * 2 ≤ length out
  unfolding zoom_of
  zoom_fits = counts (λ n. n * 2 ≤ length out) (zoom_refusal list numbers tolerance out) out (handed zoomed out) (omega arith) kept_fit
    where
      kept_fit : zoom_refusal list numbers tolerance out ≡ none → length zoomed * 2 ≤ length out
      kept_fit e =
          let good = (passes _ (bad_points list || not (eqb (length numbers) (count list))) _ (passes _ (too_many (length list)) _ e).1).1 in
          let fine = (passes _ (bad_sq_tolerance tolerance) _ (passes _ (eqb (count list) 0) _ good).1).1 in
          places (count list) (length zoomed) out (passes _ (short_for (count list) out) _ fine).0 (marks_fit (marks_by tolerance numbers) list)

module _ (list : List ℤ) (tolerance : Float) (out scratch : List ℤ) (marks : List ℕ) where
  abbrev ring : List PointI32
  ring = radial (mul binary64 (mul binary64 tolerance tolerance) (of_bits binary64 0x3fe0000000000000)) (points list)

  -- how many points are left
  abbrev left : Bool → ℕ
  left true = count list
  left false = length (kept (marks_of (mul binary64 tolerance tolerance) (flat ring)) (points (flat ring)))

  done : (t : Bool) → in_whole list tolerance ≡ t → (reduction list tolerance out scratch marks).answer ≡ Ok (left t)
  done true e = rw (answers_whole list tolerance out scratch marks e)
  done false e = rw (answers_narrowed list tolerance out scratch marks e)

  pub reduce_unchanged : (r : Refusal) → (reduce_of list tolerance out scratch marks).answer ≡ Err r → (reduce_of list tolerance out scratch marks).out ≡ (out, scratch, marks)
  unfolding reduce_of
  reduce_unchanged r =
      refusal_changes_nothing (reduce_refusal list tolerance out scratch marks) (out, scratch, marks) (reduction list tolerance out scratch marks)
      (left (in_whole list tolerance)) (done (in_whole list tolerance) refl) r

  pub reduce_fits : count_of (reduce_of list tolerance out scratch marks).answer * 2 ≤ length out
  unfolding reduce_of
  reduce_fits =
      counts (λ n. n * 2 ≤ length out) (reduce_refusal list tolerance out scratch marks) (out, scratch, marks) (reduction list tolerance out scratch marks) (omega arith)
      (λ e. kept_fit (in_whole list tolerance) refl (out_room list tolerance out scratch marks e))
    where
      fewer : in_whole list tolerance ≡ false → places_for (length ring) ≤ places_for (count list)
      fewer e =
          let short = radial_shorter (mul binary64 (mul binary64 tolerance tolerance) (of_bits binary64 0x3fe0000000000000)) (points list) in
          places_shorter (length ring) (count list) (omega (arith, short, length_points list)) (omega (arith, many_points list tolerance e))

      kept_fit : (t : Bool) → in_whole list tolerance ≡ t → places_for (count list) * 2 ≤ length out →
          count_of (reduction list tolerance out scratch marks).answer * 2 ≤ length out
      kept_fit true t h = rw (done true t) (omega (arith, places_enough (count list)))
      kept_fit false t h =
          rw (done false t)
          (omega (arith, marks_fit (marks_of (mul binary64 tolerance tolerance) (flat ring)) (flat ring), ap places_for (count_flat ring), fewer t))
