-- What stands between the two passes: of a list that is not refused the first hands on a list that the second does not refuse either.
-- Assumes nothing.
use Prim.Native.Nat.{ℕ, ◌*◌, ◌≤◌}
use mathlib.Core.Bool.{Bool}
use mathlib.Core.List.{List}
use mathlib.Core.Option.{none}
use mathlib.Core.Path.{◌≡◌, sym, ap, ◌∙◌}
use native.Mathlib.Omega.{arith}
use lib.Dec.{lit<}
use lib.IntN.{ℤ}
use lib.ListN.{length, take}
use Rattle.laws.proofs.Lists.{take_over_all}
use Rattle.point.specs.Limits.{places_for}
use Rattle.point.specs.Points.{flat, points, count}
use Rattle.point.specs.Refusals.{count_of}
use Rattle.point.specs.declared.PointI32.{PointI32}
use Rattle.point.proofs.Flat.{length_flat, length_points, count_flat}
use Rattle.point.proofs.Room.{places_shorter}
use Rattle.point.specs.Outcomes.{Points, refusal, verdict, outcome, handed}
use Rattle.std.specs.Prelude.{Result, Ok, Err}
use Rattle.point.specs.declared.refusal.Refusal.{Refusal}
use Rattle.point.proofs.Verdicts.{few, good, places, not_refused}
use Rattle.simplify.specs.Staircase.{remove_staircase, staircase_of}
use Rattle.simplify.proofs.Claims.{remove_staircase_fits}
use Rattle.simplify.proofs.Outward.{staircase_shorter, staircase_good, staircase_places}

module _ (list : List ℤ) (clockwise : Bool) (v : Result Unit Refusal) (room : ℕ) (says : v ≡ verdict (refusal list room)) (fine : v ≡ Ok tt) where
  abbrev left : List PointI32
  left = remove_staircase clockwise (points list)

  short : length left * 2 ≤ 8192
  short = omega (arith, staircase_shorter clockwise (points list), length_points list, few list room v says fine)

  -- the first pass has room in 8,192 values
  first_goes_on : refusal list 8192 ≡ none
  first_goes_on =
      let most : places_for (count list) ≤ 4096 = places_shorter (count list) 4096 (omega (arith, few list room v says fine)) (lit< tt) in
      not_refused list 8192 (few list room v says fine) (good list room v says fine) (omega arith)

  -- the second has room where one pass over the list would have it
  pub second_goes_on : refusal (flat left) room ≡ none
  second_goes_on =
      not_refused (flat left) room (omega (arith, length_flat left, short)) (staircase_good clockwise list (good list room v says fine))
      (rw (count_flat left) (omega (arith, staircase_places clockwise list, places list room v says fine)))

  -- what the first pass leaves in a list of 8,192 values
  module _ (answer : Result ℕ Refusal) (old between : List ℤ) (first : record { answer = answer; out = between } ≡ staircase_of list clockwise old)
      (long : length between ≡ 8192) where
    old_long : length old ≡ 8192
    old_long = sym (remove_staircase_fits list old clockwise).long ∙ ap (λ (o : Points). length o.out) (sym first) ∙ long

    done : record { answer = answer; out = between } ≡ handed left old
    unfolding staircase_of
    done =
        first
        ∙ ap (λ (n : ℕ). outcome (refusal list n) old (handed left old)) old_long
        ∙ ap (λ o. outcome o old (handed left old)) first_goes_on

    answered : answer ≡ Ok (length left)
    unfolding handed
    answered = ap (λ (o : Points). o.answer) done

    -- it is not refused
    pub not_err : (r : Refusal) → answer ≡ Err r → ⊥
    not_err r e = let f : ◌≡◌ {A = Result ℕ Refusal} (Err r) (Ok (length left)) = sym e ∙ answered in cc

    module _ (kept : ℕ) (e : answer ≡ Ok kept) where
      kept_is : kept ≡ length left
      kept_is = ap count_of (sym e ∙ answered)

      pub kept_short : kept * 2 ≤ 8192
      kept_short = omega (arith, kept_is, short)

      pub middle : take (kept * 2) between ≡ flat left
      unfolding handed
      middle =
          let f : kept * 2 ≡ length (flat left) = omega (arith, kept_is, length_flat left) in
          ap (λ (o : Points). take (kept * 2) o.out) done ∙ rw f (take_over_all (flat left) old)
