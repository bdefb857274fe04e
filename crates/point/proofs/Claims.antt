-- What follows of the contracts, for their readers and their callers. Assumes nothing.
use mathlib.Core.Path.{◌≡◌, sym, ◌∙◌, refl}
use Prim.Native.Nat.{ℕ, zero, suc, ◌≤◌, ◌%◌, ◌+◌, ◌*◌}
use mathlib.Core.Bool.{Bool, true, false, not, ◌||◌}
use mathlib.Core.List.{List, [], ◌∷◌}
use lib.Dec.{eqb}
use lib.IntN.{ℤ, pos, nat_abs}
use lib.ListN.{length, get_or, set}
use borrow.Author.Tests.{eqb-true, not-false}
use mathlib.Core.Option.{Option, some, none}
use native.Mathlib.Omega.{arith}
use Rattle.std.specs.Prelude.{Result, Ok, Err}
use Rattle.std.specs.List.{list_all}
use Rattle.point.specs.Refusals.{refusal_number, number_of, count_of}
use Rattle.laws.proofs.Integers.{range_true}
use Rattle.laws.proofs.Joined.{both_true, both_false}
use Rattle.point.specs.Limits.{in_range, point_in_range, within, in_range_f64, point_in_range_f64, bad_list, bad_points, bad_tolerance, bad_sq_tolerance, bad_flags, too_many, places_for}
use mir.Syntax.{Dict}
use denote.Param.Laws.{Laws, IsCopy}
use denote.RattleType.{RattleType}
use Rattle.std.specs.declared.clone.Clone
use Rattle.point.specs.declared.limits.Ranged
use Rattle.point.proofs.refusal.Refusal.number.Reads.{Post as RefusalNumber}
use Rattle.point.proofs.refusal.number.Reads.{Post as Number}
use Rattle.point.proofs.limits.bad_points.Reads.{Post as BadPoints}
use Rattle.point.proofs.limits.judge_points.Reads.{Post as JudgePoints}
use Rattle.point.proofs.limits.I32Ranged.in_range.Reads.{Post as InRange}
use Rattle.point.proofs.limits.F64Ranged.in_range.Reads.{Post as InRangeF64}
use Rattle.point.proofs.limits.PointI32Ranged.in_range.Reads.{Post as PointInRange}
use Rattle.point.proofs.limits.PointF64Ranged.in_range.Reads.{Post as PointInRangeF64}
use Rattle.point.proofs.limits.too_many.Reads.{Post as TooMany}
use Rattle.point.proofs.limits.within.Reads.{Post as Within}
use Rattle.point.proofs.limits.places_for.Reads.{Post as PlacesFor}
use Rattle.point.proofs.flags.bad_flags.Reads.{Post as BadFlags}
use Rattle.point.proofs.limits.bad_tolerance.Reads.{Post as BadTolerance}
use Rattle.point.proofs.limits.bad_sq_tolerance.Reads.{Post as BadSqTolerance}
use Rattle.point.specs.declared.PointI32.{PointI32}
use Rattle.point.specs.declared.PointF64.{PointF64}
use Rattle.point.specs.Points.{point_at, flat, seen, same_point}
use Rattle.point.proofs.list.point_at.Reads.{Post as PointAt}
use Rattle.point.proofs.list.put.Reads.{Post as Put}
use Rattle.point.proofs.list.seen.Reads.{Post as Seen}
use Rattle.point.proofs.vector.same_point.Reads.{Post as SamePoint}
use Rattle.laws.proofs.Lists.{length_over}
use Rattle.point.specs.declared.refusal.Refusal.{Refusal}
use Rattle.point.proofs.Flat.{length_flat}
use Rattle.laws.specs.Outcome.{Outcome}
use Rattle.point.specs.Outcomes.{Points, list_refusal, refusal, verdict, outcome, handed, passed}
use Rattle.point.proofs.limits.judge.Reads.{Post as Judge}
use Rattle.laws.proofs.Determined.{Determined, same}
use lib.Ieee.{Float}

-- ---- Each contract leaves no choice: of equal arguments it allows one answer, and one last content of the buffer. `Post` is the contract
-- itself, as Rattle reads it off the source, at arguments `a`, a result `r` and parameters at exit `s`.

pub refusal_number_determined : Determined Refusal ℕ RefusalNumber (λ _ a. a.0) (λ _ r s. r)
refusal_number_determined = same refusal_number (λ _ a r s p. p)

-- of an answer of whatever is handed out
module _ (T : RattleType) (L : Laws T) (C : IsCopy T) (G : Clone.Ghosts T.Denot) (D : Dict) where
  pub number_determined : Determined (Result T.Denot Refusal) ℕ (Number T L C G D) (λ _ a. a.0) (λ _ r s. r)
  number_determined = same number_of (λ _ a r s p. p)

-- of values of whatever has a range
module _ (T : RattleType) (L : Laws T) (C : IsCopy T) (R : Ranged.Ghosts T.Denot) (E : Dict) (G : Clone.Ghosts T.Denot) (D : Dict) where
  pub bad_points_determined : Determined (List T.Denot) Bool (BadPoints T L C R E G D) (λ _ a. a.0.now) (λ _ r s. r)
  bad_points_determined = same (bad_list R.fits) (λ _ a r s p. p)

  pub judge_points_determined : Determined (List T.Denot) (Result Unit Refusal) (JudgePoints T L C R E G D) (λ _ a. a.0.now) (λ _ r s. r)
  judge_points_determined = same (λ x. verdict (list_refusal R.fits x)) (λ _ a r s p. p)

pub in_range_determined : Determined ℤ Bool InRange (λ _ a. a.0) (λ _ r s. r)
in_range_determined = same in_range (λ _ a r s p. p)

pub in_range_f64_determined : Determined Float Bool InRangeF64 (λ _ a. a.0) (λ _ r s. r)
in_range_f64_determined = same in_range_f64 (λ _ a r s p. p)

pub point_in_range_determined : Determined PointI32 Bool PointInRange (λ _ a. a.0) (λ _ r s. r)
point_in_range_determined = same point_in_range (λ _ a r s p. p)

pub point_in_range_f64_determined : Determined PointF64 Bool PointInRangeF64 (λ _ a. a.0) (λ _ r s. r)
point_in_range_f64_determined = same point_in_range_f64 (λ _ a r s p. p)

pub too_many_determined : Determined ℕ Bool TooMany (λ _ a. a.0) (λ _ r s. r)
too_many_determined = same too_many (λ _ a r s p. p)

pub within_determined : Determined (Float × Float × Float) Bool Within (λ _ a. (a.0, a.1.0, a.1.1.0)) (λ _ r s. r)
within_determined = same (λ x. within x.0 x.1 x.2) (λ _ a r s p. p)

pub places_for_determined : Determined ℕ ℕ PlacesFor (λ _ a. a.0) (λ _ r s. r)
places_for_determined = same places_for (λ _ a r s p. p)

pub bad_tolerance_determined : Determined Float Bool BadTolerance (λ _ a. a.0) (λ _ r s. r)
bad_tolerance_determined = same bad_tolerance (λ _ a r s p. p)

pub bad_sq_tolerance_determined : Determined Float Bool BadSqTolerance (λ _ a. a.0) (λ _ r s. r)
bad_sq_tolerance_determined = same bad_sq_tolerance (λ _ a r s p. p)

pub bad_flags_determined : Determined (List ℕ × ℕ) Bool BadFlags (λ _ a. (a.0.now, a.1.0)) (λ _ r s. r)
bad_flags_determined = same (λ x. bad_flags x.1 x.0) (λ _ a r s p. p)

pub judge_determined : Determined (List ℤ × ℕ) (Result Unit Refusal) Judge (λ _ a. (a.0.now, a.1.0)) (λ _ r s. r)
judge_determined = same (λ x. verdict (refusal x.0 x.1)) (λ _ a r s p. p)

pub point_at_determined : Determined (List ℤ × ℕ) PointI32 PointAt (λ _ a. (a.0.now, a.1.0)) (λ _ r s. r)
point_at_determined = same (λ x. point_at x.0 x.1) (λ _ a r s p. p)

pub put_determined : Determined (PointI32 × ℕ × List ℤ) (List ℤ) Put (λ _ a. (a.0, a.1.0, a.1.1.0.now)) (λ _ r s. s.1.1.0.now)
put_determined = same (λ x. set (set x.2 (x.1 * 2) x.0.x) (x.1 * 2 + 1) x.0.y) (λ _ a r s p. p)

pub seen_determined : Determined (ℕ × Bool) ℕ Seen (λ _ a. (a.0, a.1.0)) (λ _ r s. r)
seen_determined = same (λ x. seen x.0 x.1) (λ _ a r s p. p)

pub same_point_determined : Determined (PointI32 × PointI32) Bool SamePoint (λ _ a. (a.0, a.1.0)) (λ _ r s. r)
same_point_determined = same (λ x. same_point x.0 x.1) (λ _ a r s p. p)

-- ---- what a list that is not refused is

neither : (a b : Bool) → (not a || not b) ≡ false → (a ≡ true) × (b ≡ true)
neither a b e = let f = both_false (not a) (not b) e in (not-false a f.0, not-false b f.1)

module _ {A : Type 0} (fine : A → Bool) (xs : List A) (good : bad_list fine xs ≡ false) where
  -- It has whole points.
  pub whole_points : length xs % 2 ≡ 0
  unfolding bad_list
  whole_points = eqb-true (length xs % 2) 0 (neither (eqb (length xs % 2) 0) (list_all fine xs) good).0

  -- Each of its values passes the test.
  pub all_fine : list_all fine xs ≡ true
  unfolding bad_list
  all_fine = (neither (eqb (length xs % 2) 0) (list_all fine xs) good).1

-- A test of every value holds of the value at each place; past the end stands a value of one's own, of which it holds too.
pub every_at : {A : Type 0} (fine : A → Bool) (xs : List A) (d : A) → list_all fine xs ≡ true → fine d ≡ true → (k : ℕ) → fine (get_or xs k d) ≡ true
every_at fine [] d e f k = f
every_at fine (x ∷ xs) d e f zero = (both_true (fine x) (list_all fine xs) e).0
every_at fine (x ∷ xs) d e f (suc k) = every_at fine xs d (both_true (fine x) (list_all fine xs) e).1 f k

-- A coordinate that is in range lies within 16,383 of zero.
pub in_range_abs : (v : ℤ) → in_range v ≡ true → nat_abs v ≤ 16383
in_range_abs v e = range_true 16382 16383 refl v e

-- Each coordinate lies within 16,383 of zero, so that sums, differences and products of a few of them fit.
pub coordinates_fit : (xs : List ℤ) → bad_points xs ≡ false → (k : ℕ) → nat_abs (get_or xs k (pos 0)) ≤ 16383
coordinates_fit xs good k =
    in_range_abs (get_or xs k (pos 0)) (every_at in_range xs (pos 0) (all_fine in_range xs good) refl k)

-- ---- a refusal changes nothing, whatever was lent

pub refusal_changes_nothing : {A B : Type 0} (o : Option Refusal) (old : B) (done : Outcome (Result A Refusal) B) (x : A) → done.answer ≡ Ok x →
    (r : Refusal) → (outcome o old done).answer ≡ Err r → (outcome o old done).out ≡ old
unfolding outcome
refusal_changes_nothing (some q) old done x d r e = refl
refusal_changes_nothing {A} none old done x d r e = let f : ◌≡◌ {A = Result A Refusal} (Ok x) (Err r) = sym d ∙ e in let z : ◌≡◌ {A = ℕ} 0 1 = cc in absurd (omega arith)

-- ---- a call that hands out points for a list of points

pub passed_unchanged : (list : List ℤ) (ps : List PointI32) (out : List ℤ) (r : Refusal) → (passed list ps out).answer ≡ Err r → (passed list ps out).out ≡ out
unfolding passed
passed_unchanged list ps out r = refusal_changes_nothing (refusal list (length out)) out (handed ps out) (length ps) refl r

-- what is counted fits the buffer, and the buffer keeps its length
pub record Fitting (o : Points) (out : List ℤ) : Type 0 where
  pub counted : count_of o.answer * 2 ≤ length out
  pub long : length o.out ≡ length out

pub passed_fitting : (list : List ℤ) (ps : List PointI32) (out : List ℤ) → (refusal list (length out) ≡ none → length ps * 2 ≤ length out) → Fitting (passed list ps out) out
unfolding passed
passed_fitting list ps out h = by (refusal list (length out)) h
  where
    by : (o : Option Refusal) → (o ≡ none → length ps * 2 ≤ length out) → Fitting (outcome o out (handed ps out)) out
    by (some q) h = record { counted = omega arith; long = refl }
    by none h =
        let k : length ps * 2 ≤ length out = h refl in
        record { counted = k; long = length_over (flat ps) out (omega (arith, length_flat ps)) }
