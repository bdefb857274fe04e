-- At each return the tests on the way pick a line of `radial_of`.
use Prim.Native.Nat.{ℕ, ◌/◌, ◌<◌, ◌≤◌}
use mathlib.Core.Bool.{Bool, true, false}
use mathlib.Core.List.{List}
use mathlib.Core.Path.{◌≡◌}
use lib.Ieee.{Float}
use lib.IntN.{ℤ}
use lib.ListN.{length}
use Rattle.std.proofs.Common.{rules}
use Rattle.std.specs.Prelude.{Result, Ok, Err}
use Rattle.point.specs.Limits.{in_range, bad_sq_tolerance, places_for}
use Rattle.point.specs.Outcomes.{list_refusal, verdict}
use Rattle.point.specs.Points.{points, count}
use Rattle.point.specs.declared.refusal.Refusal.{Refusal}
use Rattle.point.specs.declared.refusal.Refusal.TheVariants.{BadTolerance, NoRoom}
use Rattle.point.specs.inside.Written.{Handed}
use Rattle.point.proofs.Room.{too_short, long_enough, list_fits}
use Rattle.reduce.specs.Radial.{radial, radial_of}
use Rattle.reduce.proofs.Judged.{refused_list, few, good}
use Rattle.reduce.proofs.radial.simplify_radial_dist.Goals as goal

module _ (list : List ℤ) (tolerance : Float) (out : List ℤ) (v : Result Unit Refusal) (j : v ≡ verdict (list_refusal in_range list)) (u : Unit) (e : v ≡ Ok u)
    (wrong : Bool) (w : wrong ≡ bad_sq_tolerance tolerance) where
  bad_tolerance : wrong ≡ true → record { answer = Err BadTolerance; out = out } ≡ radial_of list tolerance out
  unfolding radial_of
  bad_tolerance g = rw (few list v j u e, good list v j u e, ← w, g)

  module _ (g : wrong ≡ false) (places : ℕ) (p : places ≡ places_for (count list)) where
    no_room : length out / 2 < places → record { answer = Err NoRoom; out = out } ≡ radial_of list tolerance out
    unfolding radial_of
    no_room h = rw (few list v j u e, good list v j u e, ← w, g, ← p, too_short _ _ h)

    done : places ≤ length out / 2 → (n : ℕ) (last : List ℤ) → Handed (radial tolerance (points list)) out n last →
        record { answer = Ok n; out = last } ≡ radial_of list tolerance out
    unfolding radial_of
    done h n last d = rw (few list v j u e, good list v j u e, ← w, g, ← p, long_enough _ _ h, d.counted, d.written)

pub returns-in_err-judge_points : goal.returns-in_err-judge_points
unfolding radial_of
returns-in_err-judge_points c =
    refused_list _ _ c.judge_points.ensures _ _ _ c.in_err-judge_points.was _ c.from_residual.ensures.1 (λ b. b)

pub returns-then-bad_sq_tolerance : goal.returns-then-bad_sq_tolerance
returns-then-bad_sq_tolerance c =
    bad_tolerance _ _ _ _ c.judge_points.ensures _ c.in_ok-judge_points.was _ c.bad_sq_tolerance.ensures c.if-bad_sq_tolerance.true

pub returns-then-out-places_for : goal.returns-then-out-places_for
returns-then-out-places_for c =
    no_room _ _ _ _ c.judge_points.ensures _ c.in_ok-judge_points.was _ c.bad_sq_tolerance.ensures c.if-bad_sq_tolerance.false
    _ c.places_for.ensures c.if-out-places_for.true

pub keep_far-requires : goal.keep_far-requires
keep_far-requires c =
    let g = good c.args.points.now c.judge_points.result c.judge_points.ensures _ c.in_ok-judge_points.was in
    (g, list_fits _ _ _ _ (search rules) g c.places_for.ensures c.if-out-places_for.false)

pub returns : goal.returns
returns c =
    done _ _ _ _ c.judge_points.ensures _ c.in_ok-judge_points.was _ c.bad_sq_tolerance.ensures c.if-bad_sq_tolerance.false
    _ c.places_for.ensures c.if-out-places_for.false _ _ c.keep_far.ensures
