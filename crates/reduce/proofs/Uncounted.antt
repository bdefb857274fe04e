-- A call whose work is counted, and its answer alone. Assumes nothing.
use Prim.Native.Nat.{ℕ}
use mathlib.Core.List.{List}
use mathlib.Core.Option.{Option, some, none}
use mathlib.Core.Path.{◌≡◌, refl}
use lib.Ieee.{Float, lt}
use lib.IntN.{ℤ}
use lib.ListN.{length}
use Rattle.std.specs.Prelude.{Result, Ok}
use Rattle.laws.specs.Lists.{over}
use Rattle.laws.specs.Outcome.{Outcome}
use Rattle.point.specs.Outcomes.{outcome}
use Rattle.point.specs.Points.{points, count}
use Rattle.point.specs.declared.refusal.Refusal.{Refusal}
use Rattle.split.specs.Distance.{zero64}
use Rattle.split.specs.Tree.{marks_of, numbers_of, tree}
use Rattle.split.specs.Visits.{visits}
use Rattle.reduce.specs.Answers.{answer_of}
use Rattle.reduce.specs.DouglasPeucker.{douglas_peucker_refusal, kept_and_marked, douglas_peucker_of, counted_douglas_peucker_of}
use Rattle.reduce.specs.Kept.{kept}
use Rattle.reduce.specs.Numbers.{numbers_refusal, numbered_of, counted_numbered_of}
use Rattle.reduce.specs.declared.Counted.{Counted}

abbrev pub uncounted : {B : Type 0} → Outcome (Result Counted Refusal) B → Outcome (Result ℕ Refusal) B
uncounted o = record { answer = answer_of o.answer; out = o.out }

-- it refuses alike, and has done the same
alone : {B : Type 0} (o : Option Refusal) (old b : B) (n d : ℕ)
    → uncounted (outcome o old (record { answer = Ok (record { points = n; distances = d }); out = b })) ≡ outcome o old (record { answer = Ok n; out = b })
unfolding outcome
alone (some r) old b n d = refl
alone none old b n d = refl

pub douglas_peucker_uncounted : (list : List ℤ) (t : Float) (out : List ℤ) (marks : List ℕ) → uncounted (counted_douglas_peucker_of list t out marks) ≡ douglas_peucker_of list t out marks
unfolding counted_douglas_peucker_of douglas_peucker_of
douglas_peucker_uncounted list t out marks =
    alone (douglas_peucker_refusal list t out marks) (out, marks) (kept_and_marked list t out marks).out (length (kept (marks_of t list) (points list))) (visits (lt t) (tree list))

pub numbers_uncounted : (list : List ℤ) (out : List Float) → uncounted (counted_numbered_of list out) ≡ numbered_of list out
unfolding counted_numbered_of numbered_of
numbers_uncounted list out = alone (numbers_refusal list out) out (over (numbers_of list) out) (count list) (visits (lt zero64) (tree list))
