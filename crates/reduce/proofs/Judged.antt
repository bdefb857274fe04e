-- Where the judgement of a list is handed on by `?`: the call refuses as it says, or else the list is short enough and good. Assumes nothing.
use mathlib.Core.Bool.{Bool, true, false}
use mathlib.Core.List.{List}
use mathlib.Core.Option.{Option, some, none}
use mathlib.Core.Path.{◌≡◌, refl, ap}
use lib.IntN.{ℤ}
use lib.ListN.{length}
use Rattle.std.specs.Prelude.{Result, Ok, Err}
use Rattle.std.specs.Result.{IsErrAnd}
use Rattle.laws.specs.Outcome.{Outcome}
use Rattle.point.specs.Limits.{too_many, in_range, bad_points}
use Rattle.point.specs.Outcomes.{list_refusal, verdict, outcome}
use Rattle.point.specs.Refusals.{refuse◌when◌or◌}
use Rattle.point.specs.declared.refusal.Refusal.{Refusal}
use Rattle.point.specs.declared.refusal.Refusal.TheVariants.{TooMany, BadPoint}

-- what a `?` returns where it leaves the call
pub left_with : {A : Type 0} (a : Result A Refusal) (r : Refusal) → IsErrAnd a (λ e. e ≡ r) → a ≡ Err r
left_with (Ok x) r h = absurd h
left_with (Err e) r h = ap Err h

-- a later test of the points may refuse too
refused : (many bad worse : Bool) (v : Result Unit Refusal) (r : Refusal) (rest : Option Refusal) →
    v ≡ verdict (refuse TooMany when many or refuse BadPoint when bad or none) → v ≡ Err r → (bad ≡ true → worse ≡ true) →
    (refuse TooMany when many or refuse BadPoint when worse or rest) ≡ some r
refused true bad worse v r rest s e w = cc
refused false true worse v r rest s e w = rw (w refl) cc
refused false false worse v r rest s e w = cc

fine : (many bad : Bool) (v : Result Unit Refusal) (u : Unit) →
    v ≡ verdict (refuse TooMany when many or refuse BadPoint when bad or none) → v ≡ Ok u → (many ≡ false) × (bad ≡ false)
fine true bad v u s e = cc
fine false true v u s e = cc
fine false false v u s e = (refl, refl)

module _ (list : List ℤ) (v : Result Unit Refusal) (says : v ≡ verdict (list_refusal in_range list)) where
  pub refusal_is : {worse : Bool} (rest : Option Refusal) (r : Refusal) → v ≡ Err r → (bad_points list ≡ true → worse ≡ true) →
      (refuse TooMany when too_many (length list) or refuse BadPoint when worse or rest) ≡ some r
  refusal_is {worse} rest r e w = refused (too_many (length list)) (bad_points list) worse v r rest says e w

  pub refused_list : {A B : Type 0} {worse : Bool} {old : B} (rest : Option Refusal) (done : Outcome (Result A Refusal) B)
      (r : Refusal) → v ≡ Err r → (a : Result A Refusal) → IsErrAnd a (λ e. e ≡ r) → (bad_points list ≡ true → worse ≡ true) →
      record { answer = a; out = old } ≡ outcome (refuse TooMany when too_many (length list) or refuse BadPoint when worse or rest) old done
  unfolding outcome
  refused_list {A} {B} {worse} {old} rest done r e a h w =
      rw (left_with a r h, refusal_is {worse = worse} rest r e w)

  module _ (u : Unit) (e : v ≡ Ok u) where
    pub few : too_many (length list) ≡ false
    few = (fine (too_many (length list)) (bad_points list) v u says e).0

    pub good : bad_points list ≡ false
    good = (fine (too_many (length list)) (bad_points list) v u says e).1
