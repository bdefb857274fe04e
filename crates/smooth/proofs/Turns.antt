-- What a turn puts down, from what enters: the room that it takes, and how the round of i points becomes that of i + 1. Assumes nothing.
use Prim.Native.Nat.{ℕ, zero, suc, ◌+◌, ◌*◌, ◌<◌, ◌≤◌}
use mathlib.Core.Bool.{Bool, true, false, ◌&&◌}
use mathlib.Core.List.{List, [], ◌∷◌, ◌++◌, append_assoc, append-nil}
use mathlib.Core.Path.{◌≡◌, refl, sym, ap, ◌∙◌}
use native.Mathlib.Omega.{arith}
use lib.Ieee.{Float}
use lib.ListN.{length, get_or, length-append}
use borrow.Author.Tests.{eq-eqb}
use Rattle.point.specs.declared.PointF64.{PointF64}
use Rattle.smooth.specs.declared.scheme.Settings.{Settings}
use Rattle.smooth.specs.Places.{place_at}
use Rattle.smooth.specs.declared.scheme.Entering.{Entering}
use Rattle.std.specs.Prelude.{Option, Some, None}
use Rattle.smooth.specs.Segments.{entering_behind}
use Rattle.smooth.specs.Round.{Made, with_entered, made_from}
use Rattle.smooth.specs.inside.Parts.{room_for, list_of, flags_of, settled_of, turn_points, turn_flags, turn_settled}

-- ---- the room

pub first_room : (closed : Bool) (m i k places : ℕ) → i < m → k ≤ i * 2 → room_for closed m ≤ places → k < places
first_room true m i k places h l r = omega arith
first_room false m i k places h l r = omega arith

module _ (list : List Float) (corners : List ℕ) (settings : Settings) (m i k places : ℕ) (h : i < m) (l : k ≤ i * 2) where
  -- nothing enters behind the last point of an open list
  none_behind : suc i ≡ m → entering_behind list corners settings false m i ≡ None
  unfolding entering_behind
  none_behind e = rw (eq-eqb (suc i) m e)

  pub second_room : (closed : Bool) (new : Entering) → entering_behind list corners settings closed m i ≡ Some new → room_for closed m ≤ places →
      k + 1 < places
  second_room true new e r = omega arith
  second_room false new e r =
      let n : suc i ≡ m → ⊥ = λ z. let o : None ≡ Some new = sym (none_behind z) ∙ e in let c : ◌≡◌ {A = ℕ} 0 1 = cc in omega arith in
      omega arith

  pub turn_fits : (closed : Bool) → room_for closed m ≤ places → k + length (turn_points list corners settings closed m i) ≤ places
  unfolding turn_points
  turn_fits closed r = go (entering_behind list corners settings closed m i) refl
    where
      go : (o : Option Entering) → entering_behind list corners settings closed m i ≡ o → k + length (place_at list i ∷ list_of o) ≤ places
      go None e = omega (arith, first_room closed m i k places h l r)
      go (Some new) e = omega (arith, second_room closed new e r)

-- ---- a list, or a test, that is made from the front is also made from the back

module _ {A : Type 0} (join : A → A → A) (unit : A) (assoc : (a b c : A) → join (join a b) c ≡ join a (join b c)) (left : (a : A) → join unit a ≡ a)
    (right : (a : A) → join a unit ≡ a) (f : ℕ → ℕ → A) (g : ℕ → A) (empty : (i : ℕ) → f i zero ≡ unit)
    (front : (i n : ℕ) → f i (suc n) ≡ join (g i) (f (suc i) n)) where
  back : (i n : ℕ) → f i (suc n) ≡ join (f i n) (g (i + n))
  back i zero =
      let e : i ≡ i + 0 = omega arith in
      front i zero ∙ ap (join (g i)) (empty (suc i)) ∙ right (g i) ∙ ap g e ∙ sym (left (g (i + 0))) ∙ ap (λ (a : A). join a (g (i + 0))) (sym (empty i))
  back i (suc n) =
      let e : suc i + n ≡ i + suc n = omega arith in
      front i (suc n)
      ∙ ap (join (g i)) (back (suc i) n ∙ ap (λ (k : ℕ). join (f (suc i) n) (g k)) e)
      ∙ sym (assoc (g i) (f (suc i) n) (g (i + suc n)))
      ∙ ap (λ (a : A). join a (g (i + suc n))) (sym (front i n))

and_assoc : (a b c : Bool) → (a && b && c) ≡ (a && (b && c))
and_assoc true b c = refl
and_assoc false b c = refl

and_true : (a : Bool) → (a && true) ≡ a
and_true true = refl
and_true false = refl

-- ---- the round of n points from i on, one more

module _ (list : List Float) (corners : List ℕ) (settings : Settings) (closed : Bool) (m : ℕ) where
  abbrev made : ℕ → ℕ → Made
  made i n = made_from list corners settings closed m i n

  entered_points : (o : Option Entering) (rest : Made) → (with_entered o rest).points ≡ list_of o ++ rest.points
  entered_points None rest = refl
  entered_points (Some new) rest = refl

  entered_flags : (o : Option Entering) (rest : Made) → (with_entered o rest).flags ≡ flags_of o ++ rest.flags
  entered_flags None rest = refl
  entered_flags (Some new) rest = refl

  entered_finished : (o : Option Entering) (rest : Made) → (with_entered o rest).finished ≡ (settled_of o && rest.finished)
  entered_finished None rest = refl
  entered_finished (Some new) rest = refl

  abbrev behind : ℕ → Option Entering
  behind i = entering_behind list corners settings closed m i

  front_points : (i n : ℕ) → (made i (suc n)).points ≡ turn_points list corners settings closed m i ++ (made (suc i) n).points
  unfolding made_from turn_points
  front_points i n =
      ap (λ (l : List PointF64). place_at list i ∷ l) (entered_points (behind i) (made (suc i) n))

  front_flags : (i n : ℕ) → (made i (suc n)).flags ≡ turn_flags list corners settings closed m i ++ (made (suc i) n).flags
  unfolding made_from turn_flags
  front_flags i n =
      ap (λ (l : List ℕ). get_or corners i 0 ∷ l) (entered_flags (behind i) (made (suc i) n))

  front_finished : (i n : ℕ) → (made i (suc n)).finished ≡ (turn_settled list corners settings closed m i && (made (suc i) n).finished)
  unfolding made_from turn_settled
  front_finished i n = entered_finished (behind i) (made (suc i) n)

  no_points : (i : ℕ) → (made i zero).points ≡ []
  unfolding made_from
  no_points i = refl

  no_flags : (i : ℕ) → (made i zero).flags ≡ []
  unfolding made_from
  no_flags i = refl

  nothing_open : (i : ℕ) → (made i zero).finished ≡ true
  unfolding made_from
  nothing_open i = refl

  pub more_points : (i n : ℕ) → (made i (suc n)).points ≡ (made i n).points ++ turn_points list corners settings closed m (i + n)
  more_points =
      back (λ (a b : List PointF64). a ++ b) [] append_assoc (λ a. refl) append-nil (λ i n. (made i n).points)
      (turn_points list corners settings closed m) no_points front_points

  pub more_flags : (i n : ℕ) → (made i (suc n)).flags ≡ (made i n).flags ++ turn_flags list corners settings closed m (i + n)
  more_flags =
      back (λ (a b : List ℕ). a ++ b) [] append_assoc (λ a. refl) append-nil (λ i n. (made i n).flags)
      (turn_flags list corners settings closed m) no_flags front_flags

  pub more_finished : (i n : ℕ) → (made i (suc n)).finished ≡ ((made i n).finished && turn_settled list corners settings closed m (i + n))
  more_finished =
      back (λ (a b : Bool). a && b) true and_assoc (λ a. refl) and_true (λ i n. (made i n).finished)
      (turn_settled list corners settings closed m) nothing_open front_finished

  -- ---- a turn makes two points at most, and a flag for each

  two_at_most : (i : ℕ) → length (turn_points list corners settings closed m i) ≤ 2
  unfolding turn_points
  two_at_most i = go (behind i)
    where
      go : (o : Option Entering) → length (place_at list i ∷ list_of o) ≤ 2
      go None = omega arith
      go (Some new) = omega arith

  pub flag_each : (i : ℕ) → length (turn_flags list corners settings closed m i) ≡ length (turn_points list corners settings closed m i)
  unfolding turn_points turn_flags
  flag_each i = go (behind i)
    where
      go : (o : Option Entering) → length (get_or corners i 0 ∷ flags_of o) ≡ length (place_at list i ∷ list_of o)
      go None = refl
      go (Some new) = refl

  pub twice_at_most : (i n : ℕ) → length (made i n).points ≤ n * 2
  twice_at_most i zero = rw (no_points i) (omega arith)
  twice_at_most i (suc n) =
      rw (front_points i n, length-append (turn_points list corners settings closed m i) (made (suc i) n).points)
      (omega (arith, two_at_most i, twice_at_most (suc i) n))

  pub flag_for_each : (i n : ℕ) → length (made i n).flags ≡ length (made i n).points
  flag_for_each i zero = rw (no_flags i, no_points i)
  flag_for_each i (suc n) =
      rw (
        front_points i n,
        front_flags i n,
        length-append (turn_points list corners settings closed m i) (made (suc i) n).points,
        length-append (turn_flags list corners settings closed m i) (made (suc i) n).flags,
        flag_each i,
        flag_for_each (suc i) n,
      )
