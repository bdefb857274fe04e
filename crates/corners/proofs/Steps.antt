-- From one position to the next: where the next point is equal, the nearest that differ are where they were, and where it is not, the nearest
-- before it is the one that was passed. So a run of equal points turns as one. Assumes nothing.
use Prim.Native.Nat.{ℕ, zero, suc, ◌+◌, ◌-◌, ◌<◌, ◌≤◌}
use mathlib.Core.Bool.{Bool, true, false, not, ◌||◌, true≢false}
use mathlib.Core.List.{List, [], ◌∷◌, ◌++◌, reverse}
use mathlib.Core.Path.{◌≡◌, refl, sym, ap, ap₂, ◌∙◌}
use native.Mathlib.Numerals.{add-one}
use native.Mathlib.Omega.{arith}
use lib.Dec.{eqb, ltb}
use lib.IntN.{ℤ}
use borrow.Author.Tests.{eqb-true, eqb-false, ne_eqb, ltb-true, ltb-false, not-true, not-false}
use Rattle.std.specs.Prelude.{if◌then◌else◌}
use Rattle.laws.proofs.Joined.{both_false}
use Rattle.point.specs.declared.PointI32.{PointI32}
use Rattle.point.specs.Points.{count, seen, point_at, same_point}
use Rattle.point.proofs.Room.{seen_few}
use Rattle.point.proofs.SamePoint.{same_point_lem, test_same, test_other}
use Rattle.corners.specs.declared.Pair.{Pair}
use Rattle.corners.specs.Corners.{first_other, nearest, turns}
use Rattle.corners.specs.inside.Places.{back, ahead, turn_at, Run, To, Turned, FirstOther}
use Rattle.corners.proofs.Others.{found, twin, slice_at, reverse_slice, found_at, not_found}

module _ (list : List ℤ) (closed : Bool) (m : ℕ) (e : m ≡ seen (count list) closed) (i : ℕ) (h : suc i < m) where
  one_passed : back list (suc i) ≡ point_at list i ∷ back list i
  one_passed = reverse_slice list 0 i (omega arith) (omega (arith, seen_few closed m (count list) e))

  one_to_come : ahead list m i ≡ point_at list (suc i) ∷ ahead list m (suc i)
  one_to_come = slice_at list (suc i) m h (seen_few closed m (count list) e)

  module _ (same : point_at list (suc i) ≡ point_at list i) where
    nearest_before : nearest closed (point_at list i) (back list i) (ahead list m i) ≡ nearest closed (point_at list (suc i)) (back list (suc i)) (ahead list m (suc i))
    nearest_before =
        ap (nearest closed (point_at list i) (back list i)) one_to_come
        ∙ sym (twin closed (point_at list i) (point_at list (suc i)) (back list i) (ahead list m (suc i)) same)
        ∙ ap (λ (l : List PointI32). nearest closed (point_at list (suc i)) l (ahead list m (suc i))) (sym one_passed)

    nearest_behind : nearest closed (point_at list i) (ahead list m i) (back list i) ≡ nearest closed (point_at list (suc i)) (ahead list m (suc i)) (back list (suc i))
    nearest_behind =
        ap (λ (l : List PointI32). nearest closed (point_at list i) l (back list i)) one_to_come
        ∙ twin closed (point_at list (suc i)) (point_at list i) (ahead list m (suc i)) (back list i) (sym same)
        ∙ ap (nearest closed (point_at list (suc i)) (ahead list m (suc i))) (sym one_passed)

    same_turn : (pair : Pair) → turn_at list closed m pair i ≡ turn_at list closed m pair (suc i)
    unfolding turn_at
    same_turn pair = λ j. turns pair (nearest_before j) (sym same j) (nearest_behind j)

  -- a run of equal points ends
  other_before : same_point (point_at list i) (point_at list (suc i)) ≡ false →
      nearest closed (point_at list (suc i)) (back list (suc i)) (ahead list m (suc i)) ≡ point_at list i
  unfolding nearest
  other_before u =
      let differs : same_point (point_at list (suc i)) (point_at list i) ≡ false =
      test_other (point_at list (suc i)) (point_at list i) (λ s. true≢false (sym (test_same (point_at list i) (point_at list (suc i)) (sym s)) ∙ u)) in
      ap (λ (l : List PointI32). nearest closed (point_at list (suc i)) l (ahead list m (suc i))) one_passed
      ∙ found (point_at list (suc i)) (point_at list i) (back list i ++ (if closed then reverse (ahead list m (suc i)) else [])) differs

module _ (list : List ℤ) (closed : Bool) (m : ℕ) (e : m ≡ seen (count list) closed) where
  -- all of a run turn as its first does
  same_turns : (pair : Pair) (i n : ℕ) → i + n < m → ((j : ℕ) → i ≤ j → j ≤ i + n → point_at list j ≡ point_at list i) →
      turn_at list closed m pair i ≡ turn_at list closed m pair (i + n)
  same_turns pair i zero h same = let f : i ≡ i + 0 = omega arith in ap (turn_at list closed m pair) f
  same_turns pair i (suc n) h same =
      let f : suc (i + n) ≡ i + suc n = omega arith in
      let beside : point_at list (suc (i + n)) ≡ point_at list (i + n) =
      same (suc (i + n)) (omega arith) (omega arith) ∙ sym (same (i + n) (omega arith) (omega arith)) in
      same_turns pair i n (omega arith) (λ j g k. same j g (omega arith))
      ∙ same_turn list closed m e (i + n) (omega arith) beside pair
      ∙ ap (turn_at list closed m pair) f

  module _ (i k : ℕ) (from p to : PointI32) (run : Run list closed m i k from p) (h : k < m) (l : i ≤ k) (t : To list closed m i (k + 1) p to) where
    differs : (eqb (k + 1) m || not (same_point p to)) ≡ true → k + 1 < m → same_point (point_at list i) (point_at list (k + 1)) ≡ false
    differs f g =
        sym (ap₂ same_point (run.here h) (t.next g)) ∙ not-true (same_point p to) (sym (ap (λ (b : Bool). b || not (same_point p to)) (ne_eqb (k + 1) m (λ z. omega arith))) ∙ f)

    module _ (f : (eqb (k + 1) m || not (same_point p to)) ≡ true) where
      up_to_here : FirstOther list (point_at list i) (suc i) m (k + 1)
      up_to_here =
          record {
            since = λ _. omega arith;
            up_to = omega arith;
            alike = λ j g u. run.alike h j (omega arith) (omega arith);
            other = λ g. differs f g;
          }

      -- what it turns to is the nearest behind it that differs
      to_is : to ≡ nearest closed (point_at list i) (ahead list m i) (back list i)
      unfolding nearest
      to_is = go (eqb (k + 1) m) refl
        where
          go : (b : Bool) → eqb (k + 1) m ≡ b → to ≡ nearest closed (point_at list i) (ahead list m i) (back list i)
          go true z =
              t.around (omega (arith, eqb-true (k + 1) m z))
              ∙ ap (λ (q : PointI32). first_other q (if closed then reverse (back list i) else [])) (run.here h)
              ∙ sym (not_found list (point_at list i) m (seen_few closed m (count list) e) (if closed then reverse (back list i) else []) (suc i) (k + 1) (omega arith) up_to_here (omega (arith, eqb-true (k + 1) m z)))
          go false z =
              let g : k + 1 < m = omega (arith, eqb-false (k + 1) m z) in
              t.next g
              ∙ sym (found_at list (point_at list i) m (seen_few closed m (count list) e) (if closed then reverse (back list i) else []) (suc i) (k + 1) (omega arith) up_to_here g)

      -- it ends: all of it have turned, and the next begins
      pub all_turned : (pair : Pair) (r : Bool) → r ≡ turns pair from p to → Turned list closed m pair i (k + 1) r
      unfolding turn_at
      all_turned pair r u =
          record {
            each = λ j g v.
                let n : i + (j - i) ≡ j = omega arith in
                u
                ∙ (λ x. turns pair (run.behind h x) (run.here h x) (to_is x))
                ∙ same_turns pair i (j - i) (omega arith) (λ x y z. run.alike h x y (omega arith))
                ∙ ap (turn_at list closed m pair) n;
          }

      pub next_run : Run list closed m (k + 1) (k + 1) p to
      next_run =
          record {
            near = t.near;
            near_from = run.near;
            here = λ g. t.next g;
            behind = λ g. run.here h ∙ sym (run.alike h k l (omega arith)) ∙ sym (passed_one g);
            alike = λ g j u v. let n : j ≡ k + 1 = omega arith in ap (point_at list) n;
          }
        where
          passed_one : k + 1 < m → nearest closed (point_at list (k + 1)) (back list (k + 1)) (ahead list m (k + 1)) ≡ point_at list k
          passed_one g =
              rw (add-one k)
              (other_before list closed m e k (omega arith)
              (ap (λ (q : PointI32). same_point q (point_at list (suc k))) (run.alike h k l (omega arith)) ∙ rw (← add-one k) (differs f g)))

    -- it goes on
    module _ (f : (eqb (k + 1) m || not (same_point p to)) ≡ false) where
      pub longer_run : Run list closed m i (k + 1) from p
      longer_run =
          record {
            near = run.near;
            near_from = run.near_from;
            here = λ g. run.here h;
            behind = λ g. run.behind h;
            alike = λ g j u v. go g j u v (ltb k j) refl;
          }
        where
          go : k + 1 < m → (j : ℕ) → i ≤ j → j ≤ k + 1 → (b : Bool) → ltb k j ≡ b → point_at list j ≡ point_at list i
          go g j u v true z =
              let n : j ≡ k + 1 = omega (arith, ltb-true k j z) in
              ap (point_at list) n
              ∙ sym (t.next g)
              ∙ sym (same_point_lem p to (not-false (same_point p to) (both_false (eqb (k + 1) m) (not (same_point p to)) f).1))
              ∙ run.here h
          go g j u v false z = run.alike h j u (omega (arith, ltb-false k j z))

      pub not_all : m ≤ k + 1 → m ≤ i
      not_all g = absurd (eqb-false (k + 1) m (both_false (eqb (k + 1) m) (not (same_point p to)) f).0 (omega arith))
