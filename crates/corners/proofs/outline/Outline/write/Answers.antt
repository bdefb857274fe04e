-- A run that ends is written; one that does not goes on.
use Prim.Native.Nat.{ℕ, zero, suc, ◌+◌, ◌-◌, ◌<◌, ◌≤◌}
use mathlib.Core.Bool.{Bool, true, false, not, ◌&&◌, ◌||◌}
use mathlib.Core.List.{List, [], ◌∷◌, ◌++◌}
use mathlib.Core.Path.{◌≡◌, refl, sym, ap, subst, ◌∙◌}
use native.Mathlib.Omega.{arith}
use lib.Dec.{eqb}
use lib.IntN.{ℤ}
use lib.ListN.{length, take, get_or, set}
use lib.Seq.{sets, take-suc, take_all, length-take-le}
use borrow.Author.Rules.{rules}
use borrow.Author.Tests.{eq-eqb, ne_eqb}
use Rattle.laws.specs.Lists.{over}
use Rattle.laws.proofs.Lists.{over_nil, over_push}
use Rattle.point.specs.declared.PointI32.{PointI32}
use Rattle.point.specs.Limits.{bad_points}
use Rattle.point.specs.Points.{count, seen, point_at, same_point}
use Rattle.point.specs.inside.Near.{Near}
use Rattle.corners.specs.declared.Pair.{Pair}
use Rattle.corners.specs.Corners.{nearest, turns, is_corner, flag, corners_of}
use Rattle.corners.specs.Neighbours.{is_end_at}
use Rattle.corners.specs.inside.Places.{back, ahead, turn_at, Run, To, Turned, same_flags}
use Rattle.corners.proofs.Flagged.{one_each, corner_at, end_at}
use Rattle.corners.proofs.Others.{near_at}
use Rattle.corners.proofs.Steps.{all_turned, next_run, longer_run, not_all}
use Rattle.corners.proofs.outline.Outline.write.Goals as goal
use Rattle.corners.proofs.outline.Outline.write.Goals.{then-next-self, then-next-self-via-then-next-self, then-next-self-via-else-next-self+then-ne, else-next-self+else-ne}

-- ---- before the first turn

none : (list : List ℤ) (pair : Pair) (closed : Bool) (old : List ℕ) → old ≡ over (take 0 (corners_of list pair closed)) old
none list pair closed old = sym (over_nil old)

at_first : (list : List ℤ) → bad_points list ≡ false → (closed : Bool) (m : ℕ) (from p : PointI32) → p ≡ point_at list 0 → Near from →
    from ≡ nearest closed p (back list 0) (ahead list m 0) → Run list closed m 0 0 from p
at_first list good closed m from p ep near ef =
    record {
      near = near_at list good p 0 ep;
      near_from = near;
      here = λ _. ep;
      behind = λ _. ef ∙ ap (λ (q : PointI32). nearest closed q (back list 0) (ahead list m 0)) ep;
      alike = λ _ j h k. let n : j ≡ 0 = omega arith in ap (point_at list) n;
    }

-- ---- a run that has turned is written

module _ (list : List ℤ) (pair : Pair) (closed : Bool) (m : ℕ) (e : m ≡ seen (count list) closed) (old : List ℕ) (room : m ≤ length old) where
  by_the_rule : (i : ℕ) → i < m → ((not closed && is_end_at m i) || turn_at list closed m pair i) ≡ is_corner pair closed (back list i) (point_at list i) (ahead list m i)
  unfolding is_corner turn_at
  by_the_rule i h =
      ap (λ (t : Bool). (not closed && t) || turns pair (nearest closed (point_at list i) (back list i) (ahead list m i)) (point_at list i) (nearest closed (point_at list i) (ahead list m i) (back list i)))
      (sym (end_at list pair closed m e i h))

  one_more : (flags : List ℕ) (i : ℕ) → i < m → flags ≡ over (take i (corners_of list pair closed)) old → (turned : Bool) → turned ≡ turn_at list closed m pair i →
      set flags i (flag ((not closed && is_end_at m i) || turned)) ≡ over (take (suc i) (corners_of list pair closed)) old
  one_more flags i h inv turned says =
      let v = flag ((not closed && is_end_at m i) || turned) in
      let long : i < length (corners_of list pair closed) = rw (one_each list pair closed m e) h in
      let f : v ≡ get_or (corners_of list pair closed) i 0 =
      ap (λ (t : Bool). flag ((not closed && is_end_at m i) || t)) says ∙ ap flag (by_the_rule i h) ∙ sym (corner_at list pair closed m e i h) in
      ap (λ (l : List ℕ). set l i v) inv
      ∙ over_push (take i (corners_of list pair closed)) old i v (length-take-le i (corners_of list pair closed) (omega (arith, long))) (omega arith)
      ∙ ap (λ (x : ℕ). over (take i (corners_of list pair closed) ++ (x ∷ [])) old) f
      ∙ ap (λ (l : List ℕ). over l old) (sym (take-suc (corners_of list pair closed) i 0 long))

  some_more : (turned : Bool) (n i : ℕ) (flags : List ℕ) → i + n ≤ m → Turned list closed m pair i (i + n) turned → flags ≡ over (take i (corners_of list pair closed)) old →
      sets flags i (same_flags closed m turned i n) ≡ over (take (i + n) (corners_of list pair closed)) old
  unfolding same_flags
  some_more turned zero i flags h t inv =
      let f : i ≡ i + 0 = omega arith in
      inv ∙ ap (λ (j : ℕ). over (take j (corners_of list pair closed)) old) f
  some_more turned (suc n) i flags h t inv =
      let f : suc i + n ≡ i + suc n = omega arith in
      some_more turned n (suc i) (set flags i (flag ((not closed && is_end_at m i) || turned))) (omega arith)
      (record { each = λ j g k. t.each j (omega arith) (omega arith) })
      (one_more flags i (omega arith) inv turned (t.each i (omega arith) (omega arith)))
      ∙ ap (λ (j : ℕ). over (take j (corners_of list pair closed)) old) f

  -- a run that ends
  module _ (flags : List ℕ) (i k : ℕ) (from p to : PointI32) (run : Run list closed m i k from p) (h : k < m) (l : i ≤ k) (t : To list closed m i (k + 1) p to)
      (f : (eqb (k + 1) m || not (same_point p to)) ≡ true) where
    flushed : flags ≡ over (take i (corners_of list pair closed)) old → (turned : Bool) → turned ≡ turns pair from p to → (new : List ℕ) →
        new ≡ sets flags i (same_flags closed m turned i (k + 1 - i)) → new ≡ over (take (k + 1) (corners_of list pair closed)) old
    flushed inv turned u new w =
        let n : i + (k + 1 - i) ≡ k + 1 = omega arith in
        w
        ∙ some_more turned (k + 1 - i) i flags (omega arith) (subst (λ (j : ℕ). Turned list closed m pair i j turned) (sym n) (all_turned list closed m e i k from p to run h l t f pair turned u)) inv
        ∙ ap (λ (j : ℕ). over (take j (corners_of list pair closed)) old) n

  all : (flags : List ℕ) (i k : ℕ) → flags ≡ over (take i (corners_of list pair closed)) old → m ≤ k → (m ≤ k → m ≤ i) → flags ≡ over (corners_of list pair closed) old
  all flags i k inv h done =
      inv ∙ ap (λ (l : List ℕ). over l old) (take_all i (corners_of list pair closed) (rw (one_each list pair closed m e) (done h)))

-- whether a run of p ends before k: there are no more points, or the next differs
module _ (k m : ℕ) (p to : PointI32) where
  at_end : k ≡ m → (eqb k m || not (same_point p to)) ≡ true
  at_end h = rw (eq-eqb k m h)

  module _ (differs : Bool) (says : differs ≡ not (same_point p to)) where
    at_other : differs ≡ true → (eqb k m || not (same_point p to)) ≡ true
    at_other f = either (eqb k m) (not (same_point p to)) (sym says ∙ f)
      where
        either : (a b : Bool) → b ≡ true → (a || b) ≡ true
        either true b g = refl
        either false b g = g

    within : (k ≡ m → ⊥) → differs ≡ false → (eqb k m || not (same_point p to)) ≡ false
    within h f = rw (ne_eqb k m h) (sym says ∙ f)

pub loop-k-init : goal.loop-k-init
loop-k-init c = (omega arith, λ h. h, search (none, rules), search (at_first, rules))

pub loop-k-preserved : goal.loop-k-preserved
loop-k-preserved c =
    let inv = c.loop-k.invariant in
    let test = c.loop-k-test.true in
    let to = c.behind_run-to.ensures in
    elim c.if-next-self.branch [
      | then-next-self w ↦
          let ends : (eqb (c.loop-k.k + 1) c.args.self.now.m || not (same_point c.loop-k.p c.behind_run-to.result)) ≡ true =
          elim w.then-next-self.branch [
            | then-next-self-via-then-next-self v ↦ at_end (c.loop-k.k + 1) c.args.self.now.m c.loop-k.p c.behind_run-to.result v.if-next-self.true
            | then-next-self-via-else-next-self+then-ne v ↦ at_other (c.loop-k.k + 1) c.args.self.now.m c.loop-k.p c.behind_run-to.result v.ne.result (search rules) v.if-ne.true
          ] in
          rw (w.flags-is, w.p-is, w.from-is, w.i-is) (
            omega arith,
            λ h. h,
            flushed _ _ _ _ c.args.self.now.flagged _ c.requires _ _ _ _ _ _ inv.3 test inv.0 to ends inv.2 _ w.turns.ensures _ w.fill.ensures,
            next_run _ _ _ c.args.self.now.flagged _ _ _ _ _ inv.3 test inv.0 to ends,
          )
      | else-next-self+else-ne w ↦
          let on : (eqb (c.loop-k.k + 1) c.args.self.now.m || not (same_point c.loop-k.p c.behind_run-to.result)) ≡ false =
          within (c.loop-k.k + 1) c.args.self.now.m c.loop-k.p c.behind_run-to.result w.ne.result (search rules) w.if-next-self.false w.if-ne.false in
          rw (w.flags-is, w.p-is, w.from-is, w.i-is) (
            omega arith,
            not_all _ _ _ c.args.self.now.flagged _ _ _ _ _ inv.3 test inv.0 to on,
            inv.2,
            longer_run _ _ _ c.args.self.now.flagged _ _ _ _ _ inv.3 test inv.0 to on,
          )
    ]

pub returns : goal.returns
returns c = all _ _ _ _ c.args.self.now.flagged _ c.requires _ _ _ c.loop-k.invariant.2 c.loop-k-test.false c.loop-k.invariant.1
