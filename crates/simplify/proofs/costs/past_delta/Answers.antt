-- A turn works out the penalty of one position.
use Prim.Native.Nat.{ℕ, suc, ◌+◌, ◌-◌, ◌<◌, ◌≤◌}
use mathlib.Core.Bool.{Bool, true, false}
use mathlib.Core.List.{List}
use mathlib.Core.Path.{◌≡◌, refl, sym, ap, ◌∙◌}
use native.Mathlib.Numerals.{add-one}
use native.Mathlib.Omega.{arith}
use lib.IntN.{ℤ, pos}
use lib.Ieee.{Float, binary64, of_bits, of_int, le, lt}
use borrow.Author.Rules.{rules}
use Rattle.laws.proofs.Finite.{of_int_nonneg}
use Rattle.laws.proofs.Order.{at_least_zero}
use Rattle.point.specs.Points.{points, count, point_at}
use Rattle.point.specs.declared.PointI32.{PointI32}
use Rattle.point.proofs.Flat.{points_at}
use Rattle.point.proofs.Near.{limit_x, limit_y}
use Rattle.simplify.specs.Penalties.{penalty, at, past_delta, too_costly}
use Rattle.simplify.specs.inside.Costs.{reaches}
use Rattle.simplify.proofs.Reached.{reached_by_one, hit, passed, none_left}
use Rattle.simplify.proofs.costs.past_delta.Invariants.{cost_of, rest}
use Rattle.simplify.proofs.costs.past_delta.Goals as goal

below_one : lt (of_int binary64 (pos 0)) (of_int binary64 (pos 1)) ≡ true
unfolding of_int lt
below_one = refl

-- the code's test, by the bits of 1.0
abbrev tested : Float → Bool
tested cost = le (of_bits binary64 0x3ff0000000000000) cost

tested_is : (cost : Float) → tested cost ≡ reaches cost
unfolding reaches of_bits of_int
tested_is cost = refl

module _ (list : List ℤ) (from to : ℕ) where
  started : rest list from to (from + 1) ≡ too_costly (points list) from to
  unfolding rest too_costly past_delta reaches
  started =
      rw add-one
      (sym (reached_by_one (cost_of list from to) (to - suc from) (suc from) (of_int binary64 (pos 0)) (at_least_zero (of_int_nonneg (pos 0) tt)) below_one))

  -- a point of the list
  placed : (p : PointI32) (k : ℕ) → p ≡ point_at list k → k < count list → p ≡ at (points list) k
  placed p k e h = e ∙ sym (points_at list k (record { x = pos 0; y = pos 0 }) h)

  -- a turn: the penalty of the point at k is worked out
  worked_out : (k : ℕ) (cost : Float) (a b c : PointI32) → cost ≡ penalty a b c → a ≡ point_at list from → b ≡ point_at list k → c ≡ point_at list to →
      from < k → k < to → to < count list → cost ≡ cost_of list from to k
  worked_out k cost a b c e ea eb ec f h g =
      e
      ∙ ap (λ (p : PointI32). penalty p b c) (placed a from ea (omega arith))
      ∙ ap (λ (p : PointI32). penalty (at (points list) from) p c) (placed b k eb (omega arith))
      ∙ ap (λ (p : PointI32). penalty (at (points list) from) (at (points list) k) p) (placed c to ec g)

  module _ (k : ℕ) (inv : rest list from to k ≡ too_costly (points list) from to) where
    module _ (cost : Float) (is : cost ≡ cost_of list from to k) (h : k < to) where
      costs : tested cost ≡ true → true ≡ too_costly (points list) from to
      unfolding rest
      costs e = sym (hit (cost_of list from to) to k h (ap reaches (sym is) ∙ sym (tested_is cost) ∙ e)) ∙ inv

      goes_on : tested cost ≡ false → rest list from to (k + 1) ≡ too_costly (points list) from to
      unfolding rest
      goes_on e = sym (passed (cost_of list from to) to k h (ap reaches (sym is) ∙ sym (tested_is cost) ∙ e)) ∙ inv

    ended : to ≤ k → false ≡ too_costly (points list) from to
    unfolding rest
    ended h = sym (none_left (cost_of list from to) to k h) ∙ inv

pub side-l3-requires : goal.side-l3-requires
side-l3-requires c = search (limit_x, limit_y, rules)

pub loop-k-init : goal.loop-k-init
loop-k-init c = started _ _ _

pub evaluate_penalty-requires : goal.evaluate_penalty-requires
evaluate_penalty-requires c = search (limit_x, limit_y, rules)

pub returns : goal.returns
returns c = search (ended, rules)

pub returns-then-evaluate_penalty : goal.returns-then-evaluate_penalty
returns-then-evaluate_penalty c =
    let is = worked_out _ _ _ c.loop-k.k _ _ _ _ c.evaluate_penalty.ensures c.point_at-a.ensures c.point_at.ensures c.point_at-c.ensures (omega arith) (omega arith) (omega arith) in
    costs _ _ _ c.loop-k.k c.loop-k.invariant _ is c.loop-k-test.true c.if-evaluate_penalty.true

pub loop-k-preserved : goal.loop-k-preserved
loop-k-preserved c =
    let is = worked_out _ _ _ c.loop-k.k _ _ _ _ c.evaluate_penalty.ensures c.point_at-a.ensures c.point_at.ensures c.point_at-c.ensures (omega arith) (omega arith) (omega arith) in
    goes_on _ _ _ c.loop-k.k c.loop-k.invariant _ is c.loop-k-test.true c.if-evaluate_penalty.false
