-- The first point is written, then one wherever it would cost too much to go on, and the last.
use Prim.Native.Nat.{ℕ, ◌+◌, ◌-◌, ◌*◌, ◌<◌, ◌≤◌}
use mathlib.Core.Bool.{Bool, true, false}
use mathlib.Core.List.{List, [], ◌∷◌}
use mathlib.Core.Path.{◌≡◌, sym, ap, ◌∙◌}
use native.Mathlib.Omega.{arith}
use lib.IntN.{ℤ, pos}
use lib.ListN.{length, set}
use borrow.Author.Rules.{rules}
use Rattle.point.specs.Points.{points, count, point_at}
use Rattle.point.specs.declared.PointI32.{PointI32}
use Rattle.point.specs.inside.Written.{Handed, Left}
use Rattle.point.proofs.Flat.{length_points, points_at}
use Rattle.point.proofs.Written.{begun, passed, taken, ended}
use Rattle.simplify.specs.Penalties.{at, too_costly, limit_penalties}
use Rattle.simplify.proofs.Costly.{costly_from, limit_many, costs_much, costs_less, costs_ended}
use Rattle.simplify.proofs.penalties.keep_many.Goals as goal
use Rattle.simplify.proofs.penalties.keep_many.Goals.{then-past_delta, else-past_delta}

module _ (list : List ℤ) where
  abbrev whole : List PointI32
  whole = limit_penalties (points list)

  placed : (p : PointI32) (k : ℕ) → p ≡ point_at list k → k < count list → at (points list) k ≡ p
  placed p k e h = points_at list k (record { x = pos 0; y = pos 0 }) h ∙ sym e

  -- the first point is kept
  started : (first : PointI32) (old now : List ℤ) → first ≡ point_at list 0 → now ≡ set (set old 0 first.x) 1 first.y → 2 < count list →
      length whole * 2 ≤ length old → Left whole old 1 (costly_from (points list) 2 0) now
  started first old now e put many fits =
      let h : 2 < length (points list) = rw (length_points list) many in
      rw put
      (taken (passed (begun whole old fits) (limit_many (points list) h ∙ ap (λ (p : PointI32). p ∷ costly_from (points list) 2 0) (placed first 0 e (omega arith)))))

  module _ (old : List ℤ) (kept i last : ℕ) (out : List ℤ) (l : Left whole old kept (costly_from (points list) i last) out) where
    -- a turn
    module _ (costly : Bool) (e : costly ≡ too_costly (points list) last i) (h : i < count list) where
      here : i < length (points list)
      here = rw (length_points list) h

      dropped_one : costly ≡ false → Left whole old kept (costly_from (points list) (i + 1) last) out
      dropped_one t = passed l (costs_less (points list) i last here (sym e ∙ t))

      kept_one : costly ≡ true → (p : PointI32) → p ≡ point_at list (i - 1) → (now : List ℤ) → now ≡ set (set out (kept * 2) p.x) (kept * 2 + 1) p.y →
          Left whole old (kept + 1) (costly_from (points list) (i + 1) (i - 1)) now
      kept_one t p f now g =
          rw g
          (taken
          (passed l
          (costs_much (points list) i last here (sym e ∙ t) ∙ ap (λ (q : PointI32). q ∷ costly_from (points list) (i + 1) (i - 1)) (placed p (i - 1) f (omega arith)))))

    -- the end
    all_written : (p : PointI32) → p ≡ point_at list (count list - 1) → count list ≤ i → 2 < count list →
        (now : List ℤ) → now ≡ set (set out (kept * 2) p.x) (kept * 2 + 1) p.y → Handed whole old (kept + 1) now
    all_written p e h many now g =
        rw g
        (ended
        (taken
        (passed l
        (costs_ended (points list) i last (rw (length_points list) h)
        ∙ ap (λ (n : ℕ). at (points list) (n - 1) ∷ []) (length_points list)
        ∙ ap (λ (q : PointI32). q ∷ []) (placed p (count list - 1) e (omega arith))))))

pub loop-i-init : goal.loop-i-init
loop-i-init c = (search rules, search (started, rules))

pub loop-i-preserved : goal.loop-i-preserved
loop-i-preserved c =
    elim c.if-past_delta.branch [
      | then-past_delta w ↦ (omega arith, rw (w.out-is, w.kept-is, w.last-is) (search (kept_one, rules)))
      | else-past_delta w ↦ (omega arith, rw (w.out-is, w.kept-is, w.last-is) (search (dropped_one, rules)))
    ]

pub returns : goal.returns
returns c = search (all_written, rules)
