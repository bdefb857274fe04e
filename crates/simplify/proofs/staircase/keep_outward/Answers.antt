-- The first point is written, then each that stays, and the last.
use Prim.Native.Nat.{ℕ, ◌+◌, ◌-◌, ◌*◌, ◌<◌, ◌≤◌}
use mathlib.Core.Bool.{Bool, true, false}
use mathlib.Core.List.{List, [], ◌∷◌}
use mathlib.Core.Path.{◌≡◌, sym, ap, subst, ◌∙◌}
use native.Mathlib.Omega.{arith}
use lib.IntN.{ℤ}
use lib.ListN.{length, drop, set, get_or, drop_of_length-le}
use borrow.Author.Rules.{rules}
use Rattle.point.specs.Points.{points, count, point_at}
use Rattle.point.specs.declared.PointI32.{PointI32}
use Rattle.point.specs.inside.Written.{Handed, Left}
use Rattle.point.proofs.Flat.{length_points, points_at}
use Rattle.point.proofs.Written.{begun, passed, taken, ended}
use Rattle.point.proofs.Near.{limit_x, limit_y}
use Rattle.simplify.specs.Staircase.{stays, staircase_from, remove_staircase}
use Rattle.simplify.proofs.Outward.{staircase_shorter, staircase_none, staircase_first, outward, inward, last_stays}
use Rattle.simplify.proofs.staircase.keep_outward.Invariants.{rest}
use Rattle.simplify.proofs.staircase.keep_outward.Goals as goal
use Rattle.simplify.proofs.staircase.keep_outward.Goals.{then-outside, else-outside}

module _ (list : List ℤ) (clockwise : Bool) where
  abbrev whole : List PointI32
  whole = remove_staircase clockwise (points list)

  fits : (old : List ℤ) → length list ≤ length old → length whole * 2 ≤ length old
  fits old h = omega (arith, staircase_shorter clockwise (points list), length_points list)

  nothing : (old : List ℤ) → count list ≡ 0 → length list ≤ length old → Handed whole old 0 old
  nothing old h k =
      let none : whole ≡ [] = staircase_none clockwise (points list) (length_points list ∙ h) in
      rw none (ended (begun [] old (omega arith)))

  past_end : (i : ℕ) → count list ≤ i → rest list clockwise i ≡ []
  unfolding rest staircase_from
  past_end i h =
      let k : length (points list) ≤ i = rw (length_points list) h in
      rw (drop_of_length-le (points list) k)

  -- the first point stays
  module _ (first : PointI32) (e : first ≡ point_at list 0) (some : count list ≡ 0 → ⊥) where
    opened : whole ≡ first ∷ rest list clockwise 1
    unfolding rest
    opened =
        let h : 0 < count list = omega arith in
        staircase_first clockwise (points list) first (rw (length_points list) h) ∙ rw (points_at list 0 first h, e)

    module _ (old now : List ℤ) (put : now ≡ set (set old 0 first.x) 1 first.y) (h : length list ≤ length old) where
      started : Left whole old 1 (rest list clockwise 1) now
      started = rw put (taken (passed (begun whole old (fits old h)) opened))

      one_only : count list ≡ 1 → Handed whole old 1 now
      one_only one = ended (passed started (past_end 1 (omega arith)))

  -- a point is the one before those that come next
  moved : (p : PointI32) (i : ℕ) → p ≡ point_at list i → p ≡ point_at list (i + 1 - 1)
  moved p i e = let f : i ≡ i + 1 - 1 = omega arith in e ∙ ap (point_at list) f

  module _ (old : List ℤ) (kept i : ℕ) (out : List ℤ) (l : Left whole old kept (rest list clockwise i) out) where
    -- a turn
    module _ (before p q : PointI32) (r : Bool) (says : r ≡ stays clockwise before p q) (eb : before ≡ point_at list (i - 1)) (ep : p ≡ point_at list i)
        (eq : q ≡ point_at list (i + 1)) (h : i < count list - 1) where
      here : get_or (points list) i p ≡ p
      here = points_at list i p (omega arith) ∙ sym ep

      next : get_or (points list) (i + 1) p ≡ q
      next = points_at list (i + 1) p (omega arith) ∙ sym eq

      more : i + 1 < length (points list)
      more = rw (length_points list) (omega arith)

      judged : (t : Bool) → r ≡ t → stays clockwise (point_at list (i - 1)) (get_or (points list) i p) (get_or (points list) (i + 1) p) ≡ t
      judged t e = rw (here, next) (subst (λ b. stays clockwise b p q ≡ t) eb (sym says ∙ e))

      after : staircase_from clockwise (get_or (points list) i p) (drop (i + 1) (points list)) ≡ rest list clockwise (i + 1)
      unfolding rest
      after = ap (λ (b : PointI32). staircase_from clockwise b (drop (i + 1) (points list))) (here ∙ moved p i ep)

      is_outward : r ≡ true → rest list clockwise i ≡ p ∷ rest list clockwise (i + 1)
      unfolding rest
      is_outward t =
          outward clockwise (point_at list (i - 1)) (points list) i p more (judged true t)
          ∙ ap (λ (ps : List PointI32). get_or (points list) i p ∷ ps) after
          ∙ ap (λ (b : PointI32). b ∷ rest list clockwise (i + 1)) here

      is_inward : r ≡ false → rest list clockwise i ≡ rest list clockwise (i + 1)
      unfolding rest
      is_inward t = inward clockwise (point_at list (i - 1)) (points list) i p more (judged false t) ∙ after

      kept_one : r ≡ true → (now : List ℤ) → now ≡ set (set out (kept * 2) p.x) (kept * 2 + 1) p.y →
          Left whole old (kept + 1) (rest list clockwise (i + 1)) now
      kept_one t now g = rw g (taken (passed l (is_outward t)))

      dropped_one : r ≡ false → Left whole old kept (rest list clockwise (i + 1)) out
      dropped_one t = passed l (is_inward t)

    -- the end
    all_written : (last : PointI32) → last ≡ point_at list (count list - 1) → i ≡ count list - 1 → 1 ≤ i → (now : List ℤ) →
        now ≡ set (set out (kept * 2) last.x) (kept * 2 + 1) last.y → Handed whole old (kept + 1) now
    unfolding rest
    all_written last e k some now g =
        let f : last ≡ point_at list i = e ∙ ap (point_at list) (sym k) in
        let h : i < length (points list) = rw (length_points list) (omega arith) in
        let m : length (points list) ≤ i + 1 = rw (length_points list) (omega arith) in
        rw g
        (ended
        (taken
        (passed l
        (last_stays clockwise (point_at list (i - 1)) (points list) i last h m ∙ ap (λ (p : PointI32). p ∷ []) (points_at list i last (omega arith) ∙ sym f)))))

pub returns-then-n-eq0 : goal.returns-then-n-eq0
returns-then-n-eq0 c = search (nothing, rules)

pub returns-then-n-eq1 : goal.returns-then-n-eq1
returns-then-n-eq1 c = search (one_only, rules)

pub loop-i-init : goal.loop-i-init
loop-i-init c = (search rules, search (started, rules))

pub stays-outside-requires : goal.stays-outside-requires
stays-outside-requires c = search (limit_x, limit_y, rules)

pub loop-i-preserved : goal.loop-i-preserved
loop-i-preserved c = (
  search (moved, rules),
  elim c.if-outside.branch [
    | then-outside w ↦ rw (w.out-is, w.kept-is) (search (kept_one, rules))
    | else-outside w ↦ rw (w.out-is, w.kept-is) (search (dropped_one, rules))
  ],
)

pub returns : goal.returns
returns c =
    all_written _ _ _ _ _ _ c.loop-i.invariant.1 _ c.point_at-2.ensures (omega arith) (omega arith) _ c.put-2.ensures
