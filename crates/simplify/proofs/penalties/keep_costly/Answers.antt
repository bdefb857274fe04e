-- Up to two points go by their number.
use Prim.Native.Nat.{◌*◌, ◌<◌, ◌≤◌}
use mathlib.Core.List.{List, [], ◌∷◌}
use mathlib.Core.Path.{◌≡◌, sym, ap, ◌∙◌}
use native.Mathlib.Omega.{arith}
use lib.IntN.{ℤ, pos}
use lib.ListN.{length, set}
use borrow.Author.Rules.{rules}
use Rattle.point.specs.Points.{points, count, point_at}
use Rattle.point.specs.declared.PointI32.{PointI32}
use Rattle.point.specs.inside.Written.{Handed}
use Rattle.point.proofs.Flat.{length_points, points_at}
use Rattle.point.proofs.Written.{begun, taken, ended, put_twice}
use Rattle.simplify.specs.Penalties.{at, limit_penalties}
use Rattle.simplify.proofs.Costly.{limit_none, limit_one, limit_two}
use Rattle.simplify.proofs.penalties.keep_costly.Goals as goal

module _ (list : List ℤ) where
  abbrev whole : List PointI32
  whole = limit_penalties (points list)

  nothing : (old : List ℤ) → count list ≡ 0 → Handed whole old 0 old
  nothing old h = rw (limit_none (points list) (length_points list ∙ h)) (ended (begun [] old (omega arith)))

  module _ (old : List ℤ) (fits : length whole * 2 ≤ length old) (first : PointI32) (e : first ≡ point_at list 0) (once : List ℤ)
      (put : once ≡ set (set old 0 first.x) 1 first.y) where
    at_first : 0 < count list → at (points list) 0 ≡ first
    at_first some = points_at list 0 (record { x = pos 0; y = pos 0 }) some ∙ sym e

    -- one is kept twice
    one_twice : count list ≡ 1 → (last : List ℤ) → last ≡ set (set once 2 first.x) 3 first.y → Handed whole old 2 last
    one_twice one last g =
        let twice : whole ≡ first ∷ first ∷ [] = limit_one (points list) (length_points list ∙ one) ∙ ap (λ (p : PointI32). p ∷ p ∷ []) (at_first (omega arith)) in
        let h : 4 ≤ length old = rw twice at fits in
        rw twice (put_twice first old once last h put g)

    -- of two the first is kept
    two_once : count list ≡ 2 → Handed whole old 1 once
    two_once two =
        let alone : whole ≡ first ∷ [] = limit_two (points list) (length_points list ∙ two) ∙ ap (λ (p : PointI32). p ∷ []) (at_first (omega arith)) in
        let h : 2 ≤ length old = rw alone at fits in
        rw (alone, put) (ended (taken (begun (first ∷ []) old h)))

pub returns-in-0 : goal.returns-in-0
returns-in-0 c = search (nothing, rules)

pub returns-in-1 : goal.returns-in-1
returns-in-1 c = search (one_twice, rules)

pub returns-in-2 : goal.returns-in-2
returns-in-2 c = search (two_once, rules)
