-- The next point, or past the last one the first that differs.
use Prim.Native.Nat.{ℕ, ◌<◌, ◌≤◌}
use mathlib.Core.Bool.{Bool, true, false, not}
use mathlib.Core.List.{List, [], ◌++◌, append-nil, reverse, reverse-reverse}
use mathlib.Core.Path.{◌≡◌, refl, sym, ap, subst, ◌∙◌}
use native.Mathlib.Omega.{arith}
use lib.Dec.{ltb}
use lib.IntN.{ℤ}
use lib.ListN.{take}
use lib.Seq.{slice}
use borrow.Author.Rules.{rules}
use borrow.Author.Tests.{ltb-true, ltb-false, not-true, not-false}
use Rattle.std.specs.Prelude.{if◌then◌else◌}
use Rattle.point.specs.declared.PointI32.{PointI32}
use Rattle.point.specs.Limits.{bad_points}
use Rattle.point.specs.Points.{count, seen, points, point_at}
use Rattle.point.proofs.Room.{seen_few}
use Rattle.corners.specs.Corners.{first_other}
use Rattle.corners.specs.inside.Places.{back, To, FirstOther}
use Rattle.corners.proofs.Others.{near_at, found_at, not_found}
use Rattle.corners.proofs.outline.Outline.behind_run.Goals as goal

-- past the last from the first on
from_the_first : (list : List ℤ) (i r : ℕ) → i ≤ count list → FirstOther list (point_at list i) 0 i r → first_other (point_at list i) (reverse (back list i)) ≡ point_at list r
unfolding first_other
from_the_first list i r fits w =
    ap (first_other (point_at list i)) (reverse-reverse (take i (points list)) ∙ sym (append-nil (take i (points list)))) ∙ go (ltb r i) refl
  where
    go : (b : Bool) → ltb r i ≡ b → first_other (point_at list i) (slice 0 i (points list) ++ []) ≡ point_at list r
    go true t = found_at list (point_at list i) i fits [] 0 r (omega arith) w (ltb-true r i t)
    go false t =
        let n : i ≡ r = omega (arith, ltb-false r i t, w.up_to) in
        not_found list (point_at list i) i fits [] 0 r (omega arith) w (omega (arith, ltb-false r i t)) ∙ ap (point_at list) n

module _ (list : List ℤ) (good : bad_points list ≡ false) (closed : Bool) (m i k : ℕ) (p : PointI32) (ep : p ≡ point_at list i) where
  next : k < m → (r : PointI32) → r ≡ point_at list k → To list closed m i k p r
  next h r e = record { near = near_at list good r k e; next = λ _. e; around = λ g. absurd (omega arith) }

  module _ (h : m ≤ k) where
    nothing : not closed ≡ true → To list closed m i k p p
    unfolding first_other
    nothing c =
        record {
          near = near_at list good p i ep;
          next = λ g. absurd (omega arith);
          around = λ _. ap (λ (b : Bool). first_other p (if b then reverse (back list i) else [])) (sym (not-true closed c));
        }

    around : not closed ≡ false → m ≡ seen (count list) closed → i < m → (r : ℕ) → FirstOther list p 0 i r → (q : PointI32) → q ≡ point_at list r → To list closed m i k p q
    around c e l r w q eq =
        record {
          near = near_at list good q r eq;
          next = λ g. absurd (omega arith);
          around = λ _.
              eq
              ∙ sym (from_the_first list i r (omega (arith, seen_few closed m (count list) e)) (subst (λ (x : PointI32). FirstOther list x 0 i r) ep w))
              ∙ ap (λ (x : PointI32). first_other x (reverse (back list i))) (sym ep)
              ∙ ap (λ (b : Bool). first_other p (if b then reverse (back list i) else [])) (sym (not-false closed c));
        }

ruleset laws = (next, nothing, around, rules)

pub returns-then-k-self : goal.returns-then-k-self
returns-then-k-self c = search laws

pub returns-then-not-self : goal.returns-then-not-self
returns-then-not-self c = search laws

pub returns : goal.returns
returns c = search laws
