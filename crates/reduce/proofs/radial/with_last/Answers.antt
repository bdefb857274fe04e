-- The end of the radial list is written, if there is one.
use Prim.Native.Nat.{ℕ, ◌+◌, ◌*◌, ◌≤◌}
use mathlib.Core.Bool.{Bool, true, false}
use mathlib.Core.List.{List, [], ◌∷◌}
use mathlib.Core.Path.{◌≡◌, sym, ◌∙◌}
use native.Mathlib.Omega.{arith}
use lib.IntN.{ℤ}
use lib.ListN.{length, set}
use Rattle.std.proofs.Common.{rules, int_eq, ◌&&◌}
use Rattle.point.specs.Points.{flat, same_point}
use Rattle.point.specs.declared.PointI32.{PointI32}
use Rattle.point.specs.inside.Written.{onto}
use Rattle.point.proofs.Written.{onto_nil, onto_two}
use Rattle.reduce.specs.Radial.{radial_end}
use Rattle.reduce.proofs.radial.with_last.Goals as goal

module _ (last prev : PointI32) (same : Bool) (says : same ≡ same_point prev last) (kept : ℕ) (out : List ℤ) where
  none : same ≡ true → (kept ≡ kept + length (radial_end last prev)) × (out ≡ onto (kept * 2) (flat (radial_end last prev)) out)
  unfolding flat
  none t = let no_end : radial_end last prev ≡ [] = rw (← says, t) in rw no_end (omega arith, sym (onto_nil (kept * 2) out))

  one : same ≡ false → (kept + length (radial_end last prev)) * 2 ≤ length out → (now : List ℤ) →
      now ≡ set (set out (kept * 2) last.x) (kept * 2 + 1) last.y →
      (kept + 1 ≡ kept + length (radial_end last prev)) × (now ≡ onto (kept * 2) (flat (radial_end last prev)) out)
  unfolding flat
  one t fits now e =
      let end : radial_end last prev ≡ last ∷ [] = rw (← says, t) in
      let h : (kept + 1) * 2 ≤ length out = rw end at fits in
      rw (end, e)
      (omega arith, sym (onto_nil (kept * 2 + 2) (set (set out (kept * 2) last.x) (kept * 2 + 1) last.y)) ∙ onto_two (kept * 2) last.x last.y [] out (omega arith))

same_is : (p q : PointI32) (t : Bool) → t ≡ (int_eq p.x q.x && int_eq p.y q.y) → t ≡ same_point p q
same_is p q t e = search rules

pub returns-then-eq : goal.returns-then-eq
returns-then-eq c = none c.args.last c.args.prev c.eq.result (same_is c.args.prev c.args.last _ c.eq.ensures) _ _ c.if-eq.true

pub returns : goal.returns
returns c = one c.args.last c.args.prev c.eq.result (same_is c.args.prev c.args.last _ c.eq.ensures) _ _ c.if-eq.false c.requires _ c.put.ensures
