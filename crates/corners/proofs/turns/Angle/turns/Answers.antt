-- No turn from an equal point or to one; and both vectors are short.
use mathlib.Core.Bool.{Bool, true, false}
use mathlib.Core.Path.{◌≡◌, sym, ap₂, ◌∙◌}
use borrow.Author.Rules.{rules}
use Rattle.point.specs.declared.PointI32.{PointI32}
use Rattle.point.specs.Points.{same_point}
use Rattle.corners.specs.declared.Pair.{Pair}
use Rattle.corners.specs.Corners.{vector, sharp, turns}
use Rattle.corners.proofs.Judged.{alike_before, alike_behind, both_differ}
use Rattle.corners.proofs.turns.Angle.turns.Goals as goal
use Rattle.corners.proofs.turns.Angle.turns.Goals.{then-eq-via-then-eq, then-eq-via-else-eq+then-eq-2}

module _ (pair : Pair) (from p to : PointI32) (s : Bool) (es : s ≡ same_point p from) where
  none_before : s ≡ true → false ≡ turns pair from p to
  none_before e = alike_before pair from p to (sym es ∙ e)

  module _ (e : s ≡ false) (u : Bool) (eu : u ≡ same_point p to) where
    none_behind : u ≡ true → false ≡ turns pair from p to
    none_behind f = alike_behind pair from p to (sym es ∙ e) (sym eu ∙ f)

    judged : u ≡ false → (v1 v2 : PointI32) → v1 ≡ vector from p → v2 ≡ vector p to → (r : Bool) → r ≡ sharp pair v1 v2 → r ≡ turns pair from p to
    judged f v1 v2 e1 e2 r er = er ∙ ap₂ (sharp pair) e1 e2 ∙ both_differ pair from p to (sym es ∙ e) (sym eu ∙ f)

pub returns-then-eq : goal.returns-then-eq
returns-then-eq c = elim c.then-eq.branch [ then-eq-via-then-eq w ↦ search (none_before, rules) | then-eq-via-else-eq+then-eq-2 w ↦ search (none_behind, rules) ]

pub returns : goal.returns
returns c =
    judged c.args.self.pair c.args.from c.args.p c.args.to c.eq.result (search rules) c.if-eq.false c.eq-else-eq.result (search rules) c.if-eq-2.false _ _ c.vector.ensures.0 c.vector-2.ensures.0
    _ c.sharp.ensures
