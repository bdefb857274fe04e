-- One point is written twice, and of any other list the marked points.
use Prim.Native.Nat.{ℕ, ◌*◌, ◌≤◌}
use mathlib.Core.List.{List}
use mathlib.Core.Path.{◌≡◌, sym, ◌∙◌}
use native.Mathlib.Omega.{arith}
use lib.IntN.{ℤ}
use lib.ListN.{length}
use Rattle.point.specs.Limits.{places_for}
use Rattle.point.specs.Points.{points, count, point_at}
use Rattle.point.specs.inside.Written.{Handed}
use Rattle.point.proofs.Flat.{length_points, points_at}
use Rattle.point.proofs.Written.{put_twice}
use Rattle.reduce.specs.Kept.{select, kept}
use Rattle.reduce.specs.inside.Place.{placed}
use Rattle.reduce.proofs.Select.{kept_single, kept_many}
use Rattle.reduce.proofs.keep.keep_marked.Goals as goal

module _ (list : List ℤ) (marks : List ℕ) (old : List ℤ) where
  -- one point is kept twice
  single : count list ≡ 1 → places_for (count list) * 2 ≤ length old → (once twice : List ℤ) → once ≡ placed list 0 0 old → twice ≡ placed list 0 1 once →
      Handed (kept marks (points list)) old 2 twice
  unfolding placed
  single one room once twice f g =
      let two : places_for (count list) ≡ 2 = rw one in
      rw (kept_single marks (points list) (point_at list 0) (length_points list ∙ one), points_at list 0 (point_at list 0) (omega arith))
      (put_twice (point_at list 0) old once twice (omega arith) f g)

  finished : (count list ≡ 1 → ⊥) → (n : ℕ) (last : List ℤ) → Handed (select marks (points list)) old n last → Handed (kept marks (points list)) old n last
  finished more n last d = rw (kept_many marks (points list) (λ o. more (sym (length_points list) ∙ o))) d

pub returns-then-points-eq1 : goal.returns-then-points-eq1
returns-then-points-eq1 c = search single

pub returns : goal.returns
returns c = search finished
