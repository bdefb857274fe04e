-- "Padding is never read": bytes that show the same pixels of a chart have the same walks, whatever the bits behind a row's last pixel and the
-- bytes behind the last row. Assumes nothing.
use Prim.Native.Nat.{ℕ, ◌≤◌}
use mathlib.Core.Bool.{Bool, not, ◌&&◌}
use mathlib.Core.List.{List, ◌++◌}
use mathlib.Core.Option.{none}
use mathlib.Core.Path.{◌≡◌, ap, ◌∙◌}
use lib.IntN.{ℤ}
use lib.ListN.{length}
use Rattle.point.specs.Limits.{in_range}
use Rattle.point.specs.Outcomes.{outcome}
use Rattle.point.specs.Refusals.{refuse◌when◌or◌}
use Rattle.point.specs.declared.PointI32.{PointI32}
use Rattle.point.specs.declared.refusal.Refusal.TheVariants.{BadSize, BadPoint}
use Rattle.chart.specs.Pixels.{all_bytes, pixel_at}
use Rattle.chart.specs.declared.Chart.{Chart}
use Rattle.chart.proofs.Padding.{SamePixels, padding_is_not_read_pixel, same_behind}
use Rattle.walker.specs.Walk.{Pixels, walk_from, ended, walk_refusal, walked}

module _ (c : Chart) (p q : List ℕ) (same : SamePixels c p q) (start : PointI32) (clockwise : Bool) (out : List ℤ) where
  pub padding_is_not_read_walk : walked c p start clockwise out ≡ walked c q start clockwise out
  unfolding walked
  padding_is_not_read_walk =
      ap (λ (b : Bool). outcome (refuse BadSize when b or refuse BadPoint when not (in_range start.x && in_range start.y) or none) out
      (ended (walk_from (pixel_at c p) clockwise start) out)) same.refused
      ∙ ap (λ (set : Pixels). outcome (walk_refusal c q start) out (ended (walk_from set clockwise start) out)) (λ i x y. padding_is_not_read_pixel c p q same x y i)

-- bytes behind the last row
pub behind_is_not_read_walk : (c : Chart) (p more : List ℕ) → all_bytes c ≤ length p → (start : PointI32) (clockwise : Bool) (out : List ℤ) →
    walked c (p ++ more) start clockwise out ≡ walked c p start clockwise out
behind_is_not_read_walk c p more enough = padding_is_not_read_walk c (p ++ more) p (same_behind c p more enough)
