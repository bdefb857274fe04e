-- A header takes 11 bytes at most, and a chart's rows 64 times 512.
use Prim.Native.Nat.{ℕ, ◌+◌, ◌*◌, ◌≤◌}
use mathlib.Core.Bool.{false}
use mathlib.Core.Path.{◌≡◌}
use native.Mathlib.Nat.{mul-le-mul}
use native.Mathlib.Omega.{arith}
use mir.Syntax.{w64}
use mir.Val.{Fits}
use lib.ListN.{length}
use borrow.Author.Rules.{rules}
use Rattle.chart.specs.Pixels.{row_bytes, all_bytes, bad_sides}
use Rattle.chart.specs.declared.Chart.{Chart}
use Rattle.chart.proofs.Sizes.{width_within, height_within}
use Rattle.pbm.specs.Write.{head_text}
use Rattle.pbm.proofs.HeadText.{head_short}
use Rattle.pbm.proofs.write.file_bytes.Goals as goal

module _ (c : Chart) (n b : ℕ) (head : n ≡ length (head_text c)) (rows : b ≡ all_bytes c) where
  sum_fits : bad_sides c ≡ false → Fits w64 (n + b)
  unfolding row_bytes
  sum_fits fine =
      let few : row_bytes c.width ≤ 64 = omega (arith, width_within c fine) in
      let l : all_bytes c ≤ 64 * 512 = mul-le-mul few (height_within c fine).1 in
      record { fits = omega (arith, head_short c fine) }

  sum : n + b ≡ length (head_text c) + all_bytes c
  sum = rw (head, rows)

pub put_head-requires : goal.put_head-requires
put_head-requires c = search (head_short, rules)

pub overflow_add-result : goal.overflow_add-result
overflow_add-result c = search (sum_fits, rules)
