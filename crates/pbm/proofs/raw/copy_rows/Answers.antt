-- With all bytes copied, the chart's rows stand in `part`, and only their padding is left to clear.
use Prim.Native.Nat.{ℕ, ◌+◌, ◌≤◌, ◌<◌}
use mathlib.Core.List.{List}
use mathlib.Core.Path.{◌≡◌, sym, ap, ◌∙◌}
use native.Mathlib.Omega.{arith}
use lib.ListN.{length, take, drop, get_or, get_or-append}
use lib.Seq.{get_or-take, length-take-le}
use borrow.Author.Rules.{rules}
use Rattle.chart.specs.Pixels.{cell, all_bytes}
use Rattle.chart.specs.declared.Chart.{Chart}
use Rattle.texts.specs.Put.{put, Placed}
use Rattle.texts.proofs.Pieces.{put_fits}
use Rattle.pbm.specs.Bytes.{chart_bytes}
use Rattle.pbm.proofs.Bytes.{rows_alike}
use Rattle.pbm.proofs.raw.copy_rows.Goals as goal

module _ (c : Chart) (pixels old : List ℕ) (size : length old ≡ all_bytes c) (there : all_bytes c ≤ length pixels) (next : ℕ) (part : List ℕ)
    (e : record { answer = next; out = part } ≡ put (take (length old) pixels) old 0) where
  abbrev n : ℕ
  n = length old

  count : length (take n pixels) ≡ n
  count = length-take-le n pixels (omega arith)

  byte_copied : (i : ℕ) → i < all_bytes c → get_or part i 0 ≡ get_or pixels i 0
  byte_copied i h =
      ap (λ (o : Placed). get_or o.out i 0) (e ∙ put_fits (take n pixels) old 0 (omega (arith, count)))
      ∙ get_or-append (take n pixels) (drop (0 + length (take n pixels)) old) 0 i (omega (arith, count))
      ∙ get_or-take n pixels i 0 (omega arith)

  laid : (last : List ℕ) → last ≡ chart_bytes c (cell c part) → last ≡ chart_bytes c (cell c pixels)
  laid last f = f ∙ rows_alike c part pixels byte_copied

pub returns : goal.returns
returns c =
    let kept = c.part-1.given.1.1 (sym c.put_bytes.ensures.same) in
    let copied = ap (λ (l : List ℕ). record { answer = c.put_bytes.new.self.at; out = l }) kept ∙ c.put_bytes.ensures.put in
    search (laid, rules)
