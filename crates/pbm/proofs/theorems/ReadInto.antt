-- What an answer with a chart says of the buffer: its start has the chart's bytes, and the chart is good. Assumes nothing.
use Prim.Native.Nat.{ℕ, ◌≤◌}
use mathlib.Core.Bool.{Bool, false}
use mathlib.Core.List.{List}
use mathlib.Core.Path.{◌≡◌, sym, ap, subst, ◌∙◌}
use native.Mathlib.Omega.{arith}
use lib.ListN.{length}
use borrow.Author.Tests.{le-ltb}
use Rattle.laws.specs.Lists.{over}
use Rattle.laws.proofs.Lists.{length_over}
use Rattle.chart.specs.Pixels.{bad_chart, all_bytes, bad_sides}
use Rattle.chart.specs.declared.Chart.{Chart}
use Rattle.pbm.specs.Bytes.{chart_bytes}
use Rattle.pbm.specs.Read.{Reading, was_read, read_of}
use Rattle.pbm.proofs.Bytes.{length_chart_bytes}
use Rattle.pbm.proofs.theorems.Told.{Told, told_refused, told_read, told, refused_is_not_read, same_read}

-- where a chart was read: its bytes lie over the start of the buffer, and nothing of what is refused holds
pub record ReadInto (c : Chart) (buffer pixels : List ℕ) : Type 0 where
  pub set : ℕ → ℕ → Bool
  pub sized : bad_sides c ≡ false
  pub room : all_bytes c ≤ length buffer
  pub lies : pixels ≡ over (chart_bytes c set) buffer

pub read_into : (file buffer : List ℕ) (c : Chart) (n : ℕ) → (read_of file buffer).answer ≡ was_read c n → ReadInto c buffer (read_of file buffer).out
read_into file buffer c n read = go (told file buffer)
  where
    go : Told file buffer → ReadInto c buffer (read_of file buffer).out
    go (told_refused r e) = absurd (refused_is_not_read r c n (ap (λ (o : Reading). o.answer) (sym e) ∙ read))
    go (told_read m f room e) =
        let said : was_read f.header.chart m ≡ was_read c n = ap (λ (o : Reading). o.answer) (sym e) ∙ read in
        let same : f.header.chart ≡ c = (same_read f.header.chart c m n said).0 in
        subst (λ (c : Chart). ReadInto c buffer (read_of file buffer).out) same
        (record {
          set = f.image.set;
          sized = f.sized;
          room = room;
          lies = ap (λ (o : Reading). o.out) e;
        })

-- what was read is not bad
pub read_good : (c : Chart) (buffer pixels : List ℕ) → ReadInto c buffer pixels → bad_chart c pixels ≡ false
unfolding bad_chart
read_good c buffer pixels r =
    let long : length (chart_bytes c r.set) ≤ length buffer = omega (arith, length_chart_bytes c r.set, r.room) in
    let enough : all_bytes c ≤ length pixels = omega (arith, ap length r.lies, length_over (chart_bytes c r.set) buffer long, r.room) in
    rw (r.sized, le-ltb _ _ enough)
