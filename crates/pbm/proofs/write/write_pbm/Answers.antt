-- The tests on the way decide, and the rows stand behind the header.
use Prim.Native.Nat.{ℕ, ◌+◌, ◌-◌, ◌≤◌, ◌<◌}
use mathlib.Core.Bool.{Bool, true, false}
use mathlib.Core.List.{List, ◌++◌}
use mathlib.Core.Option.{none}
use mathlib.Core.Path.{◌≡◌, refl, sym, ap, ap₂, ◌∙◌}
use native.Mathlib.Omega.{arith}
use lib.Dec.{ltb}
use lib.ListN.{length, take, drop, length-append}
use lib.Seq.{take_all}
use borrow.Author.Rules.{rules}
use borrow.Author.Tests.{lt-ltb, le-ltb}
use borrow.Rule.Slice.PartMut.{put_mid}
use Rattle.std.proofs.lemmas.Slice.{put_mid-paste}
use Rattle.laws.specs.Lists.{over}
use Rattle.laws.proofs.Lists.{take_over_all, drop_over}
use Rattle.point.specs.Outcomes.{outcome}
use Rattle.point.specs.Refusals.{refuse◌when◌or◌}
use Rattle.std.specs.Prelude.{Ok, Err}
use Rattle.point.specs.declared.refusal.Refusal.TheVariants.{BadSize, NoRoom}
use Rattle.chart.specs.Pixels.{cell, bad_chart, all_bytes, bad_sides}
use Rattle.chart.specs.declared.Chart.{Chart}
use Rattle.pbm.specs.Bytes.{chart_bytes}
use Rattle.pbm.specs.Write.{head_text, picture_text, text_handed, written_of}
use Rattle.pbm.proofs.Bytes.{length_chart_bytes}
use Rattle.pbm.proofs.Images.{good_parts}
use Rattle.pbm.proofs.HeadText.{picture_is, picture_length}
use Rattle.pbm.proofs.write.write_pbm.Goals as goal

-- a text over the start of a buffer, and another put behind it
over_two : (a b out : List ℕ) (n : ℕ) → length b ≡ n → take (length a) (over a out) ++ b ++ drop (length a + n) (over a out) ≡ over (a ++ b) out
unfolding over
over_two a b out n e =
    ap₂ (λ (p q : List ℕ). p ++ b ++ q) (take_over_all a out) (drop_over a out (length a + n) (omega arith))
    ∙ ap (λ (k : ℕ). a ++ b ++ drop k out) (sym (length-append a b ∙ ap (λ (k : ℕ). length a + k) e))

module _ (c : Chart) (pixels out : List ℕ) where
  -- by the two tests
  tested : (s t : Bool) → bad_chart c pixels ≡ s → ltb (length out) (length (picture_text c pixels)) ≡ t →
      written_of c pixels out ≡ outcome (refuse BadSize when s or refuse NoRoom when t or none) out (text_handed (picture_text c pixels) out)
  unfolding written_of
  tested s t e f = ap₂ (λ (s t : Bool). outcome (refuse BadSize when s or refuse NoRoom when t or none) out (text_handed (picture_text c pixels) out)) e f

  module _ (r : Bool) (says : r ≡ bad_chart c pixels) where
    bad : r ≡ true → record { answer = Err BadSize; out = out } ≡ written_of c pixels out
    unfolding outcome
    bad e = sym (tested true _ (sym says ∙ e) refl)

    module _ (fine : r ≡ false) where
      parts : (bad_sides c ≡ false) × (all_bytes c ≤ length pixels)
      parts = good_parts c pixels (sym says ∙ fine)

      in_range_lem : bad_sides c ≡ false
      in_range_lem = parts.0

      enough : all_bytes c ≤ length pixels
      enough = parts.1

      module _ (n : ℕ) (size : n ≡ length (head_text c) + all_bytes c) where
        no_room : length out < n → record { answer = Err NoRoom; out = out } ≡ written_of c pixels out
        unfolding outcome
        no_room h = sym (tested false true (sym says ∙ fine) (lt-ltb (length out) (length (picture_text c pixels)) (omega (arith, picture_length c pixels))))

        module _ (room : n ≤ length out) (mid : List ℕ) (end : ℕ) (behind : end ≡ length (head_text c)) (head : mid ≡ over (head_text c) out) where
          abbrev rows : List ℕ
          rows = chart_bytes c (cell c pixels)

          all : take end mid ++ rows ++ drop (end + all_bytes c) mid ≡ over (picture_text c pixels) out
          all =
              ap₂ (λ (k : ℕ) (l : List ℕ). take k l ++ rows ++ drop (k + all_bytes c) l) behind head
              ∙ over_two (head_text c) rows out (all_bytes c) (length_chart_bytes c (cell c pixels))
              ∙ ap (λ (l : List ℕ). over l out) (sym (picture_is c pixels))

          done : (part : List ℕ) → part ≡ rows → record { answer = Ok n; out = put_mid end (n - end) mid part } ≡ written_of c pixels out
          unfolding outcome
          done part e =
              let m = all_bytes c in
              let laid : put_mid end (n - end) mid part ≡ take end mid ++ take m rows ++ drop (end + m) mid =
              put_mid-paste end (n - end) mid part rows m e (omega arith) (sym (length_chart_bytes c (cell c pixels))) in
              let whole : take m rows ≡ rows = take_all m rows (omega (arith, length_chart_bytes c (cell c pixels))) in
              ap₂ (λ (k : ℕ) (l : List ℕ). record { answer = Ok k; out = l }) (size ∙ sym (picture_length c pixels))
              (laid ∙ ap (λ (l : List ℕ). take end mid ++ l ++ drop (end + m) mid) whole ∙ all)
              ∙ sym (tested false false (sym says ∙ fine) (le-ltb (length out) (length (picture_text c pixels)) (omega (arith, picture_length c pixels))))

ruleset laws = (bad, in_range_lem, enough, no_room, done, rules)

pub returns-then-bad_chart : goal.returns-then-bad_chart
returns-then-bad_chart c = search laws

pub file_bytes-bytes-requires : goal.file_bytes-bytes-requires
file_bytes-bytes-requires c = search laws

pub returns-then-out-bytes : goal.returns-then-out-bytes
returns-then-out-bytes c = search laws

pub copy_rows-requires : goal.copy_rows-requires
copy_rows-requires c = search laws

pub returns : goal.returns
returns c = search laws
