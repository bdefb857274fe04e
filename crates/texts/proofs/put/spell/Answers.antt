use Rattle.std.proofs.Common.{◌≡◌, ℕ, ◌+◌, ◌-◌, ◌/◌, ◌%◌, ◌<◌, List, ◌++◌, length, drop, set, add-one, arith}
use Rattle.std.proofs.Math.ListN.{length-set}
use Rattle.std.proofs.Math.Seq.{append_snoc}
use Rattle.std.proofs.lemmas.List.{drop-set}
use Rattle.texts.specs.Text.{glyph_of, low_digits}
use Rattle.texts.proofs.put.spell.Goals as goal

one_more : (base n i j rest g : ℕ) (out : List ℕ) → i ≡ j + 1 → j < length out → g ≡ glyph_of (rest % base) →
    low_digits base i rest ++ drop i out ≡ low_digits base (length out) n →
    low_digits base j (rest / base) ++ drop j (set out j g) ≡ low_digits base (length (set out j g)) n
unfolding low_digits
one_more base n i j rest g out s l e inv = rw (length-set out j g, drop-set out j g l, e, ← append_snoc, add-one) (rw (s, add-one) at inv)

pub loop-i-preserved : goal.loop-i-preserved
loop-i-preserved c =
    one_more _ _ _ (c.loop-i.i - 1) _ _ c.loop-i.out (omega arith) (omega arith) c.glyph.ensures c.loop-i.invariant

none_left : (base n i rest len : ℕ) (out : List ℕ) → i ≡ 0 → len ≡ length out →
    low_digits base i rest ++ drop i out ≡ low_digits base (length out) n → out ≡ low_digits base len n
unfolding low_digits
none_left base n i rest len out z l inv = rw l (rw z at inv)

pub returns : goal.returns
returns c = none_left _ _ _ _ _ c.loop-i.out (omega arith) (omega arith) c.loop-i.invariant
