use Rattle.std.proofs.Common.{◌∙◌, sym, arith}
use Rattle.words.proofs.Pairs.{odd, all_counted, no_pair, a_pair, still_even}
use Rattle.words.proofs.bytes.count_bytes.Goals as goal

pub returns-then-word-ne0 : goal.returns-then-word-ne0
returns-then-word-ne0 c = sym (odd _ c.if-word-ne0.true)

pub loop-digits-preserved : goal.loop-digits-preserved
loop-digits-preserved c =
    let i = c.loop-digits.invariant in
    let s = c.in-Some.ensures.steps.1 in
    let two = c.in-Some.digits.now in
    (cc, still_even _ _ i.2 two _ s.0 (cc) i.1, a_pair _ _ i.2 two _ s.0 (cc) c.in_ok-pair.field-0 (sym c.pair.ensures ∙ c.in_ok-pair.was))

pub returns-in_err-pair : goal.returns-in_err-pair
returns-in_err-pair c =
    let i = c.loop-digits.invariant in
    let s = c.in-Some.ensures.steps.1 in
    let two = c.in-Some.digits.now in
    c.from_residual.ensures ∙ sym (no_pair _ _ i.2 two _ s.0 (cc) (sym c.pair.ensures ∙ c.in_err-pair.was))

pub returns : goal.returns
returns c = sym (all_counted _ _ c.loop-digits.invariant.2 c.loop-digits.invariant.1 (omega (arith, c.in-None.ensures.steps.1.0)))
