-- The head, and a text for each value behind it. Assumes nothing.
use Rattle.std.proofs.Common.{refl, ap, ℕ, ◌∙◌}
use lib.Ieee.{nan}
use Rattle.texts.specs.Put.{put}
use Rattle.texts.specs.Text.{hex_text}
use Rattle.frames.specs.Replies.{numbers_text}
use Rattle.frames.proofs.Behind.{none_fits, left_begun, left_value, left_ended}
use Rattle.frames.proofs.Sizes.{double_texts, length_head}
use Rattle.frames.proofs.replies.put_numbers.Goals as goal

pub returns-then-not-fits-clause-put : goal.returns-then-not-fits-clause-put
unfolding numbers_text
returns-then-not-fits-clause-put c = none_fits double_texts _ _ (length_head _ _ _) _ _ _ c.fits.ensures c.if-not-fits.true

pub loop-value-init : goal.loop-value-init
loop-value-init c = (left_begun double_texts _ _ (length_head _ _ _) _ _ _ c.fits.ensures c.if-not-fits.false _ _ c.put_head.ensures.put, refl)

pub loop-value-preserved : goal.loop-value-preserved
loop-value-preserved c = (
  left_value double_texts _ _ _ c.args.values.now _ nan _ _ _ _ c.loop-value-test.true c.loop-value.invariant.0
      (c.put_hex.ensures.put ∙ ap (λ (n : ℕ). put (hex_text 16 n) c.loop-value.pen.out.now c.loop-value.pen.at) c.to_bits.ensures),
  c.put_hex.ensures.same ∙ c.loop-value.invariant.1,
)

pub returns-clause-put : goal.returns-clause-put
unfolding numbers_text
returns-clause-put c =
    left_ended double_texts _ _ (length_head _ _ _) _ _ _ c.fits.ensures c.if-not-fits.false _ _ c.put_head.ensures.put
    _ _ _ c.loop-value-test.false c.loop-value.invariant.0

pub returns-clause-same : goal.returns-clause-same
returns-clause-same c = c.loop-value.invariant.1 ∙ c.put_head.ensures.same
