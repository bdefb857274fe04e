-- The head, and a text for each value behind it. Assumes nothing.
use Rattle.std.proofs.Common.{rules, ◌≡◌, refl, ap, ℕ, ◌^◌, ◌<◌, ℤ, pos, ◌∙◌, of_z, to_z}
use Rattle.std.proofs.Math.Facts.{to_z-of_z}
use lib.Signed.{mag}
use borrow.Author.Rules.{sfits_of}
use Rattle.std.specs.Int.{w32}
use Rattle.texts.specs.Put.{put}
use Rattle.texts.specs.Text.{hex_text}
use Rattle.frames.specs.Replies.{points_text}
use Rattle.frames.proofs.Behind.{none_fits, left_begun, left_value, left_ended}
use Rattle.frames.proofs.Sizes.{coordinate_texts, length_head}
use Rattle.frames.proofs.replies.put_points.Goals as goal

pub returns-then-not-fits-clause-put : goal.returns-then-not-fits-clause-put
unfolding points_text
returns-then-not-fits-clause-put c = none_fits coordinate_texts _ _ (length_head _ _ _) _ _ _ c.fits.ensures c.if-not-fits.true

pub loop-value-init : goal.loop-value-init
loop-value-init c = (left_begun coordinate_texts _ _ (length_head _ _ _) _ _ _ c.fits.ensures c.if-not-fits.false _ _ c.put_head.ensures.put, refl)

-- the bits of a value
bits : (z : ℤ) (a b : ℕ) → mag z < 2 ^ 31 → a ≡ of_z w32 (to_z w32 (of_z w32 z)) → b ≡ a → b ≡ of_z w32 z
bits z a b h e f = f ∙ e ∙ ap (of_z w32) (to_z-of_z {w = w32} {z = z} (sfits_of h))

pub loop-value-preserved : goal.loop-value-preserved
loop-value-preserved c = (
  left_value coordinate_texts _ _ _ c.args.values.now _ (pos 0) _ _ _ _ c.loop-value-test.true c.loop-value.invariant.0
      (c.put_hex.ensures.put ∙ ap (λ (n : ℕ). put (hex_text 4 n) c.loop-value.pen.out.now c.loop-value.pen.at) (search (bits, rules))),
  c.put_hex.ensures.same ∙ c.loop-value.invariant.1,
)

pub returns-clause-put : goal.returns-clause-put
unfolding points_text
returns-clause-put c =
    left_ended coordinate_texts _ _ (length_head _ _ _) _ _ _ c.fits.ensures c.if-not-fits.false _ _ c.put_head.ensures.put
    _ _ _ c.loop-value-test.false c.loop-value.invariant.0

pub returns-clause-same : goal.returns-clause-same
returns-clause-same c = c.loop-value.invariant.1 ∙ c.put_head.ensures.same
