-- Two tests joined by `&&` or `||`, as code makes them, one after the other: what is known of both, and what is returned when the first
-- decides. Assumes nothing.
use mathlib.Core.Path.{◌≡◌, refl, sym, ◌∙◌}
use mathlib.Core.Bool.{Bool, true, false, ◌&&◌, ◌||◌, false≢true}

pub both_true : (a b : Bool) → (a && b) ≡ true → (a ≡ true) × (b ≡ true)
both_true true b h = (refl, h)
both_true false b h = absurd (false≢true h)

pub both_false : (a b : Bool) → (a || b) ≡ false → (a ≡ false) × (b ≡ false)
both_false true b h = absurd (false≢true (sym h))
both_false false b h = (refl, h)

-- the first decides, and is itself what is returned
pub and_itself : (a b : Bool) → a ≡ false → a ≡ (a && b)
and_itself a b h = cc

pub or_itself : (a b : Bool) → a ≡ true → a ≡ (a || b)
or_itself a b h = cc

-- and where it does not, the second
pub and_second : (a b : Bool) → a ≡ true → b ≡ (a && b)
and_second a b h = cc

pub or_second : (a b : Bool) → a ≡ false → b ≡ (a || b)
or_second a b h = cc

-- ---- each part is worked out by a call: the first decides, or the second is what is answered

module _ (r a b : Bool) (says : r ≡ a) where
  pub and_out : r ≡ false → r ≡ (a && b)
  and_out e = says ∙ and_itself a b (sym says ∙ e)

  pub or_out : r ≡ true → r ≡ (a || b)
  or_out e = says ∙ or_itself a b (sym says ∙ e)

  module _ (s : Bool) (said : s ≡ b) where
    pub and_last : r ≡ true → s ≡ (a && b)
    and_last e = said ∙ and_second a b (sym says ∙ e)

    pub or_last : r ≡ false → s ≡ (a || b)
    or_last e = said ∙ or_second a b (sym says ∙ e)

pub ruleset joined = (and_out, and_last, or_out, or_last)
