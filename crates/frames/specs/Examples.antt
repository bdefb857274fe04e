-- Worked examples: antt computes each, so `refl` proves it. 48 is `0` and 102 is `f`.
use Rattle.std.specs.Prelude.{[], ◌∷◌, ◌≡◌, refl, pos, negsuc}
use Rattle.texts.specs.Text.{low_digits}
use Rattle.frames.specs.Replies.{points_text, numbers_text}
use Rattle.point.specs.Points.{flat}
use Rattle.laws.specs.Lists.{over}
use Rattle.chart.specs.Pixels.{bad_chart, pixel_at}
use Rattle.walker.specs.Walk.{walked}
use Rattle.words.specs.Digits.{digit_of}
use Rattle.words.specs.Bytes.{pair_of}
use Rattle.frames.specs.Answer.{answer_to}

-- 82 00 0001 0001 ffff
one_point : points_text 2 0 (pos 1 ∷ negsuc 0 ∷ []) ≡
    56 ∷ 50 ∷ 48 ∷ 48 ∷ 48 ∷ 48 ∷ 48 ∷ 49 ∷ 48 ∷ 48 ∷ 48 ∷ 49 ∷ 102 ∷ 102 ∷ 102 ∷ 102 ∷ []
unfolding points_text low_digits
one_point = refl

-- 84 04 0000
no_numbers : numbers_text 4 4 [] ≡ 56 ∷ 52 ∷ 48 ∷ 52 ∷ 48 ∷ 48 ∷ 48 ∷ 48 ∷ []
unfolding numbers_text low_digits
no_numbers = refl

-- `0101000100010000000080` gives `810000050000000000010000000100010000000100000000`
one_pixel : answer_to (48 ∷ 49 ∷ 48 ∷ 49 ∷ 48 ∷ 48 ∷ 48 ∷ 49 ∷ 48 ∷ 48 ∷ 48 ∷ 49 ∷ 48 ∷ 48 ∷ 48 ∷ 48 ∷ 48 ∷ 48 ∷ 48 ∷ 48 ∷ 56 ∷ 48 ∷ [])
    ≡ 56 ∷ 49 ∷ 48 ∷ 48 ∷ 48 ∷ 48 ∷ 48 ∷ 53 ∷ 48 ∷ 48 ∷ 48 ∷ 48 ∷ 48 ∷ 48 ∷ 48 ∷ 48 ∷ 48 ∷ 48 ∷ 48 ∷ 49 ∷ 48 ∷ 48 ∷ 48 ∷ 48 ∷ 48 ∷ 48 ∷ 48 ∷ 49 ∷ 48 ∷ 48 ∷ 48 ∷ 49 ∷ 48 ∷ 48 ∷ 48 ∷ 48 ∷ 48 ∷ 48 ∷ 48 ∷ 49 ∷ 48 ∷ 48 ∷ 48 ∷ 48 ∷ 48 ∷ 48 ∷ 48 ∷ 48 ∷ []
unfolding answer_to walked bad_chart pixel_at flat low_digits digit_of pair_of over
one_pixel = refl

-- no digits are no frame: ff0b0000
empty : answer_to [] ≡ 102 ∷ 102 ∷ 48 ∷ 98 ∷ 48 ∷ 48 ∷ 48 ∷ 48 ∷ []
unfolding answer_to
empty = refl
