-- Worked examples: antt computes each, so `refl` proves it. 48 to 57 are the digits, 99 is `c`, 102 is `f` and 10 ends a line.
use Rattle.std.specs.Prelude.{true, [], ◌∷◌, ◌≡◌, refl}
use Rattle.std.specs.Float.Ieee.{of_int, add, sub, mul, div, lt, le, to_bits}
use Rattle.laws.specs.Lists.{over}
use Rattle.point.specs.Limits.{bad_list}
use Rattle.point.specs.Points.{flat}
use Rattle.chart.specs.Pixels.{bad_chart, pixel_at}
use Rattle.chart.specs.Start.{first_start}
use Rattle.walker.specs.Walk.{walked}
use Rattle.simplify.specs.Penalties.{penalty}
use Rattle.simplify.specs.Simplify.{simplify_of}
use Rattle.reduce.specs.Numbers.{numbered_of}
use Rattle.texts.specs.Text.{low_digits}
use Rattle.frames.specs.Replies.{points_text, numbers_text}
use Rattle.pbm.specs.Read.{read_of}
use Rattle.survey.specs.Survey.{three_lines, survey_text, whole, step_of}
use Rattle.survey.specs.declared.step.Turn.TheVariants.{Read}

-- the one pixel of a chart: its outline of five points, the two of them that are left, and their numbers, both +infinity
one_pixel : three_lines (record { width = 1; height = 1 }) (0b10000000 ∷ []) ≡
    56 ∷ 49 ∷ 48 ∷ 48 ∷ 48 ∷ 48 ∷ 48 ∷ 53 ∷ 48 ∷ 48 ∷ 48 ∷ 48 ∷ 48 ∷ 48 ∷ 48 ∷ 48 ∷ 48 ∷ 48 ∷ 48 ∷ 49 ∷ 48 ∷ 48 ∷ 48 ∷ 48 ∷ 48 ∷ 48 ∷ 48 ∷ 49 ∷ 48 ∷ 48 ∷ 48 ∷ 49 ∷ 48 ∷ 48 ∷ 48 ∷ 48 ∷ 48 ∷ 48 ∷ 48 ∷ 49 ∷ 48 ∷ 48 ∷ 48 ∷ 48 ∷ 48 ∷ 48 ∷ 48 ∷ 48 ∷ 10 ∷ 56 ∷ 50 ∷ 48 ∷ 48 ∷ 48 ∷ 48 ∷ 48 ∷ 50 ∷ 48 ∷ 48 ∷ 48 ∷ 48 ∷ 48 ∷ 48 ∷ 48 ∷ 48 ∷ 48 ∷ 48 ∷ 48 ∷ 48 ∷ 48 ∷ 48 ∷ 48 ∷ 48 ∷ 10 ∷ 56 ∷ 52 ∷ 48 ∷ 48 ∷ 48 ∷ 48 ∷ 48 ∷ 50 ∷ 55 ∷ 102 ∷ 102 ∷ 48 ∷ 48 ∷ 48 ∷ 48 ∷ 48 ∷ 48 ∷ 48 ∷ 48 ∷ 48 ∷ 48 ∷ 48 ∷ 48 ∷ 48 ∷ 55 ∷ 102 ∷ 102 ∷ 48 ∷ 48 ∷ 48 ∷ 48 ∷ 48 ∷ 48 ∷ 48 ∷ 48 ∷ 48 ∷ 48 ∷ 48 ∷ 48 ∷ 48 ∷ 10 ∷ []
unfolding three_lines first_start bad_chart walked pixel_at flat over simplify_of bad_list penalty of_int add sub mul div lt le numbered_of points_text numbers_text low_digits to_bits
one_pixel = refl

-- 81 08 0000, 82 00 0000 and 84 04 0000: a blank chart has no outline, and no points are simplified to none, which have no numbers
blank : three_lines (record { width = 1; height = 1 }) (0b01111111 ∷ []) ≡
    56 ∷ 49 ∷ 48 ∷ 56 ∷ 48 ∷ 48 ∷ 48 ∷ 48 ∷ 10 ∷ 56 ∷ 50 ∷ 48 ∷ 48 ∷ 48 ∷ 48 ∷ 48 ∷ 48 ∷ 10 ∷ 56 ∷ 52 ∷ 48 ∷ 52 ∷ 48 ∷ 48 ∷ 48 ∷ 48 ∷ 10 ∷ []
unfolding three_lines first_start bad_chart simplify_of bad_list numbered_of points_text numbers_text low_digits
blank = refl

-- 80 0c 0000: an empty file is no picture
empty : survey_text [] ≡ 56 ∷ 48 ∷ 48 ∷ 99 ∷ 48 ∷ 48 ∷ 48 ∷ 48 ∷ 10 ∷ []
unfolding survey_text read_of points_text low_digits
empty = refl

-- but more may come
waits : step_of [] true (1 ∷ []) ≡ record { answer = Read; out = 1 ∷ [] }
unfolding step_of survey_text whole read_of
waits = refl
