-- Worked examples: antt computes each, so `refl` proves it. 45 is `-`, 48 is `0` and 97 is `a`.
use Rattle.std.specs.Prelude.{[], ◌∷◌, ◌≡◌, refl, pos, negsuc}
use Rattle.texts.specs.Text.{low_digits, hex_text, decimal_digits, decimal_text}
use Rattle.texts.specs.Put.{put}

lower_case : hex_text 4 170 ≡ 48 ∷ 48 ∷ 97 ∷ 97 ∷ []
unfolding low_digits
lower_case = refl

lowest_digits : hex_text 1 4096 ≡ 48 ∷ []
unfolding low_digits
lowest_digits = refl

zero_is_one_digit : decimal_text (pos 0) ≡ 48 ∷ []
unfolding decimal_digits
zero_is_one_digit = refl

below_zero : decimal_text (negsuc 119) ≡ 45 ∷ 49 ∷ 50 ∷ 48 ∷ []
unfolding decimal_digits
below_zero = refl

in_the_middle : put (97 ∷ 97 ∷ []) (1 ∷ 2 ∷ 3 ∷ 4 ∷ []) 1 ≡ record { answer = 3; out = 1 ∷ 97 ∷ 97 ∷ 4 ∷ [] }
unfolding put
in_the_middle = refl

no_room : put (97 ∷ 97 ∷ []) (1 ∷ 2 ∷ 3 ∷ 4 ∷ []) 3 ≡ record { answer = 3; out = 1 ∷ 2 ∷ 3 ∷ 4 ∷ [] }
unfolding put
no_room = refl
