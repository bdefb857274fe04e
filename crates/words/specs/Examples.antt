-- Worked examples: antt computes each, so `refl` proves it. 97 is `a`, 98 is `b` and 32 a space.
use Rattle.std.specs.Prelude.{[], ◌∷◌, ◌≡◌, refl, pos, negsuc, Some, None}
use Rattle.laws.specs.Lists.{over}
use Rattle.words.specs.Line.{up_to, first_from, cut_at, words_of, word_of}
use Rattle.words.specs.Digits.{digit_of, all_digits, value}
use Rattle.words.specs.Hexadecimal.{hex_of, pattern_of}
use Rattle.words.specs.Decimal.{integer_of, natural_of}
use Rattle.words.specs.Bytes.{pair_of, bytes_of, read_into}

no_bytes_are_a_word : words_of [] ≡ [] ∷ []
unfolding cut_at
no_bytes_are_a_word = refl

two_spaces : words_of (97 ∷ 32 ∷ 32 ∷ 98 ∷ []) ≡ (97 ∷ []) ∷ [] ∷ (98 ∷ []) ∷ []
unfolding cut_at
two_spaces = refl

no_third_word : word_of (97 ∷ 32 ∷ 98 ∷ []) 2 ≡ []
unfolding cut_at
no_third_word = refl

the_second_b : first_from 98 1 (98 ∷ 97 ∷ 98 ∷ []) ≡ 2
unfolding up_to
the_second_b = refl

either_case : hex_of (65 ∷ 97 ∷ []) ≡ Some 170
unfolding hex_of all_digits value digit_of
either_case = refl

nothing : hex_of [] ≡ None
unfolding hex_of all_digits value digit_of
nothing = refl

too_short_a_pattern : pattern_of (65 ∷ 97 ∷ []) ≡ None
too_short_a_pattern = refl

minus_twelve : integer_of (45 ∷ 49 ∷ 50 ∷ []) ≡ Some (negsuc 11)
unfolding all_digits value digit_of
minus_twelve = refl

minus_zero : integer_of (45 ∷ 48 ∷ []) ≡ Some (pos 0)
unfolding all_digits value digit_of
minus_zero = refl

only_a_minus : integer_of (45 ∷ []) ≡ None
unfolding all_digits value digit_of
only_a_minus = refl

no_decimal_digit : integer_of (65 ∷ []) ≡ None
unfolding all_digits value digit_of
no_decimal_digit = refl

zeros_in_front : natural_of (48 ∷ 48 ∷ 49 ∷ []) ≡ Some 1
unfolding all_digits value digit_of
zeros_in_front = refl

no_natural : natural_of (45 ∷ 49 ∷ []) ≡ None
unfolding all_digits value digit_of
no_natural = refl

a_byte : bytes_of (49 ∷ 97 ∷ []) ≡ Some (26 ∷ [])
unfolding bytes_of pair_of digit_of
a_byte = refl

an_odd_digit : bytes_of (49 ∷ 97 ∷ 49 ∷ []) ≡ None
unfolding bytes_of pair_of digit_of
an_odd_digit = refl

the_rest_is_kept : read_into (Some (26 ∷ [])) (1 ∷ 2 ∷ []) ≡ record { answer = Some 1; out = 26 ∷ 2 ∷ [] }
unfolding over
the_rest_is_kept = refl

no_room : read_into (Some (26 ∷ 27 ∷ [])) (1 ∷ []) ≡ record { answer = None; out = 1 ∷ [] }
no_room = refl
