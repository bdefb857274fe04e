-- How many digits an answer has: 8 before the values, and as many for each. Assumes nothing.
use Prim.Native.Nat.{ℕ, ◌+◌, ◌*◌, ◌/◌, min}
use mathlib.Core.List.{List, ◌++◌}
use mathlib.Core.Path.{◌≡◌, refl, ◌∙◌}
use native.Mathlib.Omega.{arith}
use lib.Ieee.{Float, binary64, to_bits}
use lib.IntN.{ℤ}
use lib.ListN.{length, length-append}
use mir.Syntax.{w32}
use mir.Val.{of_z}
use Rattle.texts.specs.Text.{hex_text}
use Rattle.texts.proofs.Puts.{length_low_digits}
use Rattle.frames.specs.Replies.{head, coordinates, doubles, points_text, numbers_text}
use Rattle.frames.proofs.Behind.{Texts, length_all}

pub length_hex : (k n : ℕ) → length (hex_text k n) ≡ min k 16
length_hex k n = length_low_digits 16 (min k 16) n

pub length_head : (kind number count : ℕ) → length (head kind number count) ≡ 8
length_head kind number count =
    length-append (hex_text 2 (kind + 128) ++ hex_text 2 number) (hex_text 4 count)
    ∙ omega (arith, length-append (hex_text 2 (kind + 128)) (hex_text 2 number), length_hex 2 (kind + 128), length_hex 2 number, length_hex 4 count)

-- the text of each value
abbrev pub coordinate : ℤ → List ℕ
coordinate v = hex_text 4 (of_z w32 v)

abbrev pub double : Float → List ℕ
double v = hex_text 16 (to_bits binary64 v)

pub coordinate_texts : Texts coordinates coordinate 4
unfolding coordinates
coordinate_texts = record { none = refl; more = λ v vs. refl; each = λ v. length_hex 4 (of_z w32 v) }

pub double_texts : Texts doubles double 16
unfolding doubles
double_texts = record { none = refl; more = λ v vs. refl; each = λ v. length_hex 16 (to_bits binary64 v) }

pub length_points : (kind number : ℕ) (values : List ℤ) → length (points_text kind number values) ≡ 8 + length values * 4
unfolding points_text
length_points kind number values =
    length-append (head kind number (length values / 2)) (coordinates values)
    ∙ omega (arith, length_head kind number (length values / 2), length_all coordinate_texts values)

pub length_numbers : (kind number : ℕ) (values : List Float) → length (numbers_text kind number values) ≡ 8 + length values * 16
unfolding numbers_text
length_numbers kind number values =
    length-append (head kind number (length values)) (doubles values)
    ∙ omega (arith, length_head kind number (length values), length_all double_texts values)
