-- The digits from i on are those behind the first ones, which the byte holds.
use Prim.Native.Nat.{ℕ, ◌+◌, ◌-◌, ◌*◌, ◌%◌, ◌^◌, ◌≤◌, ◌<◌}
use mathlib.Core.Bool.{Bool, true, false, ◌||◌, false≢true}
use mathlib.Core.List.{List}
use mathlib.Core.Option.{Option, some}
use mathlib.Core.Path.{◌≡◌, refl, sym, ap, ◌∙◌}
use native.Mathlib.Nat.{lt_of_lt_of_le}
use native.Mathlib.Numerals.{add-one}
use native.Mathlib.Omega.{arith}
use mir.Syntax.{w8, w64}
use mir.Val.{Fits}
use lib.Dec.{eqb, ltb}
use lib.ListN.{length, get_or, drop}
use lib.Pow.{pow_mono, shl_exact}
use borrow.Author.Rules.{rules}
use borrow.Author.Tests.{ltb-true, ltb-false}
use Rattle.chart.proofs.BitPlaces.{one_le}
use Rattle.pbm.specs.Bytes.{packed}
use Rattle.pbm.specs.Raster.{wrong, sign_of, Digits, onto, digits_in}
use Rattle.pbm.specs.inside.Places.{behind_digits, whole}
use Rattle.pbm.proofs.Bytes.{packed_lt}
use Rattle.pbm.proofs.Digits.{white_blank, not_white, white_if, zero_or_one, digit_if, digit_value, none_left, blank_at, pixel_at, wrong_at, bit, skip, skip_zero, whole_skip, behind_skip, next_others, next_bit}
use Rattle.pbm.proofs.plain.gather.Goals as goal

module _ (file : List ℕ) (i wanted n : ℕ) (d : Option Digits) (there : whole d ≡ true) (most : n ≤ 8) (within : wanted ≤ n)
    (inv : digits_in wanted (drop i file) ≡ skip (n - wanted) d) where
  module _ (more : 0 < wanted) where
    those_whole : whole (digits_in wanted (drop i file)) ≡ true
    those_whole = ap whole inv ∙ whole_skip (n - wanted) d ∙ there

    in_file : i < length file
    in_file = go (ltb i (length file)) refl
      where
        go : (t : Bool) → ltb i (length file) ≡ t → i < length file
        go true e = ltb-true i (length file) e
        go false e = absurd (false≢true (sym (ap whole (none_left file i wanted more (ltb-false i (length file) e))) ∙ those_whole))

    next_fits : length file * 1 < 2 ^ 63 → Fits w64 (i + 1)
    next_fits h = record { fits = omega (arith, in_file) }

    shorter : length file - (i + 1) < length file - i
    shorter = omega (arith, in_file)

    -- no byte among them is wrong
    not_wrong : sign_of (get_or file i 0) ≡ wrong → ⊥
    not_wrong e = false≢true (sym (ap whole (wrong_at file i in_file wanted more e)) ∙ those_whole)

    module _ (from_zero : 48 ≤ get_or file i 0) where
      is_digit : (eqb (get_or file i 0) 48 || eqb (get_or file i 0) 49) ≡ true
      is_digit = digit_if (get_or file i 0) (not_white (get_or file i 0) from_zero) not_wrong

      one_more : n - wanted + 1 ≡ n - (wanted - 1)
      one_more = omega arith

      others : onto (eqb (get_or file i 0) 49) (digits_in (wanted - 1) (drop (i + 1) file)) ≡ skip (n - wanted) d
      others = sym (pixel_at file i in_file wanted (eqb (get_or file i 0) 49) more (zero_or_one (get_or file i 0) is_digit)) ∙ inv

      fewer_wanted : digits_in (wanted - 1) (drop (i + 1) file) ≡ skip (n - (wanted - 1)) d
      fewer_wanted = next_others (n - wanted) (eqb (get_or file i 0) 49) _ d others ∙ ap (λ (k : ℕ). skip k d) one_more

      module _ (byte : ℕ) (held : byte ≡ packed (n - wanted) (bit d)) where
        small : byte < 128
        small = lt_of_lt_of_le (rw held (packed_lt (n - wanted) (bit d))) (pow_mono {i = n - wanted} {j = 7} (omega arith))

        double_fits : Fits w8 (byte * 2)
        double_fits = record { fits = omega (arith, small) }

        sum_fits : Fits w8 (byte * 2 + (get_or file i 0 - 48))
        sum_fits = record { fits = omega (arith, small, digit_value (get_or file i 0) is_digit, one_le (eqb (get_or file i 0) 49)) }

        more_held : byte * 2 + (get_or file i 0 - 48) ≡ packed (n - (wanted - 1)) (bit d)
        unfolding packed
        more_held =
            rw (← one_more, add-one, next_bit (n - wanted) (eqb (get_or file i 0) 49) (digits_in (wanted - 1) (drop (i + 1) file)) d others there)
            (omega (arith, digit_value (get_or file i 0) is_digit))

    one_blank : get_or file i 0 < 48 → digits_in wanted (drop (i + 1) file) ≡ skip (n - wanted) d
    one_blank below = sym (blank_at file i in_file wanted more (white_blank (get_or file i 0) (white_if (get_or file i 0) below not_wrong))) ∙ inv

  module _ (all : wanted ≤ 0) where
    ends : behind_digits d ≡ some (drop i file)
    unfolding digits_in
    ends =
        let z : wanted ≡ 0 = omega arith in
        sym (behind_skip (n - wanted) d) ∙ sym (ap behind_digits inv) ∙ ap (λ (k : ℕ). behind_digits (digits_in k (drop i file))) z

moved_up : (byte n wanted : ℕ) (p : ℕ → Bool) → byte ≡ packed (n - wanted) p → wanted ≤ 0 → n ≤ 8 → byte * 2 ^ (8 - n) % 256 ≡ packed n p * 2 ^ (8 - n)
moved_up byte n wanted p held all most =
    let z : n - wanted ≡ n = omega arith in
    ap (λ (b : ℕ). b * 2 ^ (8 - n) % 256) (held ∙ ap (λ (k : ℕ). packed k p) z)
    ∙ shl_exact n (8 - n) 8 (packed_lt n p) (omega arith)

starts : (n : ℕ) (d : Option Digits) → d ≡ skip (n - n) d
starts n d = let z : n - n ≡ 0 = omega arith in rw (z, skip_zero)

starts_empty : (n : ℕ) (p : ℕ → Bool) → 0 ≡ packed (n - n) p
unfolding packed
starts_empty n p = let z : n - n ≡ 0 = omega arith in rw z

ruleset laws = (in_file, next_fits, shorter, fewer_wanted, double_fits, sum_fits, more_held, one_blank, rules)

pub loop-wanted-init : goal.loop-wanted-init
loop-wanted-init c = search (starts, starts_empty, rules)

pub bounds-file-i : goal.bounds-file-i
bounds-file-i c = search laws

pub overflow_add-i : goal.overflow_add-i
overflow_add-i c = search laws

pub overflow_mul-byte : goal.overflow_mul-byte
overflow_mul-byte c = search laws

pub overflow_add-byte : goal.overflow_add-byte
overflow_add-byte c = search laws

pub loop-wanted-preserved-then-b-ge48 : goal.loop-wanted-preserved-then-b-ge48
loop-wanted-preserved-then-b-ge48 c = search laws

pub loop-wanted-smaller : goal.loop-wanted-smaller
loop-wanted-smaller c = search laws

pub loop-wanted-preserved : goal.loop-wanted-preserved
loop-wanted-preserved c = search laws

pub returns : goal.returns
returns c = (search (moved_up, rules), search (ends, rules))
