-- The header of a picture: how long it is, and with it the picture, and that what is put part by part is its text. Assumes nothing.
use Prim.Native.Nat.{ℕ, zero, suc, ◌+◌, ◌/◌, ◌%◌, ◌^◌, ◌≤◌, ◌<◌}
use mathlib.Core.Bool.{Bool, true, false}
use mathlib.Core.List.{List, [], ◌∷◌, ◌++◌, append_assoc}
use mathlib.Core.Path.{◌≡◌, refl, sym, ap, subst, ◌∙◌}
use native.Mathlib.Nat.{pow-suc}
use native.Mathlib.Omega.{arith}
use lib.Dec.{ltb}
use lib.ListN.{length, drop, length-append}
use lib.Seq.{append_snoc}
use borrow.Author.Tests.{ltb-false}
use Rattle.std.specs.Prelude.{if◌then◌else◌}
use Rattle.laws.specs.Lists.{over}
use Rattle.chart.specs.Pixels.{cell, all_bytes, bad_sides}
use Rattle.chart.specs.declared.Chart.{Chart}
use Rattle.chart.proofs.Sizes.{width_within, height_within}
use Rattle.texts.specs.Text.{glyph_of, decimal_digits, natural_text}
use Rattle.texts.specs.Put.{Placed, put}
use Rattle.texts.proofs.Pieces.{put_fits, put_then, second_fits}
use Rattle.pbm.specs.Bytes.{chart_bytes}
use Rattle.pbm.specs.Write.{head_text, picture_text}
use Rattle.pbm.proofs.Bytes.{length_chart_bytes}

-- ---- its length

-- a number below 10 ^ (k + 1) has k + 1 digits at most
digits_most : (k most n : ℕ) → n < 10 ^ suc k → length (decimal_digits most n) ≤ suc k
unfolding decimal_digits
digits_most k zero n h = omega arith
digits_most zero (suc most) n h = by_test (ltb n 10) refl
  where
    by_test : (t : Bool) → ltb n 10 ≡ t → length (if t then glyph_of n ∷ [] else decimal_digits most (n / 10) ++ (glyph_of (n % 10) ∷ [])) ≤ 1
    by_test true e = omega arith
    by_test false e = absurd (omega (arith, ltb-false n 10 e))
digits_most (suc k) (suc most) n h = by_test (ltb n 10) (digits_most k most (n / 10) (omega (arith, pow-suc 10 (suc k))))
  where
    by_test : (t : Bool) → length (decimal_digits most (n / 10)) ≤ suc k →
        length (if t then glyph_of n ∷ [] else decimal_digits most (n / 10) ++ (glyph_of (n % 10) ∷ [])) ≤ suc (suc k)
    by_test true l = omega arith
    by_test false l = omega (arith, length-append (decimal_digits most (n / 10)) (glyph_of (n % 10) ∷ []))

few_digits : (n : ℕ) → n ≤ 512 → length (natural_text n) ≤ 3
few_digits n h = digits_most 2 20 n (omega arith)

pub head_length : (c : Chart) → length (head_text c) ≡ length (natural_text c.width) + length (natural_text c.height) + 5
head_length c =
    length-append (80 ∷ 52 ∷ 10 ∷ natural_text c.width ++ (32 ∷ natural_text c.height)) (10 ∷ [])
    ∙ omega (arith, length-append (80 ∷ 52 ∷ 10 ∷ natural_text c.width) (32 ∷ natural_text c.height))

pub head_short : (c : Chart) → bad_sides c ≡ false → length (head_text c) ≤ 11
head_short c fine = omega (arith, head_length c, few_digits c.width (width_within c fine).1, few_digits c.height (height_within c fine).1)

-- with the rows behind it
module _ (c : Chart) (pixels : List ℕ) where
  pub picture_is : picture_text c pixels ≡ head_text c ++ chart_bytes c (cell c pixels)
  unfolding picture_text
  picture_is = refl

  pub picture_length : length (picture_text c pixels) ≡ length (head_text c) + all_bytes c
  picture_length =
      ap length picture_is ∙ length-append (head_text c) (chart_bytes c (cell c pixels))
      ∙ ap (λ (n : ℕ). length (head_text c) + n) (length_chart_bytes c (cell c pixels))

-- ---- its parts

-- a text put at the start stands over it
put_over : (text out last : List ℕ) (r : ℕ) → length text ≤ length out → record { answer = r; out = last } ≡ put text out 0 →
    (r ≡ length text) × (last ≡ over text out)
unfolding over
put_over text out last r h e =
    let z : 0 + length text ≡ length text = omega arith in
    let room : 0 + length text ≤ length out = omega arith in
    let f : ◌≡◌ {A = Placed} (record { answer = r; out = last }) (record { answer = length text; out = text ++ drop (length text) out }) =
    e ∙ put_fits text out 0 room ∙ rw z in
    (ap (λ (o : Placed). o.answer) f, ap (λ (o : Placed). o.out) f)

module _ (c : Chart) (out : List ℕ) (room : length (head_text c) ≤ length out) where
  abbrev first : List ℕ
  first = natural_text c.width ++ (32 ∷ [])

  abbrev second : List ℕ
  second = natural_text c.height ++ (10 ∷ [])

  abbrev magic : List ℕ
  magic = 80 ∷ 52 ∷ 10 ∷ []

  whole : 80 ∷ 52 ∷ 10 ∷ first ++ second ≡ head_text c
  whole =
      let a : List ℕ = 80 ∷ 52 ∷ 10 ∷ natural_text c.width in
      sym (append_assoc (a ++ (32 ∷ [])) (natural_text c.height) (10 ∷ [])) ∙ ap (λ (t : List ℕ). t ++ (10 ∷ [])) (append_snoc a 32 (natural_text c.height))

  all_length : length (head_text c) ≡ length first + length second + 3
  all_length = sym (ap length whole) ∙ length-append (80 ∷ 52 ∷ 10 ∷ first) second ∙ omega arith

  module _ (begun : List ℕ) (k : ℕ) (start : record { answer = k; out = begun } ≡ put magic out 0) where
    pub first_room : k + length first ≤ length begun
    first_room =
        subst (λ (o : Placed). o.answer + length first ≤ length o.out) (sym start)
        (second_fits magic first out 0 (omega (arith, all_length)))

    module _ (mid : List ℕ) (m : ℕ) (e : record { answer = m; out = mid } ≡ put first begun k) where
      both_put : record { answer = m; out = mid } ≡ put (80 ∷ 52 ∷ 10 ∷ first) out 0
      both_put = put_then magic first out begun mid 0 k m (omega (arith, all_length)) start e

      pub second_room : m + length second ≤ length mid
      second_room =
          subst (λ (o : Placed). o.answer + length second ≤ length o.out) (sym both_put)
          (second_fits (80 ∷ 52 ∷ 10 ∷ first) second out 0 (omega (arith, ap length whole)))

      module _ (last : List ℕ) (r : ℕ) (f : record { answer = r; out = last } ≡ put second mid m) where
        head_put : (r ≡ length (head_text c)) × (last ≡ over (head_text c) out)
        head_put =
            put_over (head_text c) out last r room
            (put_then (80 ∷ 52 ∷ 10 ∷ first) second out mid last 0 m r (omega (arith, ap length whole)) both_put f ∙ ap (λ (t : List ℕ). put t out 0) whole)

        pub head_next : r ≡ length (head_text c)
        head_next = head_put.0

        pub head_over : last ≡ over (head_text c) out
        head_over = head_put.1
