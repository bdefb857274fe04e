-- How pixels lie in a chart's bytes: a byte's pixels are its bits, every pixel of a chart is found in its bytes again, and what lies in
-- the padding is not set. Assumes nothing.
use Prim.Native.Nat.{ℕ, zero, suc, ◌+◌, ◌-◌, ◌*◌, ◌/◌, ◌%◌, ◌^◌, ◌≤◌, ◌<◌}
use mathlib.Core.Bool.{Bool, true, false, ◌&&◌}
use mathlib.Core.List.{List, [], ◌∷◌, ◌++◌, append-nil}
use mathlib.Core.Path.{◌≡◌, refl, sym, ap, ap₂, ◌∙◌}
use native.Mathlib.Nat.{add-zero, add-suc, zero-mul, mul_assoc, mul_comm, mul-one, zero-lt-suc, pow-suc, div-one, div-eq_of_lt, div-lt_iff_lt-mul}
use native.Mathlib.Numerals.{add-one}
use native.Mathlib.Omega.{arith}
use lib.Dec.{ltb, eqb}
use lib.ListN.{length, get_or, set, drop, length-append, get_or-append}
use lib.Pow.{shr-shr}
use lib.Seq.{get_or_at}
use borrow.Author.Tests.{lt-ltb, le-ltb, ltb-true}
use Rattle.laws.specs.Lists.{over}
use Rattle.laws.proofs.Lists.{over_push}
use Rattle.chart.specs.Pixels.{row_bytes, bit_of, cell, one, all_bytes}
use Rattle.chart.specs.declared.Chart.{Chart}
use Rattle.chart.proofs.OneByte.{digit}
use Rattle.chart.proofs.BitPlaces.{one_le}
use Rattle.pbm.specs.Bytes.{packed, byte_at, listed, chart_bytes}
use Rattle.pbm.proofs.RowByRow.{place_column, place_row, place_below}

-- ---- pixels as a number

pub packed_same : (n : ℕ) (p q : ℕ → Bool) → ((j : ℕ) → j < n → p j ≡ q j) → packed n p ≡ packed n q
unfolding packed
packed_same zero p q h = refl
packed_same (suc n) p q h = rw (packed_same n p q (λ j l. h j (omega arith)), h n (omega arith))

pub packed_lt : (n : ℕ) (p : ℕ → Bool) → packed n p < 2 ^ n
unfolding packed
packed_lt zero p = omega arith
packed_lt (suc n) p = omega (arith, packed_lt n p, one_le (p n), pow-suc 2 n)

-- n pixels, and k that are not set
more_clear : (n k : ℕ) (p q : ℕ → Bool) → ((j : ℕ) → j < n → p j ≡ q j) → ((j : ℕ) → n ≤ j → j < n + k → p j ≡ false) →
    packed (n + k) p ≡ packed n q * 2 ^ k
unfolding packed
more_clear n zero p q same clear = rw (add-zero, mul-one) (packed_same n p q same)
more_clear n (suc k) p q same clear =
    rw (add-suc, clear (n + k) (omega arith) (omega arith))
    (omega (arith, more_clear n k p q same (λ j l m. clear j l (omega arith)), ap (λ (x : ℕ). packed n q * x) (pow-suc 2 k), mul_assoc (packed n q) (2 ^ k) 2))

pub packed_padded : (w n : ℕ) (p q : ℕ → Bool) → n ≤ w → ((j : ℕ) → j < n → p j ≡ q j) → ((j : ℕ) → n ≤ j → j < w → p j ≡ false) →
    packed w p ≡ packed n q * 2 ^ (w - n)
packed_padded w n p q h same clear =
    let e : n + (w - n) ≡ w = omega arith in
    ap (λ (i : ℕ). packed i p) (sym e) ∙ more_clear n (w - n) p q same (λ j l m. clear j l (omega arith))

-- the first n bits of a byte
pub packed_bits : (b n : ℕ) → b < 256 → n ≤ 8 → packed n (bit_of b) ≡ b / 2 ^ (8 - n)
unfolding packed
packed_bits b zero l h = sym (div-eq_of_lt l)
packed_bits b (suc n) l h =
    let e : 7 - n % 8 ≡ 8 - suc n = omega arith in
    let f : 8 - suc n + 1 ≡ 8 - n = omega arith in
    let s : b / 2 ^ (8 - suc n) / 2 ≡ b / 2 ^ (8 - n) = shr-shr b (8 - suc n) 1 ∙ ap (λ (i : ℕ). b / 2 ^ i) f in
    rw (digit, e, packed_bits b n l (omega arith)) (omega (arith, s))

-- ---- and back: each pixel is a bit of the number

packed_digit : (n j : ℕ) (p : ℕ → Bool) → j < n → packed n p / 2 ^ (n - suc j) % 2 ≡ one (p j)
unfolding packed
packed_digit zero j p h = absurd (omega arith)
packed_digit (suc n) j p h = by_place (n - j) refl (packed_digit n j p)
  where
    by_place : (k : ℕ) → n - j ≡ k → (j < n → packed n p / 2 ^ (n - suc j) % 2 ≡ one (p j)) → (packed n p * 2 + one (p n)) / 2 ^ (suc n - suc j) % 2 ≡ one (p j)
    by_place zero e before =
        let same : j ≡ n = omega arith in
        let z : suc n - suc j ≡ 0 = omega arith in
        rw (z, div-one, same) (omega (arith, one_le (p n)))
    by_place (suc k) e before =
        let z : suc n - suc j ≡ 1 + (n - suc j) = omega arith in
        let half : (packed n p * 2 + one (p n)) / 2 ≡ packed n p = omega (arith, one_le (p n)) in
        rw (z, ← shr-shr (packed n p * 2 + one (p n)) 1 (n - suc j), half) (before (omega arith))

one_back : (t : Bool) → eqb (one t) 1 ≡ t
one_back true = refl
one_back false = refl

packed_column : (p : ℕ → Bool) (x : ℕ) → bit_of (packed 8 p) x ≡ p (x % 8)
packed_column p x =
    let e : 7 - x % 8 ≡ 8 - suc (x % 8) = omega arith in
    rw (e, packed_digit 8 (x % 8) p (omega arith)) (one_back (p (x % 8)))

-- ---- what a function gives for 0, 1, .. n - 1

pub length_listed : (n : ℕ) (f : ℕ → ℕ) → length (listed n f) ≡ n
unfolding listed
length_listed zero f = refl
length_listed (suc n) f = length-append (listed n f) (f n ∷ []) ∙ omega (arith, length_listed n f)

pub listed_at : (n : ℕ) (f : ℕ → ℕ) (i : ℕ) → i < n → get_or (listed n f) i 0 ≡ f i
unfolding listed
listed_at zero f i h = absurd (omega arith)
listed_at (suc n) f i h = by_place (n - i) refl (listed_at n f i)
  where
    by_place : (k : ℕ) → n - i ≡ k → (i < n → get_or (listed n f) i 0 ≡ f i) → get_or (listed n f ++ (f n ∷ [])) i 0 ≡ f i
    by_place zero e before = let same : i ≡ n = omega arith in rw same (get_or_at (listed n f) (f n) [] 0 n (length_listed n f))
    by_place (suc k) e before = get_or-append (listed n f) (f n ∷ []) 0 i (omega (arith, length_listed n f)) ∙ before (omega arith)

pub listed_same : (n : ℕ) (f g : ℕ → ℕ) → ((i : ℕ) → i < n → f i ≡ g i) → listed n f ≡ listed n g
unfolding listed
listed_same zero f g h = refl
listed_same (suc n) f g h = rw (listed_same n f g (λ i l. h i (omega arith)), h n (omega arith))

-- a loop that writes them to the start of a buffer
pub listed_over : (f : ℕ → ℕ) (old : List ℕ) (i : ℕ) → i < length old → set (over (listed i f) old) i (f i) ≡ over (listed (i + 1) f) old
unfolding listed
listed_over f old i h = rw add-one (over_push (listed i f) old i (f i) (length_listed i f) h)

-- ---- a chart's bytes

module _ (c : Chart) (set : ℕ → ℕ → Bool) where
  -- column x of row y as a byte has it: past the last column nothing is set
  abbrev pub shown : ℕ → ℕ → Bool
  shown x y = ltb x c.width && set x y

  pub byte_at_is : (i : ℕ) → byte_at c set i ≡ packed 8 (λ j. shown (i % row_bytes c.width * 8 + j) (i / row_bytes c.width))
  unfolding byte_at
  byte_at_is i = refl

  byte_column : (i x : ℕ) → bit_of (byte_at c set i) x ≡ shown (i % row_bytes c.width * 8 + x % 8) (i / row_bytes c.width)
  byte_column i x = rw byte_at_is (packed_column (λ j. shown (i % row_bytes c.width * 8 + j) (i / row_bytes c.width)) x)

  pub length_chart_bytes : length (chart_bytes c set) ≡ all_bytes c
  unfolding chart_bytes
  length_chart_bytes = length_listed (all_bytes c) (byte_at c set)

  pub chart_bytes_at : (i : ℕ) → i < all_bytes c → get_or (chart_bytes c set) i 0 ≡ byte_at c set i
  unfolding chart_bytes
  chart_bytes_at i h = listed_at (all_bytes c) (byte_at c set) i h

-- ---- the byte of column x of row y, for a row of b bytes

module _ (b x y : ℕ) (column : x < b * 8) where
  within : x / 8 < b
  within = omega arith

  byte_below : (height : ℕ) → y < height → y * b + x / 8 < b * height
  byte_below = place_below b (x / 8) y within

  byte_within_row : (y * b + x / 8) % b ≡ x / 8
  byte_within_row = place_column b (x / 8) y within

  byte_row : (y * b + x / 8) / b ≡ y
  byte_row = place_row b (x / 8) y within

-- ---- a pixel is found again, whatever follows the chart's bytes

module _ (c : Chart) (set : ℕ → ℕ → Bool) (x y : ℕ) (row : y < c.height) where
  module _ (rest : List ℕ) where
    cell_shown : x < row_bytes c.width * 8 → cell c (chart_bytes c set ++ rest) x y ≡ (ltb x c.width && set x y)
    unfolding cell
    cell_shown h =
        let b = row_bytes c.width in
        let i = y * b + x / 8 in
        let l : i < b * c.height = byte_below b x y h c.height row in
        let e : i % b * 8 + x % 8 ≡ x = omega (arith, ap (λ (n : ℕ). n * 8) (byte_within_row b x y h)) in
        ap (λ (n : ℕ). bit_of n x) (get_or-append (chart_bytes c set) rest 0 i (omega (arith, length_chart_bytes c set)) ∙ chart_bytes_at c set i l)
        ∙ byte_column c set i x
        ∙ ap₂ (λ (m n : ℕ). ltb m c.width && set m n) e (byte_row b x y h)

    pub cell_append : x < c.width → cell c (chart_bytes c set ++ rest) x y ≡ set x y
    unfolding row_bytes
    cell_append h = cell_shown (omega arith) ∙ rw (lt-ltb x c.width h)

    pub padding_append : c.width ≤ x → x < row_bytes c.width * 8 → cell c (chart_bytes c set ++ rest) x y ≡ false
    padding_append h l = cell_shown l ∙ rw (le-ltb x c.width h)

  pub padding_chart : c.width ≤ x → x < row_bytes c.width * 8 → cell c (chart_bytes c set) x y ≡ false
  padding_chart h l = ap (λ (bytes : List ℕ). cell c bytes x y) (sym (append-nil (chart_bytes c set))) ∙ padding_append [] h l

  module _ (old : List ℕ) where
    pub cell_over : x < c.width → cell c (over (chart_bytes c set) old) x y ≡ set x y
    unfolding over
    cell_over h = cell_append (drop (length (chart_bytes c set)) old) h

    pub padding_over : c.width ≤ x → x < row_bytes c.width * 8 → cell c (over (chart_bytes c set) old) x y ≡ false
    unfolding over
    padding_over h l = padding_append (drop (length (chart_bytes c set)) old) h l

-- ---- only the pixels of the chart count

module _ (c : Chart) (set set' : ℕ → ℕ → Bool) (same : (x y : ℕ) → x < c.width → y < c.height → set x y ≡ set' x y) where
  shown_same : (x y : ℕ) → y < c.height → shown c set x y ≡ shown c set' x y
  shown_same x y h = by_test (ltb x c.width) refl
    where
      by_test : (t : Bool) → ltb x c.width ≡ t → (t && set x y) ≡ (t && set' x y)
      by_test true e = same x y (ltb-true x c.width e) h
      by_test false e = refl

  pub byte_at_same : (i : ℕ) → i < all_bytes c → byte_at c set i ≡ byte_at c set' i
  byte_at_same i h =
      let b = row_bytes c.width in
      let row : i / b < c.height = row_of i b c.height h in
      rw (byte_at_is c set i, byte_at_is c set' i)
      (packed_same 8 (λ j. shown c set (i % b * 8 + j) (i / b)) (λ j. shown c set' (i % b * 8 + j) (i / b)) (λ j l. shown_same (i % b * 8 + j) (i / b) row))
    where
      row_of : (i b n : ℕ) → i < b * n → i / b < n
      row_of i zero n h = absurd (omega (arith, zero-mul n))
      row_of i (suc b) n h = (div-lt_iff_lt-mul (zero-lt-suc b)).1 (omega (arith, mul_comm (suc b) n))

  pub chart_bytes_same : chart_bytes c set ≡ chart_bytes c set'
  unfolding chart_bytes
  chart_bytes_same = listed_same (all_bytes c) (byte_at c set) (byte_at c set') byte_at_same

-- of two lists that have a chart's bytes in common
pub rows_alike : (c : Chart) (p q : List ℕ) → ((i : ℕ) → i < all_bytes c → get_or p i 0 ≡ get_or q i 0) →
    chart_bytes c (cell c p) ≡ chart_bytes c (cell c q)
unfolding cell row_bytes
rows_alike c p q same =
    let n = row_bytes c.width in
    chart_bytes_same c (cell c p) (cell c q)
    (λ x y h l. ap (λ (b : ℕ). bit_of b x) (same (y * n + x / 8) (byte_below n x y (omega arith) c.height l)))

-- a chart's bytes, read as pixels, lie as they did
pub chart_bytes_again : (c : Chart) (set : ℕ → ℕ → Bool) (old : List ℕ) → chart_bytes c (cell c (over (chart_bytes c set) old)) ≡ chart_bytes c set
chart_bytes_again c set old = chart_bytes_same c (cell c (over (chart_bytes c set) old)) set (λ x y h k. cell_over c set x y k old h)
