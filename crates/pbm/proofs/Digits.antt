-- What `digits_in` finds: a byte in front, one step; the digits that are left behind some of them, which are the same digits; and the first
-- of them by themselves. Assumes nothing.
use Prim.Native.Nat.{ℕ, zero, suc, ◌+◌, ◌-◌, ◌≤◌, ◌<◌}
use mathlib.Core.Bool.{Bool, true, false, ◌||◌, false≢true}
use mathlib.Core.List.{List, [], ◌∷◌}
use mathlib.Core.Option.{Option, some, none}
use mathlib.Core.Path.{◌≡◌, refl, sym, ap, ◌∙◌, subst₂}
use native.Mathlib.Nat.{zero-add, suc-add, add-zero}
use native.Mathlib.Numerals.{add-one}
use native.Mathlib.Omega.{arith}
use lib.Dec.{eqb}
use lib.ListN.{length, get_or, take, drop, drop_of_length-le}
use lib.Seq.{drop-cons, drop-drop, get_or-drop, get_or-take}
use borrow.Author.Tests.{eqb-true, ne_eqb, le-leb, lt-leb}
use Rattle.laws.proofs.Joined.{both_false}
use Rattle.chart.specs.Pixels.{one}
use Rattle.pbm.specs.Header.{white}
use Rattle.pbm.specs.Raster.{Sign, blank, pixel, wrong, sign_of, Digits, onto, digits_in}
use Rattle.pbm.specs.inside.Places.{behind_digits, bits_of, whole}

-- ---- what a byte is

pub white_blank : (b : ℕ) → white b ≡ true → sign_of b ≡ blank
unfolding sign_of
white_blank b h = rw (h, sign_of)

-- white space is below every digit
pub not_white : (b : ℕ) → 48 ≤ b → white b ≡ false
unfolding white
not_white b h = rw (ne_eqb b 32 (λ e. omega arith), le-leb 9 b (omega arith), lt-leb b 13 (omega arith))

pub zero_or_one : (b : ℕ) → (eqb b 48 || eqb b 49) ≡ true → sign_of b ≡ pixel (eqb b 49)
unfolding sign_of
zero_or_one b h = go (eqb b 48) (eqb b 49) refl refl h
  where
    go : (z o : Bool) → eqb b 48 ≡ z → eqb b 49 ≡ o → (z || o) ≡ true → sign_of b ≡ pixel (eqb b 49)
    go true o e f k = rw (eqb-true b 48 e)
    go false true e f k = rw (eqb-true b 49 f)
    go false false e f k = absurd (false≢true k)

pub neither : (b : ℕ) → white b ≡ false → (eqb b 48 || eqb b 49) ≡ false → sign_of b ≡ wrong
unfolding sign_of
neither b h k = let p = both_false (eqb b 48) (eqb b 49) k in rw (h, sign_of, p.0, p.1)

-- a byte that is neither blank nor wrong
pub digit_if : (b : ℕ) → white b ≡ false → (sign_of b ≡ wrong → ⊥) → (eqb b 48 || eqb b 49) ≡ true
digit_if b w h = go (eqb b 48 || eqb b 49) refl
  where
    go : (t : Bool) → (eqb b 48 || eqb b 49) ≡ t → t ≡ true
    go true e = refl
    go false e = absurd (h (neither b w e))

-- one that is below every digit, and is not wrong
pub white_if : (b : ℕ) → b < 48 → (sign_of b ≡ wrong → ⊥) → white b ≡ true
white_if b low h = go (white b) refl
  where
    go : (t : Bool) → white b ≡ t → t ≡ true
    go true e = refl
    go false e = absurd (h (neither b e (rw (ne_eqb b 48 (λ f. omega arith), ne_eqb b 49 (λ f. omega arith)))))

pub digit_value : (b : ℕ) → (eqb b 48 || eqb b 49) ≡ true → b ≡ 48 + one (eqb b 49)
digit_value b h = go (eqb b 48) refl h
  where
    go : (z : Bool) → eqb b 48 ≡ z → (z || eqb b 49) ≡ true → b ≡ 48 + one (eqb b 49)
    go true e k = let z : b ≡ 48 = eqb-true b 48 e in rw z
    go false e k = rw k (eqb-true b 49 k)

-- ---- a byte in front

module _ (n b : ℕ) (bs : List ℕ) where
  pub blank_first : sign_of b ≡ blank → digits_in (suc n) (b ∷ bs) ≡ digits_in (suc n) bs
  unfolding digits_in
  blank_first e = rw (e, digits_in)

  pub pixel_first : (s : Bool) → sign_of b ≡ pixel s → digits_in (suc n) (b ∷ bs) ≡ onto s (digits_in n bs)
  unfolding digits_in
  pixel_first s e = rw (e, digits_in)

  pub wrong_first : sign_of b ≡ wrong → digits_in (suc n) (b ∷ bs) ≡ none
  unfolding digits_in
  wrong_first e = rw (e, digits_in)

-- the same at a place of a file, with some digits left

module _ (file : List ℕ) (i : ℕ) where
  pub none_left : (left : ℕ) → 0 < left → length file ≤ i → digits_in left (drop i file) ≡ none
  unfolding digits_in
  none_left zero l h = absurd (omega arith)
  none_left (suc n) l h = rw drop_of_length-le

  module _ (h : i < length file) where
    pub blank_at : (left : ℕ) → 0 < left → sign_of (get_or file i 0) ≡ blank → digits_in left (drop i file) ≡ digits_in left (drop (i + 1) file)
    blank_at zero l e = absurd (omega arith)
    blank_at (suc n) l e = rw (drop-cons file i 0, add-one) (blank_first n _ _ e)

    pub pixel_at : (left : ℕ) (s : Bool) → 0 < left → sign_of (get_or file i 0) ≡ pixel s
        → digits_in left (drop i file) ≡ onto s (digits_in (left - 1) (drop (i + 1) file))
    pixel_at zero s l e = absurd (omega arith)
    pixel_at (suc n) s l e = let k : suc n - 1 ≡ n = omega arith in rw (drop-cons file i 0, add-one, k) (pixel_first n _ _ s e)

    pub wrong_at : (left : ℕ) → 0 < left → sign_of (get_or file i 0) ≡ wrong → digits_in left (drop i file) ≡ none
    wrong_at zero l e = absurd (omega arith)
    wrong_at (suc n) l e = rw (drop-cons file i 0) (wrong_first n _ _ e)

pub behind_onto : (s : Bool) (d : Option Digits) → behind_digits (onto s d) ≡ behind_digits d
behind_onto s none = refl
behind_onto s (some d) = refl

-- ---- the digits behind the first k

-- the pixels of digits that are there
abbrev pub bit : Option Digits → ℕ → Bool
bit d = λ j. get_or (bits_of d) j false

abbrev pub skip : ℕ → Option Digits → Option Digits
skip k none = none
skip k (some d) = some (record { bits = drop k d.bits; rest = d.rest })

pub skip_zero : (d : Option Digits) → skip 0 d ≡ d
skip_zero none = refl
skip_zero (some d) = refl

pub skip_skip : (j k : ℕ) (d : Option Digits) → skip j (skip k d) ≡ skip (k + j) d
skip_skip j k none = refl
skip_skip j k (some d) = ap (λ (bits : List Bool). some (record { bits = bits; rest = d.rest })) (drop-drop j k d.bits)

skip_onto : (k : ℕ) (s : Bool) (d : Option Digits) → skip (suc k) (onto s d) ≡ skip k d
skip_onto k s none = refl
skip_onto k s (some d) = refl

pub whole_skip : (k : ℕ) (d : Option Digits) → whole (skip k d) ≡ whole d
whole_skip k none = refl
whole_skip k (some d) = refl

pub behind_skip : (k : ℕ) (d : Option Digits) → behind_digits (skip k d) ≡ behind_digits d
behind_skip k none = refl
behind_skip k (some d) = refl

pub bits_skip : (k j : ℕ) (d : Option Digits) → get_or (bits_of (skip k d)) j false ≡ get_or (bits_of d) (k + j) false
bits_skip k j none = refl
bits_skip k j (some d) = get_or-drop k d.bits j false

-- where s comes next, the others follow it, and it is digit k
module _ (k : ℕ) (s : Bool) (others d : Option Digits) (next : onto s others ≡ skip k d) where
  pub next_others : others ≡ skip (k + 1) d
  next_others = sym (skip_zero others) ∙ sym (skip_onto 0 s others) ∙ ap (skip 1) next ∙ skip_skip 1 k d

  pub next_bit : whole d ≡ true → get_or (bits_of d) k false ≡ s
  next_bit there =
      ap (λ (n : ℕ). get_or (bits_of d) n false) (sym (add-zero k))
      ∙ sym (bits_skip k 0 d)
      ∙ sym (ap (λ (x : Option Digits). get_or (bits_of x) 0 false) next)
      ∙ first others (ap whole next ∙ whole_skip k d ∙ there)
    where
      first : (x : Option Digits) → whole (onto s x) ≡ true → get_or (bits_of (onto s x)) 0 false ≡ s
      first none h = absurd (false≢true h)
      first (some e) h = refl

-- ---- n digits, and m from where they end

pub digits_behind : (n m : ℕ) (raster rest : List ℕ) → behind_digits (digits_in n raster) ≡ some rest → digits_in m rest ≡ skip n (digits_in (n + m) raster)
unfolding digits_in
digits_behind zero m raster rest h = let e : rest ≡ raster = cc in rw (zero-add, e, skip_zero)
digits_behind (suc n) m [] rest h = let z : ◌≡◌ {A = ℕ} 0 1 = cc in absurd (omega arith)
digits_behind (suc n) m (b ∷ bs) rest h = go (sign_of b) refl (digits_behind (suc n) m bs rest) (digits_behind n m bs rest)
  where
    go : (s : Sign) → sign_of b ≡ s
        → (behind_digits (digits_in (suc n) bs) ≡ some rest → digits_in m rest ≡ skip (suc n) (digits_in (suc n + m) bs))
        → (behind_digits (digits_in n bs) ≡ some rest → digits_in m rest ≡ skip n (digits_in (n + m) bs))
        → digits_in m rest ≡ skip (suc n) (digits_in (suc n + m) (b ∷ bs))
    go blank e same less =
        same (sym (ap behind_digits (blank_first n b bs e)) ∙ h)
        ∙ rw suc-add (ap (skip (suc n)) (sym (blank_first (n + m) b bs e)))
    go (pixel s) e same less =
        less (sym (behind_onto s (digits_in n bs)) ∙ sym (ap behind_digits (pixel_first n b bs s e)) ∙ h)
        ∙ sym (skip_onto n s (digits_in (n + m) bs))
        ∙ rw suc-add (ap (skip (suc n)) (sym (pixel_first (n + m) b bs s e)))
    go wrong e same less =
        let k : none ≡ some rest = sym (ap behind_digits (wrong_first n b bs e)) ∙ h in
        let z : ◌≡◌ {A = ℕ} 0 1 = cc in
        absurd (omega arith)

-- `front` is the first n digits of `all`, if these are whole
abbrev Front : ℕ → Option Digits → Option Digits → Type 0
Front n front all = whole all ≡ true → (whole front ≡ true) × (bits_of front ≡ take n (bits_of all))

front_onto : (n : ℕ) (s : Bool) (front all : Option Digits) → Front n front all → Front (suc n) (onto s front) (onto s all)
front_onto n s front none f h = absurd (false≢true h)
front_onto n s none (some d) f h = absurd (false≢true (f refl).0)
front_onto n s (some e) (some d) f h = (refl, ap (λ (l : List Bool). s ∷ l) (f refl).1)

front : (n m : ℕ) (raster : List ℕ) → Front n (digits_in n raster) (digits_in (n + m) raster)
unfolding digits_in
front zero m raster = λ h. (refl, refl)
front (suc n) m [] = λ h. absurd (false≢true (rw suc-add at h))
front (suc n) m (b ∷ bs) = rw suc-add (go (sign_of b) refl (rw suc-add at (front (suc n) m bs)) (front n m bs))
  where
    go : (s : Sign) → sign_of b ≡ s
        → Front (suc n) (digits_in (suc n) bs) (digits_in (suc (n + m)) bs)
        → Front n (digits_in n bs) (digits_in (n + m) bs)
        → Front (suc n) (digits_in (suc n) (b ∷ bs)) (digits_in (suc (n + m)) (b ∷ bs))
    go blank e same less = subst₂ (Front (suc n)) (sym (blank_first n b bs e)) (sym (blank_first (n + m) b bs e)) same
    go (pixel s) e same less =
        subst₂ (Front (suc n)) (sym (pixel_first n b bs s e)) (sym (pixel_first (n + m) b bs s e)) (front_onto n s (digits_in n bs) (digits_in (n + m) bs) less)
    go wrong e same less = λ h. absurd (false≢true (sym (ap whole (wrong_first (n + m) b bs e)) ∙ h))

pub front_whole : (n m : ℕ) (raster : List ℕ) → whole (digits_in (n + m) raster) ≡ true → whole (digits_in n raster) ≡ true
front_whole n m raster h = (front n m raster h).0

pub front_bits : (n m : ℕ) (raster : List ℕ) → whole (digits_in (n + m) raster) ≡ true → bits_of (digits_in n raster) ≡ take n (bits_of (digits_in (n + m) raster))
front_bits n m raster h = (front n m raster h).1

-- ---- n digits more, behind the first k of all: they are there, they are those at k and behind, and then come those behind the first k + n

module _ (all k n : ℕ) (d : Option Digits) (rest : List ℕ) (left : digits_in (all - k) rest ≡ skip k d) (more : k + n ≤ all) where
  left_is : digits_in (n + (all - (k + n))) rest ≡ skip k d
  left_is = let e : n + (all - (k + n)) ≡ all - k = omega arith in rw e left

  pub more_left : (rest' : List ℕ) → behind_digits (digits_in n rest) ≡ some rest' → digits_in (all - (k + n)) rest' ≡ skip (k + n) d
  more_left rest' h = digits_behind n (all - (k + n)) rest rest' h ∙ ap (skip n) left_is ∙ skip_skip n k d

  module _ (there : whole d ≡ true) where
    left_whole : whole (digits_in (n + (all - (k + n))) rest) ≡ true
    left_whole = ap whole left_is ∙ whole_skip k d ∙ there

    pub more_whole : whole (digits_in n rest) ≡ true
    more_whole = front_whole n (all - (k + n)) rest left_whole

    pub more_bits : (j : ℕ) → j < n → get_or (bits_of (digits_in n rest)) j false ≡ get_or (bits_of d) (k + j) false
    more_bits j h =
        ap (λ (l : List Bool). get_or l j false) (front_bits n (all - (k + n)) rest left_whole)
        ∙ get_or-take n (bits_of (digits_in (n + (all - (k + n))) rest)) j false h
        ∙ ap (λ (x : Option Digits). get_or (bits_of x) j false) left_is
        ∙ bits_skip k j d
