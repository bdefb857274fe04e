-- What the header takes of a file. A size is read as far as its digits go, so what follows has to end it: white space or a comment, which parts
-- the header from the raster. Whatever follows so, the header is the same. Assumes nothing.
use Prim.Native.Nat.{ℕ, ◌+◌, ◌-◌, ◌*◌, ◌≤◌}
use mathlib.Core.Bool.{Bool, true, false, ◌||◌, true≢false, false≢true}
use mathlib.Core.List.{List, [], ◌∷◌}
use mathlib.Core.Option.{Option, some, none, none-ne-some, some-injective}
use mathlib.Core.Path.{◌≡◌, refl, sym, ap, ◌∙◌}
use native.Mathlib.Omega.{arith}
use lib.Dec.{leb, eqb}
use borrow.Author.Tests.{leb-true, le-leb, lt-leb, ne_eqb}
use Rattle.laws.proofs.Joined.{both_true, both_false}
use Rattle.pbm.specs.Header.{white, hash, digit, begins, commented, behind, Number, digits_from, number_in, size_in, Header, sizes_in, header_in}
use Rattle.pbm.proofs.theorems.Front.{Front, at_once, longer, joined}

-- a list begins with white space or a comment
abbrev pub parted : List ℕ → Bool
parted bs = begins white bs || begins hash bs

-- ---- a digit is neither

-- as bytes are numbered
digit_parts_nothing : (b : ℕ) → digit b ≡ true → (white b || hash b) ≡ false
unfolding digit white hash
digit_parts_nothing b h =
    let from : 48 ≤ b = leb-true 48 b (both_true (leb 48 b) (leb b 57) h).0 in
    rw (ne_eqb b 32 (λ e. omega arith), le-leb 9 b (omega arith), lt-leb b 13 (omega arith), ne_eqb b 35 (λ e. omega arith))

-- so what parts ends the digits before it
parted_begins_no_digit : (bs : List ℕ) → parted bs ≡ true → begins digit bs ≡ false
parted_begins_no_digit [] h = refl
parted_begins_no_digit (b ∷ bs) h = go (digit b) refl
  where
    go : (t : Bool) → digit b ≡ t → t ≡ false
    go true e = absurd (true≢false (sym h ∙ digit_parts_nothing b e))
    go false e = refl

-- ---- digits

-- a number with another list left behind it
abbrev leaving : Number → List ℕ → Number
leaving m o = record { value = m.value; rest = o }

-- the definition, by its test
pub digits_go_on : (n b : ℕ) (bs : List ℕ) → digit b ≡ true → digits_from n (b ∷ bs) ≡ digits_from (n * 10 + (b - 48)) bs
unfolding digits_from
digits_go_on n b bs e = rw (e, digits_from)

pub digits_stop : (n : ℕ) (bs : List ℕ) → begins digit bs ≡ false → digits_from n bs ≡ record { value = n; rest = bs }
unfolding digits_from
digits_stop n [] e = refl
digits_stop n (b ∷ bs) e = rw (e, digits_from)

-- as many digits as there are
abbrev TakesDigits : ℕ → List ℕ → Type 0
TakesDigits n bs = Front (digits_from n) (leaving (digits_from n bs)) parted bs (digits_from n bs).rest

-- what digits take
digits_front : (n : ℕ) (bs : List ℕ) → TakesDigits n bs
digits_front n [] = unfold digits_from in at_once [] (λ o h. digits_stop n o (parted_begins_no_digit o h))
digits_front n (b ∷ bs) = go (digit b) refl (digits_front (n * 10 + (b - 48)) bs)
  where
    go : (t : Bool) → digit b ≡ t → TakesDigits (n * 10 + (b - 48)) bs → TakesDigits n (b ∷ bs)
    go true e f = rw (digits_go_on n b bs e) (longer _ _ b f (λ l o h. digits_go_on n b l e ∙ h))
    go false e f = rw (digits_stop n (b ∷ bs) e) (at_once (b ∷ bs) (λ o h. digits_stop n o (parted_begins_no_digit o h)))

-- ---- at least one digit

-- it begins with one
a_digit_begins : (bs : List ℕ) (m : Number) → number_in bs ≡ some m → begins digit bs ≡ true
unfolding number_in
a_digit_begins bs m is = go (begins digit bs) refl
  where
    go : (t : Bool) → begins digit bs ≡ t → t ≡ true
    go true e = refl
    go false e = absurd (none-ne-some m (rw (e, number_in) at is))

-- the definition, behind that one
number_is : (b : ℕ) (bs : List ℕ) → digit b ≡ true → number_in (b ∷ bs) ≡ some (digits_from (0 * 10 + (b - 48)) bs)
unfolding number_in
number_is b bs e = rw (e, number_in) (ap some (digits_go_on 0 b bs e))

-- what a number takes
number_front : (bs : List ℕ) (m : Number) → number_in bs ≡ some m → Front number_in (λ o. some (leaving m o)) parted bs m.rest
number_front [] m is = absurd (false≢true (a_digit_begins [] m is))
number_front (b ∷ bs) m is =
    let e = a_digit_begins (b ∷ bs) m is in
    let same : digits_from (0 * 10 + (b - 48)) bs ≡ m = some-injective _ _ (sym (number_is b bs e) ∙ is) in
    rw (← same) (longer _ _ b (digits_front (0 * 10 + (b - 48)) bs) (λ l o h. number_is b l e ∙ ap some h))

-- ---- white space and comments, up to a digit

-- the definition, by its test
behind_goes_on : (comment : Bool) (b : ℕ) (bs : List ℕ) → (comment || white b || hash b) ≡ true → behind comment (b ∷ bs) ≡ behind (commented comment b) bs
unfolding behind
behind_goes_on comment b bs e = rw (e, behind)

behind_stops : (comment : Bool) (b : ℕ) (bs : List ℕ) → (comment || white b || hash b) ≡ false → behind comment (b ∷ bs) ≡ b ∷ bs
unfolding behind
behind_stops comment b bs e = rw (e, behind)

-- no comment is open
pub stops_at_a_digit : (bs : List ℕ) → begins digit bs ≡ true → behind false bs ≡ bs
stops_at_a_digit [] h = absurd (false≢true h)
stops_at_a_digit (b ∷ bs) h = behind_stops false b bs (digit_parts_nothing b h)

-- white space and comments that end at a digit
abbrev TakesBlanks : Bool → List ℕ → Type 0
TakesBlanks comment bs = begins digit (behind comment bs) ≡ true → Front (behind comment) (λ o. o) (begins digit) bs (behind comment bs)

-- what white space and comments take
blanks_front : (comment : Bool) (bs : List ℕ) → TakesBlanks comment bs
blanks_front comment [] h = unfold behind in absurd (false≢true h)
blanks_front comment (b ∷ bs) h = go (comment || white b || hash b) refl (blanks_front (commented comment b) bs) h
  where
    go : (t : Bool) → (comment || white b || hash b) ≡ t → TakesBlanks (commented comment b) bs → TakesBlanks comment (b ∷ bs)
    go true e before h =
        let k : begins digit (behind (commented comment b) bs) ≡ true = rw (behind_goes_on comment b bs e) at h in
        rw (behind_goes_on comment b bs e) (longer _ _ b (before k) (λ l o p. behind_goes_on comment b l e ∙ p))
    go false e before h =
        let no-comment : comment ≡ false = (both_false comment (white b) (both_false (comment || white b) (hash b) e).0).0 in
        rw (behind_stops comment b bs e) (at_once (b ∷ bs) (λ o k. ap (λ (t : Bool). behind t o) no-comment ∙ stops_at_a_digit o k))

-- ---- a size

-- it begins with white space or a comment
size_is_parted : (bs : List ℕ) (m : Number) → size_in bs ≡ some m → parted bs ≡ true
unfolding size_in
size_is_parted bs m is = go (parted bs) refl
  where
    go : (t : Bool) → parted bs ≡ t → t ≡ true
    go true e = refl
    go false e = absurd (none-ne-some m (rw (e, size_in) at is))

-- the definition, behind that byte
pub size_is : (b : ℕ) (bs : List ℕ) → (white b || hash b) ≡ true → size_in (b ∷ bs) ≡ number_in (behind (hash b) bs)
unfolding size_in
size_is b bs e = rw (e, size_in) (ap number_in (behind_goes_on false b bs e))

-- what a size takes
size_front : (bs : List ℕ) (m : Number) → size_in bs ≡ some m → Front size_in (λ o. some (leaving m o)) parted bs m.rest
size_front [] m is = absurd (false≢true (size_is_parted [] m is))
size_front (b ∷ bs) m is =
    let e = size_is_parted (b ∷ bs) m is in
    let number : number_in (behind (hash b) bs) ≡ some m = sym (size_is b bs e) ∙ is in
    let blanks = blanks_front (hash b) bs (a_digit_begins (behind (hash b) bs) m number) in
    let digits = number_front (behind (hash b) bs) m number in
    longer _ _ b
    (joined (λ l. number_in (behind (hash b) l)) (λ o. some (leaving m o)) blanks digits
    (λ l o p. a_digit_begins l (leaving m o) p)
    (λ l k o p q. ap number_in p ∙ q))
    (λ l o p. size_is b l e ∙ p)

-- ---- both sizes

-- a header with another list left behind it
abbrev pub headed : Header → List ℕ → Header
headed h o = record { plain = h.plain; chart = h.chart; rest = o }

-- the definition, where both are there
pub sizes_are : (plain : Bool) (bs : List ℕ) (w h : Number) → size_in bs ≡ some w → size_in w.rest ≡ some h
    → sizes_in plain bs ≡ some (record { plain = plain; chart = record { width = w.value; height = h.value }; rest = h.rest })
unfolding sizes_in
sizes_are plain bs w h e f = rw (e, sizes_in, f)

module _ (plain : Bool) (bs : List ℕ) (h : Header) (is : sizes_in plain bs ≡ some h) where
  -- what both sizes take
  sizes_front : Front (sizes_in plain) (λ o. some (headed h o)) parted bs h.rest
  unfolding sizes_in
  sizes_front = first (size_in bs) refl
    where
      second : (width : Number) → size_in bs ≡ some width → (o : Option Number) → size_in width.rest ≡ o
          → Front (sizes_in plain) (λ o. some (headed h o)) parted bs h.rest
      second width e none f = absurd (none-ne-some h (rw (e, sizes_in, f) at is))
      second width e (some height) f =
          let same = some-injective _ _ (sym (sizes_are plain bs width height e f) ∙ is) in
          rw (← same)
          (joined _ _ (size_front bs width e) (size_front width.rest height f)
          (λ m o p. size_is_parted m (leaving height o) p)
          (λ l m o p q. sizes_are plain l (leaving width m) (leaving height o) p q))

      first : (o : Option Number) → size_in bs ≡ o → Front (sizes_in plain) (λ o. some (headed h o)) parted bs h.rest
      first none e = absurd (none-ne-some h (rw (e, sizes_in) at is))
      first (some width) e = second width e (size_in width.rest) refl

-- ---- the header

-- what the header takes
pub header_front : (bs : List ℕ) (h : Header) → header_in bs ≡ some h → Front header_in (λ o. some (headed h o)) parted bs h.rest
unfolding header_in
header_front [] h is = absurd (none-ne-some h is)
header_front (p ∷ []) h is = absurd (none-ne-some h is)
header_front (p ∷ kind ∷ bs) h is = go (eqb p 80) refl (eqb kind 49) refl (eqb kind 52) refl
  where
    behind_magic : (plain : Bool) → ((l : List ℕ) → header_in (p ∷ kind ∷ l) ≡ sizes_in plain l)
        → Front header_in (λ o. some (headed h o)) parted (p ∷ kind ∷ bs) h.rest
    behind_magic plain is_plain =
        let sizes = sizes_front plain bs h (sym (is_plain bs) ∙ is) in
        longer _ _ p (longer (λ l. header_in (p ∷ l)) (λ o. some (headed h o)) kind sizes (λ l o e. is_plain l ∙ e)) (λ l o e. e)

    go : (a : Bool) → eqb p 80 ≡ a → (b : Bool) → eqb kind 49 ≡ b → (c : Bool) → eqb kind 52 ≡ c
        → Front header_in (λ o. some (headed h o)) parted (p ∷ kind ∷ bs) h.rest
    go true e true f c g = behind_magic true (λ l. rw (e, header_in, f))
    go true e false f true g = behind_magic false (λ l. rw (e, header_in, f, g))
    go true e false f false g = absurd (none-ne-some h (rw (e, header_in, f, g) at is))
    go false e b f c g = absurd (none-ne-some h (rw (e, header_in) at is))
