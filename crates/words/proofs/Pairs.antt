-- Bytes as pairs of hexadecimal digits: how many there are, and which pair says which. Assumes nothing.
use Rattle.std.proofs.Common.{ℕ, zero, suc, ◌≡◌, ◌+◌, ◌*◌, ◌/◌, ◌%◌, ◌≤◌, ◌<◌, ◌++◌, List, [], ◌∷◌, length, get_or, take, set, true, false, add-one, length-append, Option, Some, None, refl, sym, ap, ◌∙◌, arith}
use Rattle.std.specs.Option.{is_some, unwrap_or}
use lib.ListN.{length-take}
use lib.Seq.{take-suc}
use Rattle.laws.specs.Lists.{over}
use Rattle.laws.proofs.Lists.{over_nil, over_push}
use Rattle.words.specs.Bytes.{prepend, pair_of, bytes_of}
use Rattle.words.specs.inside.Bytes.{count_of, laid, Room}

-- a byte has two digits
abbrev Digits : Option (List ℕ) → ℕ → Type 0
Digits None n = Unit {0}
Digits (Some bytes) n = n ≡ 2 * length bytes

two_more : (p : Option ℕ) (n : ℕ) (b : Option (List ℕ)) → Digits b n → Digits (prepend p b) (suc (suc n))
two_more None n b d = tt
two_more (Some p) n None d = tt
two_more (Some p) n (Some bytes) d = omega arith

digits : (word : List ℕ) → Digits (bytes_of word) (length word)
unfolding bytes_of
digits [] = refl
digits (x ∷ []) = tt
digits (x ∷ y ∷ rest) = two_more (pair_of x y) (length rest) (bytes_of rest) (digits rest)

-- an odd count of digits says nothing; half as many bytes as digits, where all are digits
pub odd : (word : List ℕ) → (length word % 2 ≡ 0 → ⊥) → count_of (bytes_of word) ≡ None
odd word h = by (bytes_of word) (digits word)
  where
    by : (b : Option (List ℕ)) → Digits b (length word) → count_of b ≡ None
    by None d = refl
    by (Some bytes) d = absurd (h (omega arith))

pub half : (word : List ℕ) → is_some (bytes_of word) ≡ true → count_of (bytes_of word) ≡ Some (length word / 2)
half word = by (bytes_of word) (digits word)
  where
    by : (b : Option (List ℕ)) → Digits b (length word) → is_some b ≡ true → count_of b ≡ Some (length word / 2)
    by None d h = cc
    by (Some bytes) d h = ap Some (omega arith)

-- Counting: of all that are counted, `rest` are left.
module _ (word rest : List ℕ) (left : is_some (bytes_of word) ≡ is_some (bytes_of rest)) where
  pub all_counted : length rest % 2 ≡ 0 → length rest < 2 → count_of (bytes_of word) ≡ Some (length word / 2)
  unfolding bytes_of
  all_counted e h = half word (left ∙ ap (λ (r : List ℕ). is_some (bytes_of r)) (none_left rest e h))
    where
      none_left : (r : List ℕ) → length r % 2 ≡ 0 → length r < 2 → r ≡ []
      none_left [] e h = refl
      none_left (x ∷ r) e h = absurd (omega arith)

  -- two digits in front
  module _ (two after : List ℕ) (is : rest ≡ two ++ after) (count : length two ≡ 2) where
    in_front : bytes_of rest ≡ prepend (pair_of (get_or two 0 0) (get_or two 1 0)) (bytes_of after)
    unfolding bytes_of
    in_front = ap bytes_of is ∙ by two count
      where
        by : (r : List ℕ) → length r ≡ 2 → bytes_of (r ++ after) ≡ prepend (pair_of (get_or r 0 0) (get_or r 1 0)) (bytes_of after)
        by [] e = absurd (omega arith)
        by (x ∷ []) e = absurd (omega arith)
        by (x ∷ y ∷ []) e = refl
        by (x ∷ y ∷ z ∷ r) e = absurd (omega arith)

    pub no_pair : pair_of (get_or two 0 0) (get_or two 1 0) ≡ None → count_of (bytes_of word) ≡ None
    no_pair n = none (bytes_of word) (left ∙ ap is_some (in_front ∙ ap (λ (p : Option ℕ). prepend p (bytes_of after)) n))
      where
        none : (b : Option (List ℕ)) → is_some b ≡ false → count_of b ≡ None
        none None e = refl
        none (Some bytes) e = cc

    pub a_pair : (b : ℕ) → pair_of (get_or two 0 0) (get_or two 1 0) ≡ Some b → is_some (bytes_of word) ≡ is_some (bytes_of after)
    a_pair b e = left ∙ ap is_some (in_front ∙ ap (λ (p : Option ℕ). prepend p (bytes_of after)) e) ∙ same (bytes_of after)
      where
        same : (o : Option (List ℕ)) → is_some (prepend (Some b) o) ≡ is_some o
        same None = refl
        same (Some bytes) = refl

    pub still_even : length rest % 2 ≡ 0 → length after % 2 ≡ 0
    still_even h = omega (arith, simp length-append at (ap length is))

-- Storing: the bytes that a word says, and the pair that says one of them.
abbrev pub values : List ℕ → List ℕ
values word = unwrap_or (bytes_of word) []

pub pair_at : (word : List ℕ) (k : ℕ) → is_some (bytes_of word) ≡ true → k < length (values word) →
    pair_of (get_or word (k * 2) 0) (get_or word (k * 2 + 1) 0) ≡ Some (get_or (values word) k 0)
unfolding bytes_of
pair_at [] k h l = absurd (omega arith)
pair_at (x ∷ []) k h l = absurd (omega arith)
pair_at (x ∷ y ∷ rest) k h l = by (pair_at rest) (pair_of x y) refl (bytes_of rest) refl k h l
  where
    by : ((k : ℕ) → is_some (bytes_of rest) ≡ true → k < length (values rest) → pair_of (get_or rest (k * 2) 0) (get_or rest (k * 2 + 1) 0) ≡ Some (get_or (values rest) k 0)) →
        (p : Option ℕ) → pair_of x y ≡ p → (o : Option (List ℕ)) → bytes_of rest ≡ o → (k : ℕ) → is_some (prepend p o) ≡ true →
        k < length (unwrap_or (prepend p o) []) →
        pair_of (get_or (x ∷ y ∷ rest) (k * 2) 0) (get_or (x ∷ y ∷ rest) (k * 2 + 1) 0) ≡ Some (get_or (unwrap_or (prepend p o) []) k 0)
    by f None e o d k h l = cc
    by f (Some b) e None d k h l = cc
    by f (Some b) e (Some bytes) d zero h l = e
    by f (Some b) e (Some bytes) d (suc k) h l =
        let m : suc k * 2 ≡ suc (suc (k * 2)) = omega arith in
        let n : suc (suc (k * 2)) + 1 ≡ suc (suc (k * 2 + 1)) = omega arith in
        let i : is_some (bytes_of rest) ≡ true = ap is_some d in
        let v : values rest ≡ bytes = ap (λ (o : Option (List ℕ)). unwrap_or o []) d in
        rw (m, n) (rw v at (f k i (rw v (omega arith))))

-- there is room for all: they are bytes, half as many as digits
pub room_says : (o : Option (List ℕ)) (size : ℕ) → Room o 0 size → is_some o ≡ true
room_says None size r = absurd r
room_says (Some bytes) size r = refl

pub room_holds : (o : Option (List ℕ)) (size : ℕ) → Room o 0 size → length (unwrap_or o []) ≤ size
room_holds None size r = absurd r
room_holds (Some bytes) size r = omega arith

pub length_values : (word : List ℕ) → is_some (bytes_of word) ≡ true → length (values word) ≡ length word / 2
length_values word = by (bytes_of word) (digits word)
  where
    by : (b : Option (List ℕ)) → Digits b (length word) → is_some b ≡ true → length (unwrap_or b []) ≡ length word / 2
    by None d h = cc
    by (Some bytes) d h = omega arith

pub laid_is : (o : Option (List ℕ)) (to : List ℕ) → laid o to ≡ over (unwrap_or o []) to
laid_is None to = sym (over_nil to)
laid_is (Some bytes) to = refl

-- one more is stored
pub one_more : (bytes old : List ℕ) (n b : ℕ) → n < length bytes → n < length old → b ≡ get_or bytes n 0 → set (over (take n bytes) old) n b ≡ over (take (n + 1) bytes) old
one_more bytes old n b h l e =
    let k : length (take n bytes) ≡ n = omega (arith, length-take n bytes) in
    rw (over_push (take n bytes) old n b k l, e, add-one, take-suc bytes n 0 h)
