-- Lists cut at a byte: how many parts there are, and how the first one and the rest are found. Assumes nothing.
use Prim.Native.Nat.{ℕ, zero, suc, ◌+◌, ◌-◌, ◌≤◌, ◌<◌, zero-le, suc-le-suc}
use mathlib.Core.Bool.{Bool, true, false, cond}
use mathlib.Core.List.{List, [], ◌∷◌}
use mathlib.Core.Path.{◌≡◌, refl, ap, ◌∙◌}
use native.Mathlib.Nat.{not-suc-le-zero}
use native.Mathlib.Numerals.{add-one, unary_clauses}
use native.Mathlib.Omega.{arith}
use lib.Dec.{eqb}
use lib.ListN.{length, get_or, take, drop, length-drop, drop_of_length-le}
use lib.Seq.{take_all, drop-length, drop-cons}
use Rattle.std.specs.Prelude.{if◌then◌else◌}
use borrow.Author.Tests.{eq-eqb, ne_eqb}
use Rattle.std.specs.List.{count_by, slice_range}
use Rattle.std.proofs.lemmas.List.Recursion.{is_count_by}
use Rattle.words.specs.Line.{up_to, first_from, onto, cut_at, word_of}

-- a byte goes in front of the first part: there are as many parts, and the others are as they were
pub onto_length : (x : ℕ) (ps : List (List ℕ)) → 0 < length ps → length (onto x ps) ≡ length ps
onto_length x [] h = absurd (not-suc-le-zero h)
onto_length x (p ∷ ps) h = refl

pub onto_later : (x k : ℕ) (ps : List (List ℕ)) → get_or (onto x ps) (suc k) [] ≡ get_or ps (suc k) []
onto_later x k [] = refl
onto_later x k (p ∷ ps) = refl

pub onto_first : (x : ℕ) (ps : List (List ℕ)) → get_or (onto x ps) 0 [] ≡ x ∷ get_or ps 0 []
onto_first x [] = refl
onto_first x (p ∷ ps) = refl

-- there is always a part
pub some_part : (b : ℕ) (xs : List ℕ) → 0 < length (cut_at b xs)
unfolding cut_at
some_part b [] = suc-le-suc zero-le
some_part b (x ∷ xs) = by_test (eqb x b)
  where
    more : (ps : List (List ℕ)) → 0 < length (onto x ps)
    more [] = suc-le-suc zero-le
    more (p ∷ ps) = suc-le-suc zero-le

    by_test : (t : Bool) → 0 < length (if t then [] ∷ cut_at b xs else onto x (cut_at b xs))
    by_test true = suc-le-suc zero-le
    by_test false = more (cut_at b xs)

-- at most all stand before the first
pub up_to_le : (b : ℕ) (xs : List ℕ) → up_to b xs ≤ length xs
unfolding up_to
up_to_le b [] = zero-le
up_to_le b (x ∷ xs) = by_test (eqb x b) (up_to_le b xs)
  where
    by_test : (t : Bool) → up_to b xs ≤ length xs → (if t then 0 else suc (up_to b xs)) ≤ suc (length xs)
    by_test true h = zero-le
    by_test false h = suc-le-suc h

pub find_le : (b from r : ℕ) (xs : List ℕ) → r ≡ first_from b from xs → from ≤ length xs → r ≤ length xs
find_le b from r xs e h = omega (arith, up_to_le b (drop from xs), length-drop from xs)

-- the first part is what stands before the first `b`
pub first_part : (b : ℕ) (xs : List ℕ) → get_or (cut_at b xs) 0 [] ≡ take (up_to b xs) xs
unfolding cut_at up_to
first_part b [] = refl
first_part b (x ∷ xs) = by_test (eqb x b) (first_part b xs)
  where
    by_test : (t : Bool) → get_or (cut_at b xs) 0 [] ≡ take (up_to b xs) xs →
        get_or (if t then [] ∷ cut_at b xs else onto x (cut_at b xs)) 0 [] ≡ take (if t then 0 else suc (up_to b xs)) (x ∷ xs)
    by_test true e = refl
    by_test false e = onto_first x (cut_at b xs) ∙ ap (λ (p : List ℕ). x ∷ p) e

-- there is one part more than there are `b`s
pub length_cut : (b : ℕ) (xs : List ℕ) → length (cut_at b xs) ≡ count_by (λ x. eqb x b) xs + 1
unfolding cut_at
length_cut b xs = omega (arith, some_part b xs, is_count_by (λ ys. length (cut_at b ys) - 1) (λ x. eqb x b) refl step xs)
  where
    step : (y : ℕ) (ys : List ℕ) → length (cut_at b (y ∷ ys)) - 1 ≡ cond (eqb y b) (1 + (length (cut_at b ys) - 1)) (length (cut_at b ys) - 1)
    step y ys = by_test (eqb y b) (cut_at b ys) (some_part b ys)
      where
        by_test : (t : Bool) (ps : List (List ℕ)) → 0 < length ps → length (if t then [] ∷ ps else onto y ps) - 1 ≡ cond t (1 + (length ps - 1)) (length ps - 1)
        by_test true ps h = omega arith
        by_test false ps h = rw onto_length

-- how many stand before the first, from a place that none stands before
module _ (b : ℕ) (xs : List ℕ) (i : ℕ) where
  module _ (h : i < length xs) where
    pub found : get_or xs i 0 ≡ b → up_to b (drop i xs) ≡ 0
    unfolding up_to
    found e = rw (drop-cons xs i 0, eq-eqb _ _ e)

    pub passed : (get_or xs i 0 ≡ b → ⊥) → up_to b (drop i xs) ≡ up_to b (drop (i + 1) xs) + 1
    unfolding up_to
    passed e = rw (add-one i, drop-cons xs i 0, ne_eqb _ _ e) (omega arith)

  pub not_found : length xs ≤ i → up_to b (drop i xs) ≡ 0
  unfolding up_to
  not_found h = rw (drop_of_length-le xs h)

pub ruleset up_to_laws = (found, passed, not_found)

-- from a place on, and from one past the end
pub first_within : (b from : ℕ) (xs rest : List ℕ) → rest ≡ slice_range xs from (length xs) → first_from b from xs ≡ from + up_to b rest
first_within b from xs rest e =
    let h : length (drop from xs) ≤ length xs - from = simp length-drop (omega arith) in
    rw (e, take_all)

pub first_past : (b from : ℕ) (xs : List ℕ) → length xs ≤ from → first_from b from xs ≡ from
unfolding up_to
first_past b from xs h = rw (drop_of_length-le xs h) (omega arith)

-- the word at a place, of what stands from `i` on: one less behind a space, the same behind another byte
module _ (line : List ℕ) (left i : ℕ) where
  module _ (h : i < length line) (z : left ≡ 0 → ⊥) where
    pub space : get_or line i 0 ≡ 32 → word_of (drop i line) left ≡ word_of (drop (i + 1) line) (left - 1)
    unfolding cut_at
    space e = rw (add-one, drop-cons line i 0, eq-eqb _ _ e) (one_less left z)
      where
        one_less : (m : ℕ) → (m ≡ 0 → ⊥) → get_or ([] ∷ cut_at 32 (drop (suc i) line)) m [] ≡ get_or (cut_at 32 (drop (suc i) line)) (m - 1) []
        one_less zero z = absurd (z refl)
        one_less (suc m) z = simp unary_clauses

    pub no_space : (get_or line i 0 ≡ 32 → ⊥) → word_of (drop i line) left ≡ word_of (drop (i + 1) line) left
    unfolding cut_at
    no_space e = rw (add-one, drop-cons line i 0, ne_eqb _ _ e) (later left z)
      where
        later : (m : ℕ) → (m ≡ 0 → ⊥) → get_or (onto (get_or line i 0) (cut_at 32 (drop (suc i) line))) m [] ≡ get_or (cut_at 32 (drop (suc i) line)) m []
        later zero z = absurd (z refl)
        later (suc m) z = onto_later (get_or line i 0) m (cut_at 32 (drop (suc i) line))

  pub none_left : length line ≤ i → word_of (drop i line) left ≡ word_of (drop (length line) line) 0
  unfolding cut_at
  none_left h = rw (drop_of_length-le line h, drop-length line) (empty left)
    where
      empty : (m : ℕ) → get_or (cut_at 32 []) m [] ≡ []
      empty zero = refl
      empty (suc m) = refl

pub ruleset start_laws = (space, no_space, none_left)

-- the word is the first one of what stands where it starts
pub the_word : (line : List ℕ) (k from to : ℕ) → word_of line k ≡ word_of (drop from line) 0 → to ≡ first_from 32 from line →
    take (to - from) (drop from line) ≡ word_of line k
the_word line k from to w e =
    let f : to - from ≡ up_to 32 (drop from line) = omega arith in
    rw (w, first_part, f)
