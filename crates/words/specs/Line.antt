-- A list of bytes, cut at each byte of one kind: a line's words at its spaces.
use Rattle.std.specs.Prelude.{ℕ, suc, ◌+◌, List, [], ◌∷◌, eqb, get_or, drop, if◌then◌else◌}

-- how many stand before the first `b`; all, where there is none
unfoldable pub up_to : ℕ → List ℕ → ℕ
up_to b [] = 0
up_to b (x ∷ xs) = if eqb x b then 0 else suc (up_to b xs)

-- the place of the first `b` from a place on; the end, where there is none
abbrev pub first_from : ℕ → ℕ → List ℕ → ℕ
first_from b from xs = from + up_to b (drop from xs)

-- a byte in front of the first part
abbrev pub onto : ℕ → List (List ℕ) → List (List ℕ)
onto x [] = (x ∷ []) ∷ []
onto x (p ∷ ps) = (x ∷ p) ∷ ps

-- the parts between the `b`s, without them: one more than there are `b`s, and any of them may be empty
unfoldable pub cut_at : ℕ → List ℕ → List (List ℕ)
cut_at b [] = [] ∷ []
cut_at b (x ∷ xs) = if eqb x b then [] ∷ cut_at b xs else onto x (cut_at b xs)

-- the words of a line are what its spaces part
abbrev pub words_of : List ℕ → List (List ℕ)
words_of line = cut_at 32 line

-- the word at place `k`, from 0; empty where there is none
abbrev pub word_of : List ℕ → ℕ → List ℕ
word_of line k = get_or (words_of line) k []
