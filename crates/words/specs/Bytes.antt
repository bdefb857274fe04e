-- The bytes that a word of hexadecimal digits says, and what a buffer holds once they were to be read to it.
use Rattle.std.specs.Prelude.{ℕ, ◌+◌, ◌*◌, Bool, ◌&&◌, Option, Some, None, List, [], ◌∷◌, leb, eqb, length, get_or, if◌then◌else◌}
use Rattle.laws.specs.Lists.{over}
use Rattle.laws.specs.Outcome.{Outcome}
use Rattle.words.specs.Digits.{digit_of}

-- the byte of two digits, the higher first; none, where one of them is none
abbrev pub byte : Option ℕ → Option ℕ → Option ℕ
byte None low = None
byte (Some h) None = None
byte (Some h) (Some l) = Some (h * 16 + l)

-- the byte that two hexadecimal digits say
unfoldable pub pair_of : ℕ → ℕ → Option ℕ
pair_of x y = byte (digit_of x) (digit_of y)

-- a byte in front of others; none at all, where it or the others are none
abbrev pub prepend : Option ℕ → Option (List ℕ) → Option (List ℕ)
prepend None rest = None
prepend (Some b) None = None
prepend (Some b) (Some bs) = Some (b ∷ bs)

-- a byte for any two digits
unfoldable pub bytes_of : List ℕ → Option (List ℕ)
bytes_of [] = Some []
bytes_of (x ∷ []) = None
bytes_of (x ∷ y ∷ rest) = prepend (pair_of x y) (bytes_of rest)

-- `-` says that there are no values
abbrev pub is_dash : List ℕ → Bool
is_dash w = eqb (length w) 1 && eqb (get_or w 0 0) 45

-- a byte for any two digits of a word that has some; `-` is the word of no bytes
abbrev pub pairs_of : List ℕ → Option (List ℕ)
pairs_of w = if is_dash w then Some [] else if eqb (length w) 0 then None else bytes_of w

-- ---- bytes that are read to a buffer

-- how many were read is the answer
abbrev pub Stored : Type 0
Stored = Outcome (Option ℕ) (List ℕ)

-- all of them at the start of the buffer; where there are none to read, or no room for all, nothing is written
abbrev pub read_into : Option (List ℕ) → List ℕ → Stored
read_into None to = record { answer = None; out = to }
read_into (Some xs) to =
    if leb (length xs) (length to) then record { answer = Some (length xs); out = over xs to } else record { answer = None; out = to }
