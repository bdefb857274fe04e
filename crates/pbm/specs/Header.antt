-- How a picture begins: the magic number, the width and the height, with white space and comments between them. One header for both kinds.
-- Each definition reads a list of bytes from its front and says what is left of it.
use Rattle.std.specs.Prelude.{ℕ, ◌+◌, ◌-◌, ◌*◌, Bool, true, false, not, ◌&&◌, ◌||◌, List, [], ◌∷◌, leb, eqb}
use Rattle.std.proofs.Math.Option.{Option, some, none}
use Rattle.chart.specs.declared.Chart.{Chart}

-- ---- bytes

-- space, TAB, LF, VT, FF or CR
unfoldable pub white : ℕ → Bool
white b = eqb b 32 || (leb 9 b && leb b 13)

-- LF or CR, at which a comment ends
unfoldable pub line_end : ℕ → Bool
line_end b = eqb b 10 || eqb b 13

-- `#`, at which a comment begins
unfoldable pub hash : ℕ → Bool
hash b = eqb b 35

unfoldable pub digit : ℕ → Bool
digit b = leb 48 b && leb b 57

-- a list has a first byte, and it passes a test
abbrev pub begins : (ℕ → Bool) → List ℕ → Bool
begins test [] = false
begins test (b ∷ bs) = test b

-- ---- white space and comments

-- whether a comment is open behind a byte: it goes from `#` to the end of its line
abbrev pub commented : Bool → ℕ → Bool
commented true b = not (line_end b)
commented false b = hash b

-- what is left behind white space and comments, where `comment` says that one is open
unfoldable pub behind : Bool → List ℕ → List ℕ
behind comment [] = []
behind comment (b ∷ bs) = elim (comment || white b || hash b) [ true ↦ behind (commented comment b) bs | false ↦ b ∷ bs ]

-- ---- a size

pub record Number : Type 0 where
  pub value : ℕ
  pub rest : List ℕ

-- digits, as many as there are, behind those that say n
unfoldable pub digits_from : ℕ → List ℕ → Number
digits_from n [] = record { value = n; rest = [] }
digits_from n (b ∷ bs) = elim (digit b) [ true ↦ digits_from (n * 10 + (b - 48)) bs | false ↦ record { value = n; rest = b ∷ bs } ]

-- at least one digit
unfoldable pub number_in : List ℕ → Option Number
unfolding digits_from
number_in bs = elim (begins digit bs) [ true ↦ some (digits_from 0 bs) | false ↦ none ]

-- a size stands behind white space or a comment, at least one of them
unfoldable pub size_in : List ℕ → Option Number
unfolding behind number_in
size_in bs = elim (begins white bs || begins hash bs) [ true ↦ number_in (behind false bs) | false ↦ none ]

-- ---- the header

pub record Header : Type 0 where
  pub plain : Bool
  pub chart : Chart
  pub rest : List ℕ

unfoldable pub sizes_in : Bool → List ℕ → Option Header
unfolding size_in
sizes_in plain bs = elim (size_in bs) [
  | none ↦ none
  | some width ↦ elim (size_in width.rest) [
    | none ↦ none
    | some height ↦ some (record { plain = plain; chart = record { width = width.value; height = height.value }; rest = height.rest })
  ]
]

-- "raw (P4) or plain (P1)": `P` and then `1` or `4`
unfoldable pub header_in : List ℕ → Option Header
unfolding sizes_in
header_in [] = none
header_in (p ∷ []) = none
header_in (p ∷ kind ∷ bs) = elim (eqb p 80) [
  | false ↦ none
  | true ↦ elim (eqb kind 49) [
    | true ↦ sizes_in true bs
    | false ↦ elim (eqb kind 52) [ true ↦ sizes_in false bs | false ↦ none ]
  ]
]

-- ---- what parts the header from the raster: one byte of white space, or one comment with the end of its line

-- what is left behind the end of a line; nothing, where the line does not end
unfoldable pub past_line : List ℕ → List ℕ
past_line [] = []
past_line (b ∷ bs) = elim (line_end b) [ true ↦ bs | false ↦ past_line bs ]

unfoldable pub raster_in : List ℕ → Option (List ℕ)
unfolding past_line
raster_in [] = none
raster_in (b ∷ bs) = elim (white b) [
  | true ↦ some bs
  | false ↦ elim (hash b) [ true ↦ some (past_line bs) | false ↦ none ]
]
