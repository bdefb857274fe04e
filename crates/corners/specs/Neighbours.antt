-- The corner rule before document 02's request 2/13, and what else its theorems (proofs/EnteredTwice) speak of. By that rule a point turned from
-- the neighbour before it to the neighbour behind it, also where they were equal to it. No call answers by it any more.
use Rattle.std.specs.Prelude.{ℕ, zero, suc, ◌-◌, ◌<◌, Bool, true, not, ◌&&◌, ◌||◌, List, [], ◌∷◌, ◌++◌, ◌≡◌, eqb, ℤ, take, drop, if◌then◌else◌}
use Rattle.point.specs.declared.PointI32.{PointI32}
use Rattle.point.specs.Points.{count, seen, point_at}
use Rattle.corners.specs.declared.Pair.{Pair}
use Rattle.corners.specs.Corners.{vector, sharp, flag}

-- ---- the vectors into and out of the point at a position, of m points that are looked at: from the one before it and to the one
-- behind it, past the ends from the last and to the first

abbrev pub before : ℕ → ℕ → ℕ
before m i = if eqb i 0 then m - 1 else i - 1

abbrev pub behind : ℕ → ℕ → ℕ
behind m i = if eqb (suc i) m then 0 else suc i

unfoldable pub into : List ℤ → ℕ → ℕ → PointI32
into list m i = vector (point_at list (before m i)) (point_at list i)

unfoldable pub out_of : List ℤ → ℕ → ℕ → PointI32
out_of list m i = vector (point_at list i) (point_at list (behind m i))

-- ---- flags

-- "open lists flag both ends"
abbrev pub is_end_at : ℕ → ℕ → Bool
is_end_at m i = eqb i 0 || eqb (suc i) m

-- the point at a position of m is a corner: an end of an open list, or a turn that is sharp enough
unfoldable pub is_corner_at : List ℤ → Pair → Bool → ℕ → ℕ → Bool
unfolding sharp into out_of
is_corner_at list pair closed m i = (not closed && is_end_at m i) || sharp pair (into list m i) (out_of list m i)

-- the flags of the n points from i on, of m
unfoldable pub flags_from : List ℤ → Pair → Bool → ℕ → ℕ → ℕ → List ℕ
unfolding is_corner_at
flags_from list pair closed m i zero = []
flags_from list pair closed m i (suc n) = flag (is_corner_at list pair closed m i) ∷ flags_from list pair closed m (suc i) n

-- the flags of a list, one for each point that is looked at
unfoldable pub neighbours_of : List ℤ → Pair → Bool → List ℕ
unfolding flags_from
neighbours_of list pair closed = flags_from list pair closed (seen (count list) closed) 0 (seen (count list) closed)

-- ---- lists

-- no point is equal to the next one; nor, on a closed list, the last that is looked at to the first
pub record NoTwins (list : List ℤ) (closed : Bool) : Type 0 where
  pub inside : (k : ℕ) → suc k < seen (count list) closed → point_at list k ≡ point_at list (suc k) → ⊥
  pub around : closed ≡ true → 0 < seen (count list) closed → point_at list (seen (count list) closed - 1) ≡ point_at list 0 → ⊥

-- a list whose element at a position is entered once more, behind itself
abbrev pub tapped : {A : Type 0} → ℕ → List A → List A
tapped k list = take (suc k) list ++ drop k list
