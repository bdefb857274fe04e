-- Request 2/13, "Pegs entered twice": what the corner rule says where surveyors tap a peg twice. Assumes nothing.
--
--     as_before          On a list without two equal neighbours every flag is that of the rule before the request.
--
-- Tapping any peg once more changes no flag, and adds one:
--     tapped_once_more   that of its twin, for every peg of a closed list that is looked at, and every inner one of an open list,
--     closing_tapped     that of the first, for the peg that closes a list,
--     first_tapped       and 0 for an end of an open list: it stays flagged, and its twin, which is then inside, is no corner,
--     last_tapped        as on one side of it no point differs;
--     only_tapped        but of one peg, tapped twice, both are ends.
--
--     none_of_equal      A closed list of equal points has no flag set.
use Prim.Native.Nat.{ℕ, suc, ◌-◌, ◌<◌, ◌≤◌}
use mathlib.Core.Bool.{Bool, true, false}
use mathlib.Core.List.{List, [], ◌∷◌, ◌++◌}
use mathlib.Core.Path.{◌≡◌, refl, sym, ap, ap₂, ◌∙◌}
use native.Mathlib.Omega.{arith}
use lib.IntN.{ℤ}
use lib.ListN.{length, take, drop, get_or, replicate, length-drop, length-replicate}
use lib.Seq.{split_at, append_snoc, take_all, length-take-le}
use Rattle.point.specs.declared.PointI32.{PointI32}
use Rattle.point.specs.Points.{count, seen}
use Rattle.point.proofs.Room.{seen_few}
use Rattle.corners.specs.declared.Pair.{Pair}
use Rattle.corners.specs.Corners.{is_corner, flag, flags_of, corners, corners_of}
use Rattle.corners.specs.Neighbours.{neighbours_of, NoTwins, tapped}
use Rattle.corners.proofs.Distinct.{as_neighbours, flag_by_flag}
use Rattle.corners.proofs.Doubled.{doubled, same_flags}
use Rattle.corners.proofs.Others.{origin}
use Rattle.corners.proofs.Tapped.{twin_flags, tapped_split, length_tapped, take_tapped, one_more_seen}
use Rattle.corners.proofs.Tapped.{around, closing_as_first, first_as_it_was, last_unseen}
use Rattle.corners.proofs.Tapped.{none_before_it, alone, last_two, no_flags, take_replicate}

pub as_before : (list : List ℤ) (pair : Pair) (closed : Bool) → NoTwins list closed → corners_of list pair closed ≡ neighbours_of list pair closed
as_before list pair closed n =
    flag_by_flag list pair closed (λ i h. as_neighbours list closed (seen (count list) closed) refl n.inside n.around i h pair)

-- ---- a peg that is tapped once more

pub tapped_once_more : (pair : Pair) (closed : Bool) (pegs : List PointI32) (k : ℕ) → k < seen (length pegs) closed →
    (closed ≡ false → (0 < k) × (suc k < length pegs)) → corners pair closed (tapped k pegs) ≡ tapped k (corners pair closed pegs)
unfolding corners
tapped_once_more pair closed pegs k h inner =
    let m = seen (length pegs) closed in
    let looked = take m pegs in
    let few : m ≤ length pegs = seen_few closed m (length pegs) refl in
    let long : length looked ≡ m = length-take-le m pegs few in
    let within : k < length looked = rw long h in
    let xs = take k looked in
    let ys = drop (suc k) looked in
    let front : length xs ≡ k = length-take-le k looked (omega arith) in
    ap (λ (n : ℕ). flags_of pair closed [] (take (seen n closed) (tapped k pegs))) (length_tapped k pegs (omega arith))
    ∙ ap (λ (n : ℕ). flags_of pair closed [] (take n (tapped k pegs))) (one_more_seen (length pegs) closed (omega arith))
    ∙ ap (flags_of pair closed []) (take_tapped k m pegs h ∙ tapped_split k looked within)
    ∙ twin_flags pair closed (get_or looked k origin) ys (λ c. omega (arith, (inner c).1, length-drop (suc k) looked, long, all_seen c)) []
    xs (λ c. omega (arith, (inner c).0, front))
    ∙ ap₂ (λ (n : ℕ) (l : List PointI32). tapped n (flags_of pair closed [] l)) front (sym (split_at looked k origin within))
  where
    all_seen : closed ≡ false → seen (length pegs) closed ≡ length pegs
    all_seen c = ap (seen (length pegs)) c

pub closing_tapped : (pair : Pair) (p : PointI32) (pegs : List PointI32) →
    corners pair true (p ∷ pegs ++ p ∷ p ∷ []) ≡ corners pair true (p ∷ pegs ++ p ∷ []) ++ take 1 (corners pair true (p ∷ pegs ++ p ∷ []))
unfolding flags_of
closing_tapped pair p pegs =
    ap (corners pair true) (sym (append_snoc (p ∷ pegs) p (p ∷ [])))
    ∙ last_unseen pair p (p ∷ pegs ++ p ∷ []) p
    ∙ ap₂ (λ (f : ℕ) (l : List ℕ). f ∷ l) (ap flag (first_as_it_was pair p pegs))
    (around pair p [] pegs ∙ ap (λ (t : Bool). flags_of pair true (p ∷ []) pegs ++ (flag t ∷ [])) (closing_as_first pair p pegs))
    ∙ ap (λ (l : List ℕ). l ++ take 1 l) (sym (last_unseen pair p (p ∷ pegs) p))

pub first_tapped : (pair : Pair) (p q : PointI32) (pegs : List PointI32) →
    corners pair false (p ∷ p ∷ q ∷ pegs) ≡ 1 ∷ 0 ∷ drop 1 (corners pair false (p ∷ q ∷ pegs))
unfolding corners flags_of is_corner
first_tapped pair p q pegs =
    ap (flags_of pair false []) (take_all (length (p ∷ p ∷ q ∷ pegs)) (p ∷ p ∷ q ∷ pegs) (omega arith))
    ∙ ap₂ (λ (t : Bool) (l : List ℕ). 1 ∷ flag t ∷ l) (none_before_it pair p (p ∷ []) q pegs (alone pair p (q ∷ pegs)) (omega arith))
    (sym (same_flags pair false (doubled [] p []) (q ∷ pegs)))
    ∙ ap (λ (l : List PointI32). 1 ∷ 0 ∷ drop 1 (flags_of pair false [] l)) (sym (take_all (length (p ∷ q ∷ pegs)) (p ∷ q ∷ pegs) (omega arith)))

pub only_tapped : (pair : Pair) (p : PointI32) → corners pair false (p ∷ p ∷ []) ≡ 1 ∷ 1 ∷ []
unfolding corners
only_tapped pair p = refl

pub last_tapped : (pair : Pair) (p : PointI32) (pegs : List PointI32) → 0 < length pegs →
    corners pair false (pegs ++ p ∷ p ∷ []) ≡ take (length pegs) (corners pair false (pegs ++ p ∷ [])) ++ 0 ∷ 1 ∷ []
unfolding corners
last_tapped pair p pegs h =
    ap (flags_of pair false []) (take_all (length (pegs ++ p ∷ p ∷ [])) (pegs ++ p ∷ p ∷ []) (omega arith))
    ∙ last_two pair p [] pegs (omega arith)
    ∙ ap (λ (l : List PointI32). take (length pegs) (flags_of pair false [] l) ++ 0 ∷ 1 ∷ []) (sym (take_all (length (pegs ++ p ∷ [])) (pegs ++ p ∷ []) (omega arith)))

-- ---- equal points

pub none_of_equal : (pair : Pair) (p : PointI32) (n : ℕ) → corners pair true (replicate n p) ≡ replicate (n - 1) 0
unfolding corners
none_of_equal pair p n =
    ap (λ (j : ℕ). flags_of pair true [] (take (j - 1) (replicate n p))) (length-replicate n p)
    ∙ ap (flags_of pair true []) (take_replicate pair p (n - 1) n (omega arith))
    ∙ no_flags pair p 0 (n - 1)
