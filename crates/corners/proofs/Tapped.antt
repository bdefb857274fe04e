-- What a peg that is tapped once more does to the flags, part by part: in the middle of a list, at the ends of an open one, at the close of a
-- closed one, and where all are equal. The theorems are in EnteredTwice. Assumes nothing.
use Prim.Native.Nat.{ℕ, zero, suc, ◌+◌, ◌-◌, ◌<◌, ◌≤◌}
use mathlib.Core.Bool.{Bool, true, false, not, ◌&&◌, ◌||◌, or-true}
use mathlib.Core.List.{List, [], ◌∷◌, ◌++◌, append-nil, reverse, reverse-cons, reverse-append, reverse-reverse}
use mathlib.Core.Path.{◌≡◌, refl, sym, ap, ap₂, ◌∙◌}
use native.Mathlib.Omega.{arith}
use lib.Dec.{eqb}
use lib.ListN.{length, take, drop, get_or, replicate, length-append, length-drop}
use lib.Seq.{append_snoc, take-suc, drop-cons, take_at, length-take-le}
use borrow.Author.Tests.{ne_eqb}
use Rattle.point.specs.declared.PointI32.{PointI32}
use Rattle.point.specs.Points.{seen, same_point}
use Rattle.point.proofs.SamePoint.{same_itself}
use Rattle.corners.specs.declared.Pair.{Pair}
use Rattle.corners.specs.Corners.{first_other, nearest, turns, is_end, is_corner, flag, flags_of, corners}
use Rattle.corners.specs.Neighbours.{tapped}
use Rattle.corners.proofs.Doubled.{doubled, same_first, same_ahead, same_flags}
use Rattle.corners.proofs.Judged.{alike_before, alike_behind}
use Rattle.corners.proofs.Others.{origin, passed, passed_last, own_near, own_far}

-- ---- p and its twin, side by side between the same others

module _ (pair : Pair) (closed : Bool) (back : List PointI32) (p : PointI32) (ahead : List PointI32) where
  first_of_two : (closed ≡ false → 0 < length ahead) → is_corner pair closed back p (p ∷ ahead) ≡ is_corner pair closed back p ahead
  unfolding is_corner
  first_of_two more =
      ap₂ (λ (t u : Bool). t || u) (ends closed more)
      (ap₂ (λ (a b : PointI32). turns pair a p b) (own_far p back ahead closed) (own_near p ahead back closed))
    where
      ends : (c : Bool) → (c ≡ false → 0 < length ahead) → (not c && is_end back (p ∷ ahead)) ≡ (not c && is_end back ahead)
      ends true h = refl
      ends false h =
          let l = length ahead in
          ap (λ (t : Bool). eqb (length back) 0 || t)
          (ne_eqb (suc l) 0 (λ e. omega arith) ∙ sym (ne_eqb l 0 (λ e. omega (arith, h refl))))

  second_of_two : (closed ≡ false → 0 < length back) → is_corner pair closed (p ∷ back) p ahead ≡ is_corner pair closed back p ahead
  unfolding is_corner
  second_of_two more =
      ap₂ (λ (t u : Bool). t || u) (ends closed more)
      (ap₂ (λ (a b : PointI32). turns pair a p b) (own_near p back ahead closed) (own_far p ahead back closed))
    where
      ends : (c : Bool) → (c ≡ false → 0 < length back) → (not c && is_end (p ∷ back) ahead) ≡ (not c && is_end back ahead)
      ends true h = refl
      ends false h =
          let l = length back in
          ap (λ (t : Bool). t || eqb (length ahead) 0)
          (ne_eqb (suc l) 0 (λ e. omega arith) ∙ sym (ne_eqb l 0 (λ e. omega (arith, h refl))))

module _ (pair : Pair) (closed : Bool) (p : PointI32) (ys : List PointI32) (behind : closed ≡ false → 0 < length ys) where
  pub twin_flags : (back xs : List PointI32) → (closed ≡ false → 0 < length back + length xs) →
      flags_of pair closed back (xs ++ p ∷ p ∷ ys) ≡ tapped (length xs) (flags_of pair closed back (xs ++ p ∷ ys))
  unfolding flags_of
  twin_flags back [] before =
      ap₂ (λ (f : ℕ) (l : List ℕ). f ∷ l) (ap flag (first_of_two pair closed back p ys behind))
      (ap₂ (λ (f : ℕ) (l : List ℕ). f ∷ l) (ap flag (second_of_two pair closed back p ys (λ c. omega (arith, before c))))
      (sym (same_flags pair closed (doubled [] p back) ys)))
  twin_flags back (x ∷ xs) before =
      ap₂ (λ (f : ℕ) (l : List ℕ). f ∷ l) (ap flag (sym (same_ahead pair closed (doubled xs p ys) x back)))
      (twin_flags (x ∷ back) xs (λ c. omega (arith, before c)))

-- ---- a position of a list

pub tapped_split : (k : ℕ) (pegs : List PointI32) → k < length pegs → tapped k pegs ≡ take k pegs ++ get_or pegs k origin ∷ get_or pegs k origin ∷ drop (suc k) pegs
tapped_split k pegs h =
    ap₂ (λ (l r : List PointI32). l ++ r) (take-suc pegs k origin h) (drop-cons pegs k origin h)
    ∙ append_snoc (take k pegs) (get_or pegs k origin) (get_or pegs k origin ∷ drop (suc k) pegs)

pub length_tapped : (k : ℕ) (pegs : List PointI32) → k < length pegs → length (tapped k pegs) ≡ suc (length pegs)
length_tapped k pegs h =
    let front : length (take (suc k) pegs) ≡ suc k = length-take-le (suc k) pegs h in
    let rest : length (drop k pegs) ≡ length pegs - k = length-drop k pegs in
    omega (arith, length-append (take (suc k) pegs) (drop k pegs))

-- of the points that are looked at one is tapped
pub take_tapped : (k j : ℕ) (pegs : List PointI32) → k < j → take (suc j) (tapped k pegs) ≡ tapped k (take j pegs)
take_tapped k zero pegs h = absurd (omega arith)
take_tapped zero (suc j) [] h = refl
take_tapped (suc k) (suc j) [] h = refl
take_tapped zero (suc j) (p ∷ pegs) h = refl
take_tapped (suc k) (suc j) (p ∷ pegs) h = ap (λ (l : List PointI32). p ∷ l) (take_tapped k j pegs (omega arith))

pub one_more_seen : (n : ℕ) (closed : Bool) → 0 < n → seen (suc n) closed ≡ suc (seen n closed)
one_more_seen n true h = omega arith
one_more_seen n false h = refl

-- ---- the ends of an open list

module _ (pair : Pair) (p : PointI32) where
  -- an inner point with nothing else on a side
  pub none_before_it : (back : List PointI32) (q : PointI32) (ahead : List PointI32) → nearest false p back (q ∷ ahead) ≡ p → 0 < length back →
      is_corner pair false back p (q ∷ ahead) ≡ false
  unfolding is_corner
  none_before_it back q ahead e h =
      ap₂ (λ (t u : Bool). t || u) (ap₂ ◌||◌ (ne_eqb (length back) 0 (λ z. omega arith)) (ne_eqb (suc (length ahead)) 0 (λ z. omega arith)))
      (sym (alike_before pair (nearest false p back (q ∷ ahead)) p (nearest false p (q ∷ ahead) back) (ap (same_point p) e ∙ same_itself p)))

  none_behind_it : (back : List PointI32) (q : PointI32) (ahead : List PointI32) → nearest false p (q ∷ ahead) back ≡ p → 0 < length back →
      is_corner pair false back p (q ∷ ahead) ≡ false
  unfolding is_corner
  none_behind_it back q ahead e h =
      ap₂ (λ (t u : Bool). t || u) (ap₂ ◌||◌ (ne_eqb (length back) 0 (λ z. omega arith)) (ne_eqb (suc (length ahead)) 0 (λ z. omega arith)))
      (no_turn (same_point p (nearest false p back (q ∷ ahead))) refl)
    where
      no_turn : (t : Bool) → same_point p (nearest false p back (q ∷ ahead)) ≡ t →
          turns pair (nearest false p back (q ∷ ahead)) p (nearest false p (q ∷ ahead) back) ≡ false
      no_turn true f = sym (alike_before pair (nearest false p back (q ∷ ahead)) p (nearest false p (q ∷ ahead) back) f)
      no_turn false f =
          sym (alike_behind pair (nearest false p back (q ∷ ahead)) p (nearest false p (q ∷ ahead) back) f (ap (same_point p) e ∙ same_itself p))

  pub alone : (side : List PointI32) → nearest false p (p ∷ []) side ≡ p
  unfolding nearest first_other
  alone side = passed p p [] refl

  pub last_two : (back xs : List PointI32) → 0 < length back + length xs →
      flags_of pair false back (xs ++ p ∷ p ∷ []) ≡ take (length xs) (flags_of pair false back (xs ++ p ∷ [])) ++ 0 ∷ 1 ∷ []
  unfolding flags_of is_corner
  last_two back [] h =
      ap₂ (λ (t u : Bool). flag t ∷ flag (u || turns pair (nearest false p (p ∷ back) []) p (nearest false p [] (p ∷ back))) ∷ [])
      (none_behind_it back p [] (alone back) (omega arith))
      (or-true (eqb (suc (length back)) 0))
  last_two back (x ∷ xs) h =
      ap₂ (λ (f : ℕ) (l : List ℕ). f ∷ l) (ap flag (sym (same_ahead pair false (doubled xs p []) x back))) (last_two (x ∷ back) xs (omega arith))

-- ---- the peg that closes a list

module _ (pair : Pair) (p : PointI32) where
  -- between the first, which is the farthest back, and the one that closes
  within_both : (back : List PointI32) (q : PointI32) (ahead : List PointI32) →
      is_corner pair true (back ++ p ∷ []) q (ahead ++ p ∷ []) ≡ is_corner pair true (back ++ p ∷ []) q ahead
  unfolding is_corner nearest
  within_both back q ahead =
      ap₂ (λ (a b : PointI32). turns pair a q b)
      (ap (λ (l : List PointI32). first_other q ((back ++ p ∷ []) ++ l)) (reverse-append ahead (p ∷ []))
      ∙ ap (first_other q) (append_snoc back p (p ∷ reverse ahead))
      ∙ sym (same_first (doubled back p (reverse ahead)) q)
      ∙ ap (first_other q) (sym (append_snoc back p (reverse ahead))))
      (ap (λ (l : List PointI32). first_other q ((ahead ++ p ∷ []) ++ l)) (reverse-append back (p ∷ []))
      ∙ ap (first_other q) (append_snoc ahead p (p ∷ reverse back))
      ∙ sym (same_first (doubled ahead p (reverse back)) q)
      ∙ ap (λ (l : List PointI32). first_other q (ahead ++ l)) (sym (reverse-append back (p ∷ []))))

  pub around : (back pegs : List PointI32) → flags_of pair true (back ++ p ∷ []) (pegs ++ p ∷ [])
      ≡ flags_of pair true (back ++ p ∷ []) pegs ++ (flag (is_corner pair true (reverse pegs ++ (back ++ p ∷ [])) p []) ∷ [])
  unfolding flags_of
  around back [] = refl
  around back (q ∷ pegs) =
      ap₂ (λ (f : ℕ) (l : List ℕ). f ∷ l) (ap flag (within_both back q pegs))
      (around (q ∷ back) pegs
      ∙ ap (λ (l : List PointI32). flags_of pair true (q ∷ back ++ p ∷ []) pegs ++ (flag (is_corner pair true l p []) ∷ []))
      (sym (append_snoc (reverse pegs) q (back ++ p ∷ [])) ∙ ap (λ (l : List PointI32). l ++ (back ++ p ∷ [])) (sym (reverse-cons q pegs))))

  -- the one that closes, and the first
  pub closing_as_first : (pegs : List PointI32) → is_corner pair true (reverse pegs ++ p ∷ []) p [] ≡ is_corner pair true [] p pegs
  unfolding is_corner nearest
  closing_as_first pegs =
      ap₂ (λ (a b : PointI32). turns pair a p b)
      (ap (first_other p) (append-nil (reverse pegs ++ p ∷ [])) ∙ passed_last p (reverse pegs))
      (ap (first_other p) (reverse-append (reverse pegs) (p ∷ []))
      ∙ passed p p (reverse (reverse pegs)) refl
      ∙ ap (first_other p) (reverse-reverse pegs ∙ sym (append-nil pegs)))

  pub first_as_it_was : (pegs : List PointI32) → is_corner pair true [] p (pegs ++ p ∷ []) ≡ is_corner pair true [] p pegs
  unfolding is_corner nearest
  first_as_it_was pegs =
      ap₂ (λ (a b : PointI32). turns pair a p b)
      (ap (first_other p) (reverse-append pegs (p ∷ [])) ∙ passed p p (reverse pegs) refl)
      (ap (first_other p) (append-nil (pegs ++ p ∷ [])) ∙ passed_last p pegs ∙ ap (first_other p) (sym (append-nil pegs)))

  pub last_unseen : (pegs : List PointI32) (q : PointI32) → corners pair true (pegs ++ q ∷ []) ≡ flags_of pair true [] pegs
  unfolding corners
  last_unseen pegs q =
      let l : length (pegs ++ q ∷ []) ≡ length pegs + 1 = length-append pegs (q ∷ []) in
      ap (flags_of pair true []) (take_at pegs (q ∷ []) (length (pegs ++ q ∷ []) - 1) (omega arith))

-- ---- a closed list of equal points

module _ (pair : Pair) (p : PointI32) where
  itself : (j k : ℕ) → nearest true p (replicate j p) (replicate k p) ≡ p
  unfolding nearest first_other
  itself zero zero = refl
  itself zero (suc k) = own_far p [] (replicate k p) true ∙ itself zero k
  itself (suc j) k = own_near p (replicate j p) (replicate k p) true ∙ itself j k

  pub no_flags : (j k : ℕ) → flags_of pair true (replicate j p) (replicate k p) ≡ replicate k 0
  unfolding flags_of is_corner
  no_flags j zero = refl
  no_flags j (suc k) =
      ap₂ (λ (t : Bool) (l : List ℕ). flag t ∷ l)
      (sym (alike_before pair (nearest true p (replicate j p) (replicate k p)) p (nearest true p (replicate k p) (replicate j p)) (ap (same_point p) (itself j k) ∙ same_itself p)))
      (no_flags (suc j) k)

  pub take_replicate : (j n : ℕ) → j ≤ n → take j (replicate n p) ≡ replicate j p
  take_replicate zero n h = refl
  take_replicate (suc j) zero h = absurd (omega arith)
  take_replicate (suc j) (suc n) h = ap (λ (l : List PointI32). p ∷ l) (take_replicate j n (omega arith))
