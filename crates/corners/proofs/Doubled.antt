-- A list of points, and the same with one of them entered once more beside itself: what is nearest to a point that differs, and so whether it is
-- a corner, is the same by both. Assumes nothing.
use Prim.Native.Nat.{ℕ}
use mathlib.Core.Bool.{Bool, true, false, not, ◌&&◌, ◌||◌}
use mathlib.Core.List.{List, [], ◌∷◌, ◌++◌, append_assoc, reverse, reverse-cons, reverse-append}
use mathlib.Core.Path.{◌≡◌, refl, sym, ap, ap₂, ◌∙◌}
use native.Mathlib.Omega.{arith}
use lib.Dec.{eqb}
use lib.ListN.{length, length-append}
use lib.Seq.{append_snoc}
use borrow.Author.Tests.{ne_eqb}
use Rattle.std.specs.Prelude.{if◌then◌else◌}
use Rattle.point.specs.declared.PointI32.{PointI32}
use Rattle.point.specs.Points.{same_point}
use Rattle.corners.specs.declared.Pair.{Pair}
use Rattle.corners.specs.Corners.{first_other, nearest, turns, is_corner, flag, flags_of}

pub record Doubled (once twice : List PointI32) : Type 0 where
  pub front : List PointI32
  pub peg : PointI32
  pub rest : List PointI32
  pub is_once : once ≡ front ++ peg ∷ rest
  pub is_twice : twice ≡ front ++ peg ∷ peg ∷ rest

pub doubled : (front : List PointI32) (peg : PointI32) (rest : List PointI32) → Doubled (front ++ peg ∷ rest) (front ++ peg ∷ peg ∷ rest)
doubled front peg rest = record { front = front; peg = peg; rest = rest; is_once = refl; is_twice = refl }

turned_back : (p : PointI32) (xs ys : List PointI32) → reverse (xs ++ p ∷ ys) ≡ reverse ys ++ p ∷ reverse xs
turned_back p xs ys =
    reverse-append xs (p ∷ ys) ∙ ap (λ (l : List PointI32). l ++ reverse xs) (reverse-cons p ys) ∙ append_snoc (reverse ys) p (reverse xs)

-- ---- within a longer list, and the other way round

module _ {once twice : List PointI32} (d : Doubled once twice) where
  pub behind_others : (ps : List PointI32) → Doubled (ps ++ once) (ps ++ twice)
  behind_others ps =
      record {
        front = ps ++ d.front;
        peg = d.peg;
        rest = d.rest;
        is_once = ap (λ (l : List PointI32). ps ++ l) d.is_once ∙ sym (append_assoc ps d.front (d.peg ∷ d.rest));
        is_twice = ap (λ (l : List PointI32). ps ++ l) d.is_twice ∙ sym (append_assoc ps d.front (d.peg ∷ d.peg ∷ d.rest));
      }

  pub before_others : (ps : List PointI32) → Doubled (once ++ ps) (twice ++ ps)
  before_others ps =
      record {
        front = d.front;
        peg = d.peg;
        rest = d.rest ++ ps;
        is_once = ap (λ (l : List PointI32). l ++ ps) d.is_once ∙ append_assoc d.front (d.peg ∷ d.rest) ps;
        is_twice = ap (λ (l : List PointI32). l ++ ps) d.is_twice ∙ append_assoc d.front (d.peg ∷ d.peg ∷ d.rest) ps;
      }

  pub backwards : Doubled (reverse once) (reverse twice)
  backwards =
      record {
        front = reverse d.rest;
        peg = d.peg;
        rest = reverse d.front;
        is_once = ap reverse d.is_once ∙ turned_back d.peg d.front d.rest;
        is_twice =
            ap reverse d.is_twice
            ∙ turned_back d.peg d.front (d.peg ∷ d.rest)
            ∙ ap (λ (l : List PointI32). l ++ d.peg ∷ reverse d.front) (reverse-cons d.peg d.rest)
            ∙ append_snoc (reverse d.rest) d.peg (d.peg ∷ reverse d.front);
      }

-- ---- what is nearest

first_of_both : (p q : PointI32) (xs ys : List PointI32) → first_other p (xs ++ q ∷ ys) ≡ first_other p (xs ++ q ∷ q ∷ ys)
unfolding first_other
first_of_both p q [] ys = go (same_point p q)
  where
    go : (t : Bool) → (if t then first_other p ys else q) ≡ (if t then (if t then first_other p ys else q) else q)
    go true = refl
    go false = refl
first_of_both p q (x ∷ xs) ys = ap (λ (r : PointI32). if same_point p x then r else x) (first_of_both p q xs ys)

pub same_first : {once twice : List PointI32} → Doubled once twice → (p : PointI32) → first_other p once ≡ first_other p twice
same_first d p = ap (first_other p) d.is_once ∙ first_of_both p d.peg d.front d.rest ∙ ap (first_other p) (sym d.is_twice)

module _ {once twice : List PointI32} (d : Doubled once twice) (p : PointI32) where
  same_near : (closed : Bool) (other : List PointI32) → nearest closed p once other ≡ nearest closed p twice other
  unfolding nearest
  same_near closed other = same_first (before_others d (if closed then reverse other else [])) p

  same_far : (closed : Bool) (side : List PointI32) → nearest closed p side once ≡ nearest closed p side twice
  unfolding nearest
  same_far true side = same_first (behind_others (backwards d) side) p
  same_far false side = refl

-- ---- whether it is a corner

not_empty : (xs : List PointI32) (p : PointI32) (ys : List PointI32) → eqb (length (xs ++ p ∷ ys)) 0 ≡ false
not_empty xs p ys = ne_eqb (length (xs ++ p ∷ ys)) 0 (λ e. omega (arith, length-append xs (p ∷ ys)))

both_some : {once twice : List PointI32} → Doubled once twice → eqb (length once) 0 ≡ eqb (length twice) 0
both_some d =
    ap (λ (l : List PointI32). eqb (length l) 0) d.is_once
    ∙ not_empty d.front d.peg d.rest
    ∙ sym (ap (λ (l : List PointI32). eqb (length l) 0) d.is_twice ∙ not_empty d.front d.peg (d.peg ∷ d.rest))

module _ (pair : Pair) (closed : Bool) {once twice : List PointI32} (d : Doubled once twice) where
  pub same_back : (p : PointI32) (ahead : List PointI32) → is_corner pair closed once p ahead ≡ is_corner pair closed twice p ahead
  unfolding is_corner
  same_back p ahead =
      ap₂ (λ (t u : Bool). (not closed && (t || eqb (length ahead) 0)) || u) (both_some d)
      (ap₂ (λ (a b : PointI32). turns pair a p b) (same_near d p closed ahead) (same_far d p closed ahead))

  pub same_ahead : (p : PointI32) (back : List PointI32) → is_corner pair closed back p once ≡ is_corner pair closed back p twice
  unfolding is_corner
  same_ahead p back =
      ap₂ (λ (t u : Bool). (not closed && (eqb (length back) 0 || t)) || u) (both_some d)
      (ap₂ (λ (a b : PointI32). turns pair a p b) (same_far d p closed back) (same_near d p closed back))

-- points behind it have their flags
pub same_flags : (pair : Pair) (closed : Bool) {once twice : List PointI32} → Doubled once twice → (ps : List PointI32) →
    flags_of pair closed once ps ≡ flags_of pair closed twice ps
unfolding flags_of
same_flags pair closed d [] = refl
same_flags pair closed d (p ∷ ps) =
    ap₂ (λ (t : Bool) (l : List ℕ). flag t ∷ l) (same_back pair closed d p ps) (same_flags pair closed (behind_others d (p ∷ [])) ps)
