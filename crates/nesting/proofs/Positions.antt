-- The positions of a list, those values of a list that pass a test, and a list with some values left out: three words of `OneNumber`, and their
-- laws. Assumes nothing.
use Prim.Native.Nat.{ℕ, zero, suc, ◌+◌, ◌*◌}
use mathlib.Core.Bool.{Bool, true, false, true≢false}
use mathlib.Core.List.{List, [], ◌∷◌, ◌++◌, map}
use mathlib.Core.Path.{◌≡◌, refl, sym, ap, ap₂, fun_ext, ◌∙◌}
use native.Mathlib.Omega.{arith}
use lib.IntN.{ℤ, pos}
use lib.ListN.{length, get_or}
use Rattle.std.specs.Prelude.{if◌then◌else◌}
use Rattle.point.specs.Points.{points, count, point_at}
use Rattle.point.specs.declared.PointI32.{PointI32}
use Rattle.point.proofs.Flat.{length_points}
use Rattle.reduce.specs.Kept.{select}
use Rattle.reduce.specs.Zoom.{mark}
use Rattle.reduce.proofs.Select.{selected, unselected}

-- ---- the words

-- n positions, one after the other, from k on
abbrev pub positions : ℕ → ℕ → List ℕ
positions k zero = []
positions k (suc n) = k ∷ positions (suc k) n

-- those values of a list that pass a test, in order
abbrev pub those : {A : Type 0} → (A → Bool) → List A → List A
those test [] = []
those test (x ∷ xs) = if test x then (x ∷ those test xs) else those test xs

-- the first list is the second with some of its values left out, in the same order
pub data Thinned {A : Type 0} : List A → List A → Type 0 where
  nothing : Thinned [] []
  both : {x : A} {xs ys : List A} → Thinned xs ys → Thinned (x ∷ xs) (x ∷ ys)
  left_out : {y : A} {xs ys : List A} → Thinned xs ys → Thinned xs (y ∷ ys)

-- ---- laws of positions

module _ {A : Type 0} (f : ℕ → A) where
  shifted : (k n : ℕ) → map f (positions (suc k) n) ≡ map (λ j. f (suc j)) (positions k n)
  shifted k zero = refl
  shifted k (suc n) = ap (λ (l : List A). f (suc k) ∷ l) (shifted (suc k) n)

-- a list, value by value: also where more follows it
pub front : {A : Type 0} (xs rest : List A) (d : A) → map (λ k. get_or (xs ++ rest) k d) (positions 0 (length xs)) ≡ xs
front [] rest d = refl
front {A} (x ∷ xs) rest d = ap (λ (l : List A). x ∷ l) (shifted (λ k. get_or (x ∷ (xs ++ rest)) k d) 0 (length xs) ∙ front xs rest d)

next_point : (x y : ℤ) (list : List ℤ) (k : ℕ) → point_at (x ∷ y ∷ list) (suc k) ≡ point_at list k
next_point x y list k =
    let e : suc k * 2 ≡ suc (suc (k * 2)) = omega arith in
    let f : suc k * 2 + 1 ≡ suc (suc (k * 2 + 1)) = omega arith in
    ap₂ (λ (m n : ℕ). record { x = get_or (x ∷ y ∷ list) m (pos 0); y = get_or (x ∷ y ∷ list) n (pos 0) }) e f

all_points : (list : List ℤ) → map (point_at list) (positions 0 (length (points list))) ≡ points list
unfolding points
all_points [] = refl
all_points (x ∷ []) = refl
all_points (x ∷ y ∷ list) =
    ap (λ (l : List PointI32). record { x = x; y = y } ∷ l)
    (shifted (point_at (x ∷ y ∷ list)) 0 (length (points list))
    ∙ ap (λ (f : ℕ → PointI32). map f (positions 0 (length (points list)))) (fun_ext (next_point x y list))
    ∙ all_points list)

pub by_position : (list : List ℤ) → points list ≡ map (point_at list) (positions 0 (count list))
by_position list = sym (all_points list) ∙ ap (λ (n : ℕ). map (point_at list) (positions 0 n)) (length_points list)

pub last_position : (k n : ℕ) → positions k (suc n) ≡ positions k n ++ ((k + n) ∷ [])
last_position k zero = let e : k ≡ k + 0 = omega arith in ap (λ (j : ℕ). j ∷ []) e
last_position k (suc n) = let e : suc k + n ≡ k + suc n = omega arith in ap (λ (l : List ℕ). k ∷ l) (last_position (suc k) n ∙ ap (λ (j : ℕ). positions (suc k) n ++ (j ∷ [])) e)

-- ---- laws of those that pass a test

module _ (test : ℕ → Bool) where
  pub those_append : (xs ys : List ℕ) → those test (xs ++ ys) ≡ those test xs ++ those test ys
  those_append [] ys = refl
  those_append (x ∷ xs) ys = go (test x) (those_append xs ys)
    where
      go : (b : Bool) → those test (xs ++ ys) ≡ those test xs ++ those test ys →
          (if b then (x ∷ those test (xs ++ ys)) else those test (xs ++ ys)) ≡ (if b then (x ∷ those test xs) else those test xs) ++ those test ys
      go true e = ap (λ (l : List ℕ). x ∷ l) e
      go false e = e

  -- the points that marks select: those whose mark is 1
  pub selects : (f : ℕ → PointI32) (ks : List ℕ) → select (map (λ k. mark (test k)) ks) (map f ks) ≡ map f (those test ks)
  selects f [] = unfold select in refl
  selects f (k ∷ ks) = go (test k) (selects f ks)
    where
      go : (b : Bool) → select (map (λ k. mark (test k)) ks) (map f ks) ≡ map f (those test ks) →
          select (mark b ∷ map (λ k. mark (test k)) ks) (f k ∷ map f ks) ≡ map f (if b then (k ∷ those test ks) else those test ks)
      go true e = selected 1 (map (λ k. mark (test k)) ks) (f k) (map f ks) refl ∙ ap (λ (l : List PointI32). f k ∷ l) e
      go false e = unselected 0 (map (λ k. mark (test k)) ks) (f k) (map f ks) refl ∙ e

-- those that pass a test are among those that pass a wider one
pub narrowed : {A : Type 0} (f : ℕ → A) (narrow wide : ℕ → Bool) → ((k : ℕ) → narrow k ≡ true → wide k ≡ true) →
    (ks : List ℕ) → Thinned (map f (those narrow ks)) (map f (those wide ks))
narrowed f narrow wide implies [] = nothing
narrowed f narrow wide implies (k ∷ ks) = go (narrow k) (wide k) (implies k) (narrowed f narrow wide implies ks)
  where
    go : (a b : Bool) → (a ≡ true → b ≡ true) → Thinned (map f (those narrow ks)) (map f (those wide ks)) →
        Thinned (map f (if a then (k ∷ those narrow ks) else those narrow ks)) (map f (if b then (k ∷ those wide ks) else those wide ks))
    go true true h r = both r
    go true false h r = absurd (true≢false (sym (h refl)))
    go false true h r = left_out r
    go false false h r = r
