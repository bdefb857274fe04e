-- A loop that writes some points of a list, one after the other, to the start of a buffer: `Left` says that what is still to be written
-- completes the whole. It begins with the whole, each store takes a point off, and where nothing is left the whole is written. Assumes nothing.
use Prim.Native.Nat.{ℕ, suc, ◌+◌, ◌*◌, ◌<◌, ◌≤◌}
use mathlib.Core.List.{List, [], ◌∷◌, ◌++◌}
use mathlib.Core.Path.{◌≡◌, refl, sym, ap, subst, ◌∙◌}
use native.Mathlib.Numerals.{add-one}
use native.Mathlib.Omega.{arith}
use lib.IntN.{ℤ}
use lib.ListN.{length, drop, set, length-set, take-append-drop}
use lib.Seq.{take-suc-set, drop-set-lt, drop-drop, append_snoc}
use Rattle.laws.specs.Lists.{over}
use Rattle.point.specs.Points.{flat}
use Rattle.point.specs.declared.PointI32.{PointI32}
use Rattle.point.specs.inside.Written.{onto, Handed, Left}

-- ---- a value, and a point, put down before the rest is

module _ {A : Type 0} (n : ℕ) (x : A) (xs old : List A) where
  onto_one : n < length old → onto (n + 1) xs (set old n x) ≡ onto n (x ∷ xs) old
  unfolding onto
  onto_one h =
      let e : suc n + length xs ≡ n + length (x ∷ xs) = omega arith in
      let k : n < suc n = omega arith in
      rw (
        add-one,
        take-suc-set old n x h,
        drop-set-lt (suc n) old n x k,
        append_snoc,
        drop-drop (length xs) (suc n) old,
        drop-drop (length (x ∷ xs)) n old,
        e,
      )

pub onto_two : {A : Type 0} (n : ℕ) (x y : A) (xs old : List A) → n + 1 < length old →
    onto (n + 2) xs (set (set old n x) (n + 1) y) ≡ onto n (x ∷ y ∷ xs) old
onto_two n x y xs old h =
    let e : n + 2 ≡ n + 1 + 1 = omega arith in
    let k : n + 1 < length (set old n x) = rw (length-set old n x) h in
    ap (λ (m : ℕ). onto m xs (set (set old n x) (n + 1) y)) e
    ∙ onto_one (n + 1) y xs (set old n x) k
    ∙ onto_one n x (y ∷ xs) old (omega arith)

pub onto_nil : {A : Type 0} (n : ℕ) (old : List A) → onto n [] old ≡ old
unfolding onto
onto_nil n old = take-append-drop n old

-- ---- how `Left` begins, goes on and ends

pub begun : (whole : List PointI32) (old : List ℤ) → length whole * 2 ≤ length old → Left whole old 0 whole old
unfolding onto
begun whole old h = record { fits = h; long = refl; number = omega arith; result = refl }

module _ {whole : List PointI32} {old : List ℤ} {kept : ℕ} {out : List ℤ} where
  -- a point is passed over: the rest is the same list
  pub passed : {rest rest' : List PointI32} → Left whole old kept rest out → rest ≡ rest' → Left whole old kept rest' out
  passed l e = subst (λ ps. Left whole old kept ps out) e l

  -- there is a place for the next point
  pub room : {p : PointI32} {rest : List PointI32} → Left whole old kept (p ∷ rest) out → kept * 2 + 1 < length out
  room {p} {rest} l = omega (arith, l.fits, l.long, l.number)

  -- it is written
  pub taken : {p : PointI32} {rest : List PointI32} → Left whole old kept (p ∷ rest) out →
      Left whole old (kept + 1) rest (set (set out (kept * 2) p.x) (kept * 2 + 1) p.y)
  unfolding flat
  taken {p} {rest} l =
      let e : (kept + 1) * 2 ≡ kept * 2 + 2 = omega arith in
      record {
        fits = l.fits;
        long = length-set (set out (kept * 2) p.x) (kept * 2 + 1) p.y ∙ length-set out (kept * 2) p.x ∙ l.long;
        number = omega (arith, l.number);
        result = ap (λ (n : ℕ). onto n (flat rest) (set (set out (kept * 2) p.x) (kept * 2 + 1) p.y)) e
            ∙ onto_two (kept * 2) p.x p.y (flat rest) out (room l)
            ∙ l.result;
      }

  -- the rest has room, and is written at once
  pub rest_fits : {rest : List PointI32} → Left whole old kept rest out → (kept + length rest) * 2 ≤ length out
  rest_fits {rest} l = omega (arith, l.fits, l.long, l.number)

  pub completed : {rest : List PointI32} {n : ℕ} {last : List ℤ} → Left whole old kept rest out → n ≡ kept + length rest →
      last ≡ onto (kept * 2) (flat rest) out → Handed whole old n last
  completed l e f = record { counted = e ∙ l.number; written = f ∙ l.result }

  -- nothing is left
  pub ended : Left whole old kept [] out → Handed whole old kept out
  unfolding flat
  ended l = completed l (omega arith) (sym (onto_nil (kept * 2) out))

-- ---- one point, written twice

pub put_twice : (p : PointI32) (old once twice : List ℤ) → 4 ≤ length old → once ≡ set (set old 0 p.x) 1 p.y → twice ≡ set (set once 2 p.x) 3 p.y →
    Handed (p ∷ p ∷ []) old 2 twice
put_twice p old once twice h f g = rw (g, f) (ended (taken (taken (begun (p ∷ p ∷ []) old h))))

-- ---- a loop that begins once the first point is written, and so takes the buffer for old as it is then

module _ (p : PointI32) (rest : List PointI32) (old : List ℤ) where
  abbrev one_put : List ℤ
  one_put = set (set old 0 p.x) 1 p.y

  same_over : over (flat (p ∷ rest)) one_put ≡ over (flat (p ∷ rest)) old
  unfolding over flat
  same_over =
      let n = suc (suc (length (flat rest))) in
      let e : drop n one_put ≡ drop n old = drop-set-lt n (set old 0 p.x) 1 p.y (omega arith) ∙ drop-set-lt n old 0 p.x (omega arith) in
      ap (λ (l : List ℤ). p.x ∷ p.y ∷ (flat rest ++ l)) e

  pub begun_with : suc (length rest) * 2 ≤ length old → Left (p ∷ rest) one_put 1 rest one_put
  begun_with h =
      let long : length one_put ≡ length old = length-set (set old 0 p.x) 1 p.y ∙ length-set old 0 p.x in
      record { fits = rw long h; long = refl; number = omega arith; result = (taken (begun (p ∷ rest) old h)).result ∙ sym same_over }

  pub from_before : {n : ℕ} {last : List ℤ} → Handed (p ∷ rest) one_put n last → Handed (p ∷ rest) old n last
  from_before h = record { counted = h.counted; written = h.written ∙ same_over }
