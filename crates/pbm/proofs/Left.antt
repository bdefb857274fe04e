-- What is left behind a part of a file is an end of it: nothing but a front of it was passed. So the place where it stands, the file's
-- length less its own, gives it back. Assumes nothing.
use Prim.Native.Nat.{ℕ, ◌+◌, ◌-◌, ◌*◌}
use mathlib.Core.Bool.{Bool, true, false, ◌||◌}
use mathlib.Core.List.{List, [], ◌∷◌, ◌++◌, append_assoc}
use mathlib.Core.Option.{Option, some, none}
use mathlib.Core.Path.{◌≡◌, refl, sym, ap, subst, ◌∙◌}
use native.Mathlib.Omega.{arith}
use lib.Dec.{eqb}
use lib.ListN.{length, take, drop, length-append, take-append-drop}
use lib.Seq.{drop_at}
use Rattle.pbm.specs.Header.{white, hash, digit, line_end, begins, commented, behind, Number, digits_from, number_in, size_in, Header, sizes_in, header_in, past_line, raster_in}

-- `rest` is left of `bytes`, behind some front of it
pub record Left (bytes rest : List ℕ) : Type 0 where
  pub front : List ℕ
  pub whole : front ++ rest ≡ bytes

-- ---- laws on what is left

pub all_left : (bytes : List ℕ) → Left bytes bytes
all_left bytes = record { front = []; whole = refl }

pub one_more : (b : ℕ) {bytes rest : List ℕ} → Left bytes rest → Left (b ∷ bytes) rest
one_more b l = record { front = b ∷ l.front; whole = ap (λ (bs : List ℕ). b ∷ bs) l.whole }

pub left_of_left : {bytes rest last : List ℕ} → Left bytes rest → Left rest last → Left bytes last
left_of_left {last = last} l k = record {
  front = l.front ++ k.front;
  whole = append_assoc l.front k.front last ∙ ap (λ (bs : List ℕ). l.front ++ bs) k.whole ∙ l.whole;
}

same_left : {bytes a b : List ℕ} → a ≡ b → Left bytes a → Left bytes b
same_left {bytes} e l = subst (λ (rest : List ℕ). Left bytes rest) e l

pub drop_left : (k : ℕ) (bytes : List ℕ) → Left bytes (drop k bytes)
drop_left k bytes = record { front = take k bytes; whole = take-append-drop k bytes }

-- it stands at the place that its length says
pub left_place : (bytes rest : List ℕ) → Left bytes rest → drop (length bytes - length rest) bytes ≡ rest
left_place bytes rest l =
    let e : length l.front ≡ length bytes - length rest = omega (arith, length-append l.front rest, ap length l.whole) in
    ap (λ (bs : List ℕ). drop (length bytes - length rest) bs) (sym l.whole) ∙ drop_at l.front rest (length bytes - length rest) e

-- ---- each definition leaves an end of what it read

-- what holds on both sides of a test
either : {A : Type 0} (P : A → Type 0) (t : Bool) {a b : A} → P a → P b → P (elim t [ true ↦ a | false ↦ b ])
either P true l k = l
either P false l k = k

none_is_some : {A : Type 0} (P : Type 0) (a : A) → none ≡ some a → P
none_is_some P a e = let z : ◌≡◌ {A = ℕ} 0 1 = cc in absurd (omega arith)

pub behind_left : (comment : Bool) (bytes : List ℕ) → Left bytes (behind comment bytes)
unfolding behind
behind_left comment [] = all_left []
behind_left comment (b ∷ bs) = either (Left (b ∷ bs)) (comment || white b || hash b) (one_more b (behind_left (commented comment b) bs)) (all_left (b ∷ bs))

pub digits_left : (n : ℕ) (bytes : List ℕ) → Left bytes (digits_from n bytes).rest
unfolding digits_from
digits_left n [] = all_left []
digits_left n (b ∷ bs) =
    either (λ (d : Number). Left (b ∷ bs) d.rest) (digit b) (one_more b (digits_left (n * 10 + (b - 48)) bs)) (all_left (b ∷ bs))

pub number_left : (bytes : List ℕ) (n : Number) → number_in bytes ≡ some n → Left bytes n.rest
unfolding number_in
number_left bytes n = go (begins digit bytes)
  where
    go : (t : Bool) → elim t [ true ↦ some (digits_from 0 bytes) | false ↦ none ] ≡ some n → Left bytes n.rest
    go true e = let same : (digits_from 0 bytes).rest ≡ n.rest = cc in same_left same (digits_left 0 bytes)
    go false e = none_is_some (Left bytes n.rest) n e

pub size_left : (bytes : List ℕ) (n : Number) → size_in bytes ≡ some n → Left bytes n.rest
unfolding size_in
size_left bytes n = go (begins white bytes || begins hash bytes)
  where
    go : (t : Bool) → elim t [ true ↦ number_in (behind false bytes) | false ↦ none ] ≡ some n → Left bytes n.rest
    go true e = left_of_left (behind_left false bytes) (number_left (behind false bytes) n e)
    go false e = none_is_some (Left bytes n.rest) n e

pub sizes_left : (plain : Bool) (bytes : List ℕ) (h : Header) → sizes_in plain bytes ≡ some h → Left bytes h.rest
unfolding sizes_in
sizes_left plain bytes h = width (size_in bytes) refl
  where
    height : (w : Number) → Left bytes w.rest → (o : Option Number) → size_in w.rest ≡ o
        → elim o [ none ↦ none | some n ↦ some (record { plain = plain; chart = record { width = w.value; height = n.value }; rest = n.rest }) ]
        ≡ some h → Left bytes h.rest
    height w l none e s = none_is_some (Left bytes h.rest) h s
    height w l (some n) e s =
        let same : n.rest ≡ h.rest = cc in
        same_left same (left_of_left l (size_left w.rest n e))

    width : (o : Option Number) → size_in bytes ≡ o
        → elim o [
          | none ↦ none
          | some w ↦ elim (size_in w.rest) [
            | none ↦ none
            | some n ↦ some (record { plain = plain; chart = record { width = w.value; height = n.value }; rest = n.rest })
          ]
        ] ≡ some h → Left bytes h.rest
    width none e s = none_is_some (Left bytes h.rest) h s
    width (some w) e s = height w (size_left bytes w e) (size_in w.rest) refl s

pub past_line_left : (bytes : List ℕ) → Left bytes (past_line bytes)
unfolding past_line
past_line_left [] = all_left []
past_line_left (b ∷ bs) = either (Left (b ∷ bs)) (line_end b) (one_more b (all_left bs)) (one_more b (past_line_left bs))

pub raster_left : (bytes raster : List ℕ) → raster_in bytes ≡ some raster → Left bytes raster
unfolding raster_in
raster_left [] raster e = none_is_some (Left [] raster) raster e
raster_left (b ∷ bs) raster e = go (white b) (hash b) e
  where
    go : (t u : Bool) → elim t [ true ↦ some bs | false ↦ elim u [ true ↦ some (past_line bs) | false ↦ none ] ] ≡ some raster → Left (b ∷ bs) raster
    go true u e = let same : bs ≡ raster = cc in same_left same (one_more b (all_left bs))
    go false true e = let same : past_line bs ≡ raster = cc in same_left same (one_more b (past_line_left bs))
    go false false e = none_is_some (Left (b ∷ bs) raster) raster e

pub header_left : (file : List ℕ) (h : Header) → header_in file ≡ some h → Left file h.rest
unfolding header_in
header_left [] h e = none_is_some (Left [] h.rest) h e
header_left (p ∷ []) h e = none_is_some (Left (p ∷ []) h.rest) h e
header_left (p ∷ kind ∷ bs) h e = one_more p (one_more kind (go (eqb p 80) (eqb kind 49) (eqb kind 52) e))
  where
    go : (t u v : Bool)
        → elim t [ false ↦ none | true ↦ elim u [ true ↦ sizes_in true bs | false ↦ elim v [ true ↦ sizes_in false bs | false ↦ none ] ] ] ≡ some h
        → Left bs h.rest
    go true true v e = sizes_left true bs h e
    go true false true e = sizes_left false bs h e
    go true false false e = none_is_some (Left bs h.rest) h e
    go false u v e = none_is_some (Left bs h.rest) h e
