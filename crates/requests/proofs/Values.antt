-- The signed numbers of some bytes: how many there are, each, and how they are put, one by one. Assumes nothing.
use Prim.Native.Nat.{ℕ, zero, suc, ◌+◌, ◌-◌, ◌*◌, ◌/◌, ◌≤◌, ◌<◌}
use mathlib.Core.List.{List, [], ◌∷◌}
use mathlib.Core.Path.{◌≡◌, refl, sym, ap, ◌∙◌}
use native.Mathlib.Numerals.{add-one}
use native.Mathlib.Omega.{arith}
use lib.IntN.{ℤ, pos}
use lib.ListN.{length, length-drop, get_or, take, drop, set}
use lib.Seq.{length-take-le, take_all, take-suc}
use Rattle.laws.specs.Lists.{over}
use Rattle.laws.proofs.Lists.{over_push}
use Rattle.requests.specs.Frame.{word_at, signed, values_of}

pub length_values : (bytes : List ℕ) → length (values_of bytes) ≡ length bytes / 2
unfolding values_of
length_values [] = refl
length_values (a ∷ []) = refl
length_values (a ∷ b ∷ rest) = omega (arith, length_values rest)

pub value_at : (bytes : List ℕ) (i : ℕ) → i < length bytes / 2 → get_or (values_of bytes) i (pos 0) ≡ signed (word_at bytes (i * 2))
unfolding values_of
value_at [] i h = absurd (none i h)
  where
    none : (i : ℕ) → i < 0 / 2 → ⊥
    none i h = omega arith
value_at (a ∷ []) i h = absurd (none i h)
  where
    none : (i : ℕ) → i < 1 / 2 → ⊥
    none i h = omega arith
value_at (a ∷ b ∷ rest) zero h = refl
value_at (a ∷ b ∷ rest) (suc i) h =
    let two : suc i * 2 ≡ suc (suc (i * 2)) = omega arith in
    let next : suc (suc (i * 2)) + 1 ≡ suc (suc (i * 2 + 1)) = omega arith in
    rw (two, next) (value_at rest i (omega arith))

-- how many stand behind place m
pub length_rest : (f : List ℕ) (m : ℕ) → length (values_of (drop m f)) ≡ (length f - m) / 2
length_rest f m = length_values (drop m f) ∙ ap (λ (l : ℕ). l / 2) (length-drop m f)

pub how_many : (bytes : List ℕ) → length bytes / 2 ≡ length (values_of bytes)
how_many bytes = sym (length_values bytes)

-- ---- the first i of them are put at the start of a list, and then one more, until there are no more

module _ (bytes : List ℕ) (to₀ to : List ℤ) (i : ℕ) (inv : to ≡ over (take i (values_of bytes)) to₀) where
  pub one_put : (v : ℤ) → i < length bytes / 2 → length bytes / 2 ≤ length to₀ → v ≡ signed (word_at bytes (i * 2)) →
      set to i v ≡ over (take (i + 1) (values_of bytes)) to₀
  one_put v h l e =
      let size = length_values bytes in
      let k : length (take i (values_of bytes)) ≡ i = length-take-le i (values_of bytes) (omega arith) in
      let j : i < length (values_of bytes) = omega arith in
      let x : v ≡ _ = e ∙ sym (value_at bytes i h) in
      let pushed = over_push (take i (values_of bytes)) to₀ i (get_or (values_of bytes) i (pos 0)) k (omega arith) in
      rw (inv, x, pushed, add-one, take-suc (values_of bytes) i (pos 0) j)

  pub all_put : length bytes / 2 ≤ i → to ≡ over (values_of bytes) to₀
  all_put l = rw (inv, take_all i (values_of bytes) (omega (arith, length_values bytes)))
