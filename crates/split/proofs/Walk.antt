-- A list of spans to work off, the first of them at hand and the others waiting: what is split leaves its shorter part at hand and has the
-- other wait. So the length of a span, times two for each that waits behind it, stays below 4,096; a span with a point inside has length 2 or
-- more, and so fewer than 11 wait where one is split. Assumes nothing.
use Prim.Native.Nat.{ℕ, zero, suc, ◌+◌, ◌-◌, ◌*◌, ◌^◌, ◌≤◌, ◌<◌}
use mathlib.Core.List.{List, [], ◌∷◌}
use mathlib.Core.Path.{◌≡◌, refl, sym, ap, ◌∙◌}
use native.Mathlib.Numerals.{add-one}
use native.Mathlib.Omega.{arith}
use lib.ListN.{length, get_or, set}
use lib.Seq.{get_or-set_same, get_or-set_other}
use Rattle.split.proofs.Room.{half_fits, rest_fits, few_wait}

pub record Span : Type 0 where
  pub first : ℕ
  pub last : ℕ

abbrev pub span : ℕ → ℕ → Span
span f l = record { first = f; last = l }

-- one span of a list up to the position `end`, behind which j others wait
pub record Waits (end j : ℕ) (s : Span) : Type 0 where
  pub ordered : s.first ≤ s.last
  pub within : s.last ≤ end
  pub room : (s.last - s.first) * 2 ^ j < 4096

unfoldable pub AllWait : ℕ → List Span → Type 0
AllWait end [] = Unit {0}
AllWait end (s ∷ rest) = Waits end (length rest) s × AllWait end rest

-- what falls with every turn: two for each interior point, and one for each span
unfoldable pub to_do : List Span → ℕ
to_do [] = 0
to_do (s ∷ rest) = suc (2 * (s.last - suc s.first)) + to_do rest

module _ (end : ℕ) where
  pub hand : (s : Span) (rest : List Span) → AllWait end (s ∷ rest) → Waits end (length rest) s
  unfolding AllWait
  hand s rest a = a.0

  pub others : (s : Span) (rest : List Span) → AllWait end (s ∷ rest) → AllWait end rest
  unfolding AllWait
  others s rest a = a.1

  -- the whole list alone
  pub one_waits : end < 4096 → AllWait end (span 0 end ∷ [])
  unfolding AllWait
  one_waits h = (record { ordered = omega arith; within = omega arith; room = omega arith }, tt)

  module _ (f l : ℕ) (rest : List Span) (a : AllWait end (span f l ∷ rest)) where
    -- its interior done, a span is left without one
    pub done_waits : AllWait end (span f f ∷ rest)
    unfolding AllWait
    done_waits =
        let w = hand (span f l) rest a in (
          record {
            ordered = omega arith;
            within = omega (arith, w.ordered, w.within);
            room = rest_fits (f - f) (l - f) (length rest) (omega arith) w.room;
          },
          others (span f l) rest a,
        )

    -- never more than 11 wait
    pub fewer_than_eleven : f + 1 < l → length rest < 11
    fewer_than_eleven o = few_wait (l - f) (length rest) (omega arith) (hand (span f l) rest a).room

    -- split at i
    module _ (i : ℕ) (b : f < i) (c : i < l) where
      pub last_waits : i - f ≤ l - i → AllWait end (span f i ∷ span i l ∷ rest)
      unfolding AllWait
      last_waits h =
          let w = hand (span f l) rest a in
          let z : suc (length rest) ≡ length rest + 1 = omega arith in (
            record {
              ordered = omega arith;
              within = omega (arith, w.within);
              room = rw z (half_fits (i - f) (l - f) (length rest) (omega arith) w.room);
            },
            (
              record {
                ordered = omega arith;
                within = w.within;
                room = rest_fits (l - i) (l - f) (length rest) (omega arith) w.room;
              },
              others (span f l) rest a,
            ),
          )

      pub first_waits : l - i < i - f → AllWait end (span i l ∷ span f i ∷ rest)
      unfolding AllWait
      first_waits h =
          let w = hand (span f l) rest a in
          let z : suc (length rest) ≡ length rest + 1 = omega arith in (
            record {
              ordered = omega arith;
              within = w.within;
              room = rw z (half_fits (l - i) (l - f) (length rest) (omega arith) w.room);
            },
            (
              record {
                ordered = omega arith;
                within = omega (arith, w.within);
                room = rest_fits (i - f) (l - f) (length rest) (omega arith) w.room;
              },
              others (span f l) rest a,
            ),
          )

-- ---- each turn makes what is left less

module _ (f l : ℕ) (rest : List Span) where
  pub taken_less : to_do rest < to_do (span f l ∷ rest)
  unfolding to_do
  taken_less = omega arith

  pub done_less : f + 1 < l → to_do (span f f ∷ rest) < to_do (span f l ∷ rest)
  unfolding to_do
  done_less o = omega arith

  pub last_waits_less : (i : ℕ) → f < i → i < l → to_do (span f i ∷ span i l ∷ rest) < to_do (span f l ∷ rest)
  unfolding to_do
  last_waits_less i b c = omega arith

  pub first_waits_less : (i : ℕ) → f < i → i < l → to_do (span i l ∷ span f i ∷ rest) < to_do (span f l ∷ rest)
  unfolding to_do
  first_waits_less i b c = omega arith

-- ---- the spans that wait, out of the arrays that hold them up to a count: the last of them is the first of the list

unfoldable pub held : List ℕ → List ℕ → ℕ → List Span
held fs ls zero = []
held fs ls (suc k) = span (get_or fs k 0) (get_or ls k 0) ∷ held fs ls k

pub held_length : (fs ls : List ℕ) (k : ℕ) → length (held fs ls k) ≡ k
unfolding held
held_length fs ls zero = refl
held_length fs ls (suc k) = ap suc (held_length fs ls k)

-- one off
pub held_last : (fs ls : List ℕ) (k : ℕ) → (k ≡ 0 → ⊥) → held fs ls k ≡ span (get_or fs (k - 1) 0) (get_or ls (k - 1) 0) ∷ held fs ls (k - 1)
unfolding held
held_last fs ls zero h = absurd (h refl)
held_last fs ls (suc k) h =
    let e : suc k - 1 ≡ k = omega arith in
    ap (λ (j : ℕ). span (get_or fs j 0) (get_or ls j 0) ∷ held fs ls j) (sym e)

-- one more
module _ (fs ls : List ℕ) (at f l : ℕ) where
  under : (k : ℕ) → k ≤ at → held (set fs at f) (set ls at l) k ≡ held fs ls k
  unfolding held
  under zero h = refl
  under (suc k) h =
      let n : k ≡ at → ⊥ = λ e. omega arith in
      rw (get_or-set_other fs at k f 0 n, get_or-set_other ls at k l 0 n) (ap (λ (r : List Span). span (get_or fs k 0) (get_or ls k 0) ∷ r) (under k (omega arith)))

  pub held_more : at < length fs → at < length ls → held (set fs at f) (set ls at l) (at + 1) ≡ span f l ∷ held fs ls at
  unfolding held
  held_more h g =
      ap (held (set fs at f) (set ls at l)) (add-one at)
      ∙ rw (get_or-set_same fs at f 0 h, get_or-set_same ls at l 0 g) (ap (λ (r : List Span). span f l ∷ r) (under at (omega arith)))
