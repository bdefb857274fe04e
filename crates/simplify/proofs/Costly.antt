-- `limit_penalties` as code walks along a list: the test for the position right after the last one kept is met at the first position
-- alone, and the last position of all is kept at the end. So it keeps no more points than it is handed, but one point twice. Assumes nothing.
use Prim.Native.Nat.{ℕ, zero, suc, ◌+◌, ◌-◌, ◌<◌, ◌≤◌}
use mathlib.Core.Bool.{Bool, true, false}
use mathlib.Core.List.{List, [], ◌∷◌, ◌++◌}
use mathlib.Core.Path.{◌≡◌, refl, sym, ap, ◌∙◌}
use native.Mathlib.Numerals.{add-one}
use native.Mathlib.Omega.{arith}
use lib.ListN.{length, length-append}
use borrow.Author.Tests.{eq-eqb, ne_eqb}
use Rattle.point.specs.Limits.{places_for}
use Rattle.point.specs.declared.PointI32.{PointI32}
use Rattle.point.proofs.Room.{places_many}
use Rattle.simplify.specs.Penalties.{at, too_costly, closing, limit_from, limited, pick, limit_penalties}

-- ---- which of the n positions from i on are kept, after `last` and before the last of all

unfoldable pub costly : List PointI32 → ℕ → ℕ → ℕ → List ℕ
costly ps zero i last = []
costly ps (suc n) i last = elim (too_costly ps last i) [
  | true ↦ (i - 1) ∷ costly ps n (suc i) (i - 1)
  | false ↦ costly ps n (suc i) last
]

module _ (ps : List PointI32) where
  module _ (n i last : ℕ) where
    costs : too_costly ps last i ≡ true → costly ps (suc n) i last ≡ (i - 1) ∷ costly ps n (suc i) (i - 1)
    unfolding costly
    costs e = rw (e, costly)

    costs_little : too_costly ps last i ≡ false → costly ps (suc n) i last ≡ costly ps n (suc i) last
    unfolding costly
    costs_little e = rw (e, costly)

    counted : length (costly ps n (suc i) (i - 1)) ≤ n → length (costly ps n (suc i) last) ≤ n → length (costly ps (suc n) i last) ≤ suc n
    counted h k = go (too_costly ps last i) refl
      where
        go : (t : Bool) → too_costly ps last i ≡ t → length (costly ps (suc n) i last) ≤ suc n
        go true e = rw (costs e) (omega arith)
        go false e = rw (costs_little e) (omega arith)

  costly_shorter : (n i last : ℕ) → length (costly ps n i last) ≤ n
  unfolding costly
  costly_shorter zero i last = omega arith
  costly_shorter (suc n) i last = counted n i last (costly_shorter n (suc i) (i - 1)) (costly_shorter n (suc i) last)

  -- ---- the definition's positions are these, and the last of all

  abbrev end : List ℕ
  end = (length ps - 1) ∷ []

  closed : (i : ℕ) → suc i ≡ length ps → closing ps i ≡ i ∷ []
  closed i e = rw (eq-eqb (suc i) (length ps) e)

  not_closed : (i : ℕ) → (suc i ≡ length ps → ⊥) → closing ps i ≡ []
  not_closed i h = rw (ne_eqb (suc i) (length ps) h)

  -- a position that is not right after the last one kept
  module _ (n i last : ℕ) (far : i ≡ suc last → ⊥) where
    from_costs : too_costly ps last i ≡ true →
        limit_from ps (suc n) i last ≡ (i - 1) ∷ (closing ps i ++ limit_from ps n (suc i) (i - 1))
    unfolding limit_from
    from_costs e = rw (ne_eqb i (suc last) far, e, limit_from)

    from_little : too_costly ps last i ≡ false →
        limit_from ps (suc n) i last ≡ closing ps i ++ limit_from ps n (suc i) last
    unfolding limit_from
    from_little e = rw (ne_eqb i (suc last) far, e, limit_from)

    looked_at : closing ps i ++ limit_from ps n (suc i) (i - 1) ≡ costly ps n (suc i) (i - 1) ++ end →
        closing ps i ++ limit_from ps n (suc i) last ≡ costly ps n (suc i) last ++ end →
        limit_from ps (suc n) i last ≡ costly ps (suc n) i last ++ end
    looked_at f g = go (too_costly ps last i) refl
      where
        go : (t : Bool) → too_costly ps last i ≡ t → limit_from ps (suc n) i last ≡ costly ps (suc n) i last ++ end
        go true t = rw (from_costs t, costs n i last t) (ap (λ (l : List ℕ). (i - 1) ∷ l) f)
        go false t = rw (from_little t, costs_little n i last t) g

  from_near : (n last : ℕ) → limit_from ps (suc n) (suc last) last ≡ limit_from ps n (suc (suc last)) last
  unfolding limit_from
  from_near n last = rw (eq-eqb (suc last) (suc last) refl, limit_from)

  after : (n i last : ℕ) → last < i → i + suc n ≡ length ps → closing ps i ++ limit_from ps n (suc i) last ≡ costly ps n (suc i) last ++ end
  unfolding limit_from costly
  after zero i last h e =
      let f : suc i ≡ length ps = omega arith in
      let g : i ≡ length ps - 1 = omega arith in
      rw (closed i f) (ap (λ (k : ℕ). k ∷ []) g)
  after (suc n) i last h e =
      rw (not_closed i (λ f. omega arith))
      (looked_at n (suc i) last (λ f. omega arith) (after n (suc i) (suc i - 1) (omega arith) (omega arith)) (after n (suc i) last (omega arith) (omega arith)))

-- ---- the positions that are kept, by the number of points

pub limited_many : (ps : List PointI32) → 2 < length ps → limited ps ≡ 0 ∷ (costly ps (length ps - 2) 2 0 ++ end ps)
unfolding limited
limited_many [] h = absurd (omega arith)
limited_many (p ∷ ps) h =
    let n = length ps - 2 in
    let e : length ps ≡ suc (suc n) = omega arith in
    let f : length (p ∷ ps) - 2 ≡ suc n = omega arith in
    ap (λ (l : List ℕ). 0 ∷ l)
    (ap (λ (l : List ℕ). l ++ limit_from (p ∷ ps) (length ps) 1 0) (not_closed (p ∷ ps) 0 (λ z. omega arith))
    ∙ ap (λ (m : ℕ). limit_from (p ∷ ps) m 1 0) e
    ∙ from_near (p ∷ ps) (suc n) 0
    ∙ ap (λ (l : List ℕ). l ++ limit_from (p ∷ ps) (suc n) 2 0) (sym (not_closed (p ∷ ps) 1 (λ z. omega arith)))
    ∙ after (p ∷ ps) (suc n) 1 0 (omega arith) (omega arith)
    ∙ ap (λ (m : ℕ). costly (p ∷ ps) m 2 0 ++ end (p ∷ ps)) (sym f))

-- ---- the points that are kept

pub limit_none : (ps : List PointI32) → length ps ≡ 0 → limit_penalties ps ≡ []
unfolding limit_penalties
limit_none [] h = refl
limit_none (p ∷ ps) h = absurd (omega arith)

pub limit_one : (ps : List PointI32) → length ps ≡ 1 → limit_penalties ps ≡ at ps 0 ∷ at ps 0 ∷ []
unfolding limit_penalties
limit_one [] h = absurd (omega arith)
limit_one (p ∷ []) h = refl
limit_one (p ∷ q ∷ ps) h = absurd (omega arith)

pub limit_two : (ps : List PointI32) → length ps ≡ 2 → limit_penalties ps ≡ at ps 0 ∷ []
unfolding limit_penalties
limit_two [] h = absurd (omega arith)
limit_two (p ∷ []) h = absurd (omega arith)
limit_two (p ∷ q ∷ []) h = refl
limit_two (p ∷ q ∷ r ∷ ps) h = absurd (omega arith)

-- what is kept of the positions from i on, after `last`, and the last of all
unfoldable pub costly_from : List PointI32 → ℕ → ℕ → List PointI32
costly_from ps i last = pick ps (costly ps (length ps - i) i last ++ end ps)

module _ (ps : List PointI32) where
  pub limit_many : 2 < length ps → limit_penalties ps ≡ at ps 0 ∷ costly_from ps 2 0
  unfolding limit_penalties costly_from pick
  limit_many h = ap (pick ps) (limited_many ps h)

  module _ (i last : ℕ) where
    pub costs_much : i < length ps → too_costly ps last i ≡ true → costly_from ps i last ≡ at ps (i - 1) ∷ costly_from ps (i + 1) (i - 1)
    unfolding costly_from pick
    costs_much h e =
        let f : length ps - i ≡ suc (length ps - suc i) = omega arith in
        rw (add-one, f, costs ps (length ps - suc i) i last e)

    pub costs_less : i < length ps → too_costly ps last i ≡ false → costly_from ps i last ≡ costly_from ps (i + 1) last
    unfolding costly_from
    costs_less h e =
        let f : length ps - i ≡ suc (length ps - suc i) = omega arith in
        rw (add-one, f, costs_little ps (length ps - suc i) i last e)

    pub costs_ended : length ps ≤ i → costly_from ps i last ≡ at ps (length ps - 1) ∷ []
    unfolding costly_from pick costly
    costs_ended h = let f : length ps - i ≡ 0 = omega arith in rw f

-- ---- how many points are kept

length_pick : (ps : List PointI32) (ks : List ℕ) → length (pick ps ks) ≡ length ks
unfolding pick
length_pick ps [] = refl
length_pick ps (k ∷ ks) = ap suc (length_pick ps ks)

module _ (ps : List PointI32) (i last : ℕ) where
  abbrev inner : List ℕ
  inner = costly ps (length ps - i) i last

  length_costly : length (costly_from ps i last) ≡ length inner + 1
  unfolding costly_from
  length_costly = length_pick ps (inner ++ end ps) ∙ length-append inner (end ps)

  costly_most : length (costly_from ps i last) ≤ length ps - i + 1
  costly_most = omega (arith, length_costly, costly_shorter ps (length ps - i) i last)

fits_many : (ps : List PointI32) → 2 < length ps → length (limit_penalties ps) ≤ places_for (length ps)
fits_many ps h = rw (limit_many ps h, places_many (length ps) (omega arith)) (omega (arith, costly_most ps 2 0))

pub limit_fits : (ps : List PointI32) → length (limit_penalties ps) ≤ places_for (length ps)
limit_fits [] = rw (limit_none [] refl) (omega arith)
limit_fits (p ∷ []) = rw (limit_one (p ∷ []) refl) (omega arith)
limit_fits (p ∷ q ∷ []) = rw (limit_two (p ∷ q ∷ []) refl) (omega arith)
limit_fits (p ∷ q ∷ r ∷ ps) = fits_many (p ∷ q ∷ r ∷ ps) (omega arith)
