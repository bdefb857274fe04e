-- The points that marks select, and those that numbers select, one after the other; marks past the last point select nothing. Assumes nothing.
use Prim.Native.Nat.{ℕ, suc, ◌+◌, ◌-◌, ◌<◌, ◌≤◌}
use mathlib.Core.Bool.{Bool, true, false}
use mathlib.Core.List.{List, [], ◌∷◌, ◌++◌}
use mathlib.Core.Path.{◌≡◌, refl, sym, ap}
use native.Mathlib.Numerals.{add-one}
use native.Mathlib.Omega.{arith}
use lib.Dec.{eqb}
use lib.Ieee.{Float, lt}
use lib.ListN.{length, drop, get_or, drop_of_length-le}
use lib.Seq.{drop-cons}
use borrow.Author.Tests.{eq-eqb, ne_eqb}
use Rattle.laws.specs.Lists.{over}
use Rattle.point.specs.Limits.{places_for}
use Rattle.point.specs.declared.PointI32.{PointI32}
use Rattle.point.proofs.Room.{places_enough}
use Rattle.reduce.specs.Kept.{select, kept}
use Rattle.reduce.specs.Zoom.{marks_after, marks_by, mark}

-- ---- by marks

module _ (m : ℕ) (marks : List ℕ) (p : PointI32) (ps : List PointI32) where
  pub selected : eqb m 0 ≡ false → select (m ∷ marks) (p ∷ ps) ≡ p ∷ select marks ps
  unfolding select
  selected e = rw (e, select)

  pub unselected : eqb m 0 ≡ true → select (m ∷ marks) (p ∷ ps) ≡ select marks ps
  unfolding select
  unselected e = rw (e, select)

  looked_at : length (select marks ps) ≤ length ps → length (select (m ∷ marks) (p ∷ ps)) ≤ suc (length ps)
  looked_at h = go (eqb m 0) refl
    where
      go : (t : Bool) → eqb m 0 ≡ t → length (select (m ∷ marks) (p ∷ ps)) ≤ suc (length ps)
      go true e = rw (unselected e) (omega arith)
      go false e = rw (selected e) (omega arith)

pub select_shorter : (marks : List ℕ) (ps : List PointI32) → length (select marks ps) ≤ length ps
unfolding select
select_shorter [] ps = omega arith
select_shorter (m ∷ marks) [] = omega arith
select_shorter (m ∷ marks) (p ∷ ps) = looked_at m marks p ps (select_shorter marks ps)

pub no_points : (marks : List ℕ) → select marks [] ≡ []
unfolding select
no_points [] = refl
no_points (m ∷ marks) = refl

module _ (marks : List ℕ) (ps : List PointI32) (k : ℕ) (d : PointI32) where
  module _ (h : k < length marks) (i : k < length ps) where
    pub marked : (get_or marks k 0 ≡ 0 → ⊥) → select (drop k marks) (drop k ps) ≡ get_or ps k d ∷ select (drop (k + 1) marks) (drop (k + 1) ps)
    marked n = rw (add-one, drop-cons marks k 0 h, drop-cons ps k d i) (selected (get_or marks k 0) (drop (suc k) marks) (get_or ps k d) (drop (suc k) ps) (ne_eqb _ _ n))

    pub unmarked : get_or marks k 0 ≡ 0 → select (drop k marks) (drop k ps) ≡ select (drop (k + 1) marks) (drop (k + 1) ps)
    unmarked e = rw (add-one, drop-cons marks k 0 h, drop-cons ps k d i) (unselected (get_or marks k 0) (drop (suc k) marks) (get_or ps k d) (drop (suc k) ps) (eq-eqb _ _ e))

-- ---- marks past the last point select nothing

select_append : (marks more : List ℕ) (ps : List PointI32) → length ps ≤ length marks → select (marks ++ more) ps ≡ select marks ps
unfolding select
select_append [] more [] h = no_points more
select_append [] more (p ∷ ps) h = absurd (omega arith)
select_append (m ∷ marks) more [] h = refl
select_append (m ∷ marks) more (p ∷ ps) h = go (eqb m 0) refl (select_append marks more ps (omega arith))
  where
    go : (t : Bool) → eqb m 0 ≡ t → select (marks ++ more) ps ≡ select marks ps → select (m ∷ (marks ++ more)) (p ∷ ps) ≡ select (m ∷ marks) (p ∷ ps)
    go true e s = rw (unselected m (marks ++ more) p ps e, unselected m marks p ps e) s
    go false e s = rw (selected m (marks ++ more) p ps e, selected m marks p ps e, s)

pub kept_over : (marks old : List ℕ) (ps : List PointI32) → length ps ≤ length marks → kept (over marks old) ps ≡ kept marks ps
unfolding kept over
kept_over marks old [] h = refl
kept_over marks old (p ∷ []) h = refl
kept_over marks old (p ∷ q ∷ ps) h = select_append marks (drop (length marks) old) (p ∷ q ∷ ps) h

-- ---- a list of one point, and any other

pub kept_single : (marks : List ℕ) (ps : List PointI32) (d : PointI32) → length ps ≡ 1 → kept marks ps ≡ get_or ps 0 d ∷ get_or ps 0 d ∷ []
unfolding kept
kept_single marks [] d e = absurd (omega arith)
kept_single marks (p ∷ []) d e = refl
kept_single marks (p ∷ q ∷ ps) d e = absurd (omega arith)

pub kept_many : (marks : List ℕ) (ps : List PointI32) → (length ps ≡ 1 → ⊥) → kept marks ps ≡ select marks ps
unfolding kept
kept_many marks [] n = sym (no_points marks)
kept_many marks (p ∷ []) n = absurd (n refl)
kept_many marks (p ∷ q ∷ ps) n = refl

-- no more points than there are places for
pub kept_fits : (marks : List ℕ) (ps : List PointI32) → length (kept marks ps) ≤ places_for (length ps)
unfolding kept
kept_fits marks [] = omega arith
kept_fits marks (p ∷ []) = omega arith
kept_fits marks (p ∷ q ∷ ps) = omega (arith, select_shorter marks (p ∷ q ∷ ps), places_enough (length (p ∷ q ∷ ps)))

-- ---- by numbers

pub kept_first : (tolerance : Float) (numbers : List Float) (ps : List PointI32) (d : PointI32) → 0 < length ps → length numbers ≡ length ps →
    kept (marks_by tolerance numbers) ps ≡ get_or ps 0 d ∷ drop 1 (kept (marks_by tolerance numbers) ps)
unfolding kept marks_by
kept_first tolerance numbers [] d h e = absurd (omega arith)
kept_first tolerance [] (p ∷ ps) d h e = absurd (omega arith)
kept_first tolerance (v ∷ vs) (p ∷ []) d h e = refl
kept_first tolerance (v ∷ vs) (p ∷ q ∷ ps) d h e = refl

-- those after the first: of one point itself, which is the last
pub kept_after : (tolerance : Float) (numbers : List Float) (ps : List PointI32) → 0 < length ps → length numbers ≡ length ps →
    drop 1 (kept (marks_by tolerance numbers) ps)
    ≡ select (marks_after tolerance (drop (length ps - 1 - (length ps - 1 - 1)) numbers)) (drop (length ps - 1 - (length ps - 1 - 1)) ps)
unfolding kept marks_by
kept_after tolerance numbers [] h e = absurd (omega arith)
kept_after tolerance [] (p ∷ ps) h e = absurd (omega arith)
kept_after tolerance (v ∷ []) (p ∷ []) h e = refl
kept_after tolerance (v ∷ w ∷ vs) (p ∷ []) h e = absurd (omega arith)
kept_after tolerance (v ∷ vs) (p ∷ q ∷ ps) h e =
    let one : 1 ≡ suc (suc (length ps)) - 1 - (suc (suc (length ps)) - 1 - 1) = omega arith in
    ap (λ (j : ℕ). select (marks_after tolerance (drop j (v ∷ vs))) (drop j (p ∷ q ∷ ps))) one

module _ (tolerance : Float) (numbers : List Float) (ps : List PointI32) (d : PointI32) where
  module _ (k : ℕ) (x : Float) (i : k < length ps) where
    between : k + 1 < length numbers → marks_after tolerance (drop k numbers) ≡ mark (lt tolerance (get_or numbers k x)) ∷ marks_after tolerance (drop (k + 1) numbers)
    unfolding marks_after
    between h =
        let here : k < length numbers = omega arith in
        let next : suc k < length numbers = omega arith in
        rw (add-one, drop-cons numbers k x here, drop-cons numbers (suc k) x next)

    pub above : k + 1 < length numbers → lt tolerance (get_or numbers k x) ≡ true →
        select (marks_after tolerance (drop k numbers)) (drop k ps) ≡ get_or ps k d ∷ select (marks_after tolerance (drop (k + 1) numbers)) (drop (k + 1) ps)
    above h t = rw (between h, t, drop-cons ps k d i, add-one) (selected 1 (marks_after tolerance (drop (suc k) numbers)) (get_or ps k d) (drop (suc k) ps) refl)

    pub not_above : k + 1 < length numbers → lt tolerance (get_or numbers k x) ≡ false →
        select (marks_after tolerance (drop k numbers)) (drop k ps) ≡ select (marks_after tolerance (drop (k + 1) numbers)) (drop (k + 1) ps)
    not_above h t = rw (between h, t, drop-cons ps k d i, add-one) (unselected 0 (marks_after tolerance (drop (suc k) numbers)) (get_or ps k d) (drop (suc k) ps) refl)

    pub last_kept : k + 1 ≡ length numbers → select (marks_after tolerance (drop k numbers)) (drop k ps) ≡ get_or ps k d ∷ []
    unfolding marks_after select
    last_kept e =
        let here : k < length numbers = omega arith in
        let past : length numbers ≤ suc k = omega arith in
        rw (drop-cons numbers k x here, drop_of_length-le numbers past, drop-cons ps k d i)
