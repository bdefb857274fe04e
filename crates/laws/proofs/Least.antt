-- The least of two floats, as code that walks some distances and +infinity keeps it: a threshold is below it exactly when it is below both,
-- and the order in which the least of several is taken does not matter. Assumes nothing.
use mathlib.Core.Path.{◌≡◌, refl, sym, subst}
use mathlib.Core.Bool.{Bool, true, false, ◌&&◌, true≢false}
use lib.Dec.{T}
use lib.Ieee.{Float, nan, inf, fin, binary64, fits, lt}
use Rattle.laws.specs.inside.Finite.{NonNeg}
use Rattle.laws.specs.Least.{least}
use Rattle.laws.proofs.Order.{AtLeastZero, at_least_zero, lt_asymmetric, lt_irreflexive, lt_transitive, ge_transitive, lt_le_transitive, lt_antisymmetric}

-- ---- it is one of the two

pub least_second : (x y : Float) → lt y x ≡ true → least x y ≡ y
unfolding least
least_second x y h = rw (h, least)

pub least_first : (x y : Float) → lt y x ≡ false → least x y ≡ x
unfolding least
least_first x y h = rw (h, least)

pub least_cases : (x y : Float) (Q : Float → Type 0) → (lt y x ≡ true → Q y) → (lt y x ≡ false → Q x) → Q (least x y)
least_cases x y Q f g = go (lt y x) refl
  where
    go : (b : Bool) → lt y x ≡ b → Q (least x y)
    go true h = subst Q (sym (least_second x y h)) (f h)
    go false h = subst Q (sym (least_first x y h)) (g h)

pub least_at_least_zero : {x y : Float} → AtLeastZero x → AtLeastZero y → AtLeastZero (least x y)
least_at_least_zero {x} {y} p q = least_cases x y AtLeastZero (λ h. q) (λ h. p)

-- ---- the order

module _ {x y : Float} (p : AtLeastZero x) (q : AtLeastZero y) where
  -- neither is less than it
  pub least_at_most_first : lt x (least x y) ≡ false
  least_at_most_first = least_cases x y (λ m. lt x m ≡ false) (λ h. lt_asymmetric q p h) (λ h. lt_irreflexive p)

  pub least_at_most_second : lt y (least x y) ≡ false
  least_at_most_second = least_cases x y (λ m. lt y m ≡ false) (λ h. lt_irreflexive q) (λ h. h)

-- less than the least: less than both
pub lt_least : {t x y : Float} → AtLeastZero t → AtLeastZero x → AtLeastZero y → lt t (least x y) ≡ (lt t x && lt t y)
lt_least {t} {x} {y} o p q =
    least_cases x y (λ m. lt t m ≡ (lt t x && lt t y))
    (λ h. when_second (lt t x) (lt t y) (λ k. lt_transitive o q p k h))
    (λ h. when_first (lt t x) (lt t y) (λ k. lt_le_transitive o p q k h))
  where
    when_second : (a b : Bool) → (b ≡ true → a ≡ true) → b ≡ (a && b)
    when_second true b f = refl
    when_second false true f = sym (f refl)
    when_second false false f = refl

    when_first : (a b : Bool) → (a ≡ true → b ≡ true) → a ≡ (a && b)
    when_first true b f = sym (f refl)
    when_first false b f = refl

-- ---- the least of several

module _ {x y z : Float} (p : AtLeastZero x) (q : AtLeastZero y) (r : AtLeastZero z) where
  pub least_assoc : least (least x y) z ≡ least x (least y z)
  least_assoc = go (lt y x) (lt z y) refl refl
    where
      go : (b c : Bool) → lt y x ≡ b → lt z y ≡ c → least (least x y) z ≡ least x (least y z)
      go true true h k = rw (least_second x y h, least_second y z k, least_second x z (lt_transitive r q p k h))
      go true false h k = rw (least_second x y h, least_first y z k, least_second x y h)
      go false true h k = rw (least_first x y h, least_second y z k)
      go false false h k = rw (least_first x y h, least_first y z k, least_first x y h, least_first x z (ge_transitive r q p k h))

-- of values of f64
pub least_comm : {x y : Float} → NonNeg x → NonNeg y → T (fits binary64 x) → T (fits binary64 y) → least x y ≡ least y x
least_comm {x} {y} p q a b = go (lt y x) (lt x y) refl refl
  where
    go : (c d : Bool) → lt y x ≡ c → lt x y ≡ d → least x y ≡ least y x
    go true d h k = rw (least_second x y h, least_first y x (lt_asymmetric (at_least_zero q) (at_least_zero p) h))
    go false true h k = rw (least_first x y h, least_second y x k)
    go false false h k = rw (least_first x y h, least_first y x k) (lt_antisymmetric p q a b k h)

pub least_self : (x : Float) → least x x ≡ x
least_self x = least_cases x x (λ m. m ≡ x) (λ h. refl) (λ h. refl)

-- +infinity changes nothing
pub least_infinity : (x : Float) → least x (inf false) ≡ x
least_infinity x = least_first x (inf false) (none_above x)
  where
    none_above : (x : Float) → lt (inf false) x ≡ false
    none_above nan = unfold lt in refl
    none_above (inf s) = unfold lt in refl
    none_above (fin s m e) = unfold lt in refl

pub infinity_least : {x : Float} → AtLeastZero x → least (inf false) x ≡ x
unfolding lt
infinity_least {x = nan} p = absurd p.zero_or_more
infinity_least {x = inf true} p = absurd (true≢false p.zero_or_more)
infinity_least {x = inf false} p = least_self (inf false)
infinity_least {x = fin s m e} p = least_second (inf false) (fin s m e) refl
