-- A test that holds of both Bools, or of all four ways, holds of each: antt computes the test of all, and `tt` proves it. Assumes nothing.
use mathlib.Core.Bool.{Bool, true, false, not, ◌&&◌, true≢false}
use mathlib.Core.Path.{◌≡◌, refl, sym}
use lib.Dec.{T}
use lib.Ieee.Fits.{and_l, and_r}
use Rattle.walker.specs.Walk.{Way, up, right, down, left}

abbrev pub all_b : (Bool → Bool) → Bool
all_b f = f true && f false

pub at_b : (f : Bool → Bool) → T (all_b f) → (b : Bool) → T (f b)
at_b f t true = and_l (f true) (f false) t
at_b f t false = and_r (f true) (f false) t

abbrev pub all_w : (Way → Bool) → Bool
all_w f = f up && f right && (f down && f left)

pub at_w : (f : Way → Bool) → T (all_w f) → (d : Way) → T (f d)
at_w f t up = and_l (f up) (f right) (and_l (f up && f right) (f down && f left) t)
at_w f t right = and_r (f up) (f right) (and_l (f up && f right) (f down && f left) t)
at_w f t down = and_l (f down) (f left) (and_r (f up && f right) (f down && f left) t)
at_w f t left = and_r (f down) (f left) (and_r (f up && f right) (f down && f left) t)

abbrev pub all_w2 : (Way → Way → Bool) → Bool
all_w2 f = all_w (λ d. all_w (f d))

pub at_w2 : (f : Way → Way → Bool) → T (all_w2 f) → (d e : Way) → T (f d e)
at_w2 f t d e = at_w (f d) (at_w (λ d. all_w (f d)) t d) e

abbrev pub all_w3 : (Way → Way → Way → Bool) → Bool
all_w3 f = all_w (λ d. all_w2 (f d))

pub at_w3 : (f : Way → Way → Way → Bool) → T (all_w3 f) → (d e k : Way) → T (f d e k)
at_w3 f t d e k = at_w2 (f d) (at_w (λ d. all_w2 (f d)) t d) e k

-- two tests that agree
abbrev pub same : Bool → Bool → Bool
same true b = b
same false b = not b

pub same_eq : (a b : Bool) → T (same a b) → a ≡ b
same_eq true true t = refl
same_eq true false t = absurd t
same_eq false true t = absurd t
same_eq false false t = refl

-- one that follows from another
abbrev pub implies : Bool → Bool → Bool
implies true b = b
implies false b = true

pub implied : (a b : Bool) → T (implies a b) → a ≡ true → T b
implied true b t e = t
implied false b t e = absurd (true≢false (sym e))

pub fails : (a : Bool) → T (not a) → a ≡ false
fails true t = absurd t
fails false t = refl

-- ---- four pixels and a way

abbrev pub all_f : (Bool → Bool → Bool → Bool → Way → Bool) → Bool
all_f f = all_b (λ a. all_b (λ b. all_b (λ c. all_b (λ e. all_w (f a b c e)))))

pub at_f : (f : Bool → Bool → Bool → Bool → Way → Bool) → T (all_f f) → (a b c e : Bool) (d : Way) → T (f a b c e d)
at_f f t a b c e d =
    at_w (f a b c e)
    (at_b (λ e. all_w (f a b c e))
    (at_b (λ c. all_b (λ e. all_w (f a b c e)))
    (at_b (λ b. all_b (λ c. all_b (λ e. all_w (f a b c e))))
    (at_b (λ a. all_b (λ b. all_b (λ c. all_b (λ e. all_w (f a b c e))))) t a) b) c) e) d
