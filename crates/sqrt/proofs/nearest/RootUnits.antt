-- The root of a finite value above zero, in units of the format's smallest value: it is what `Neighbours` is about, so every other value of the
-- format is farther from the exact root. Assumes nothing.
use Prim.Native.Nat.{ℕ, zero, suc, ◌+◌, ◌*◌, ◌^◌, ◌≤◌, ◌<◌}
use mathlib.Core.Bool.{false}
use mathlib.Core.Path.{◌≡◌, sym, ap, ◌∙◌, subst}
use native.Mathlib.Nat.{lt-suc_self, zero-lt-suc, mul-le-mul, mul-pos, mul_assoc, lt_of_not-le, le_antisymm, le_of_suc-le-suc}
use native.Mathlib.Omega.{arith}
use lib.Dec.{T}
use lib.Ieee.{Float, Format, prec, emax, low, units, fits}
use lib.Ieee.Exact.{HasValue, units_val}
use lib.Ieee.Fits.{two, two-le_pos}
use lib.Ieee.Positive.{num, den, positive, positive_of_value, value_pos}
use lib.Pow.{pow-add, pow_pos, pow-lt, shl_lt}
use Rattle.sqrt.specs.Nearest.{in_units, Farther}
use Rattle.sqrt.specs.Root.{in_squares, nearest_root, root_of}
use Rattle.sqrt.proofs.nearest.NearestRoot.{dropped, kept, rounded, nearest_root_is}
use Rattle.sqrt.proofs.nearest.Neighbours.{others_farther}
use Rattle.sqrt.proofs.nearest.Patterns.{root_of_units}
use Rattle.sqrt.proofs.nearest.RootFits.{root_fits, answer_below}
use Rattle.sqrt.proofs.whole.WholeUnits.{grid, value_of_units, units_of_value, same_value, units_below, squares_are}

-- what is nearest to the root of a number above 0 is above 0, and what is nearest to the root of a square is that root
above_zero : (r n : ℕ) → 0 < n → Farther n r 1 → 0 < r
above_zero zero n p h = absurd (omega (arith, h.1 (lt-suc_self 0)))
above_zero (suc r) n p h = zero-lt-suc r

root_of_square : (r y n : ℕ) → y * y ≡ n → Farther n r y → r ≡ y
root_of_square r y n e h = le_antisymm (le_of_suc-le-suc (lt_of_not-le not_above)) (le_of_suc-le-suc (lt_of_not-le not_below))
  where
    not_above : y < r → ⊥
    not_above l = let g : 2 * y ≤ y + r = omega arith in omega (arith, h.0 l, mul-le-mul g g)

    not_below : r < y → ⊥
    not_below l = let g : y + r ≤ 2 * y = omega arith in omega (arith, h.1 l, mul-le-mul g g)

module _ (f : Format) (x : Float) (above : T (positive x)) (held : T (fits f x)) where
  abbrev n : ℕ
  n = in_squares f (num x) (den x)

  abbrev answer : ℕ
  answer = rounded n (kept f n) (dropped f n) * 2 ^ dropped f n

  x_pos : 0 < in_units f x
  x_pos = value_pos x (in_units f x) (2 ^ low f) above (pow_pos (low f)) (value_of_units f x above held)

  n_pos : 0 < n
  n_pos = rw (squares_are f x held) (mul-pos x_pos (pow_pos (low f)))

  n_below : n < 2 ^ (low f + suc (emax f) + low f)
  n_below = rw (squares_are f x held) (shl_lt (low f + suc (emax f)) (low f) (units_below f x above held))

  n_is : n ≡ (grid f x held).0 * 2 ^ ((grid f x held).1 + low f)
  n_is =
      let g = grid f x held in
      squares_are f x held
      ∙ ap (λ (u : ℕ). u * 2 ^ low f) g.2
      ∙ mul_assoc g.0 (2 ^ g.1) (2 ^ low f)
      ∙ ap (λ (p : ℕ). g.0 * p) (sym (pow-add 2 g.1 (low f)))

  root_is : root_of f x ≡ units f false (rounded n (kept f n) (dropped f n)) (dropped f n)
  root_is =
      root_of_units f (in_units f x) x_pos x (value_of_units f x above held)
      ∙ ap (nearest_root f) (sym (squares_are f x held))
      ∙ nearest_root_is f n

  root_value : HasValue (root_of f x) false answer (2 ^ low f)
  root_value =
      subst (λ (v : Float). HasValue v false answer (2 ^ low f)) (sym root_is)
      (units_val f false (rounded n (kept f n) (dropped f n)) (dropped f n) (answer_below f n n_below))

  in_units_lem : in_units f (root_of f x) ≡ answer
  in_units_lem = units_of_value f (root_of f x) answer root_value

  farther : (c j : ℕ) → c < 2 ^ prec f → Farther n answer (c * 2 ^ j)
  farther = others_farther f n (grid f x held).0 ((grid f x held).1 + low f) (grid f x held).3 n_is

  pub farther_from_root : (y : Float) → T (fits f y) → Farther n (in_units f (root_of f x)) (in_units f y)
  farther_from_root y h =
      let g = grid f y h in same_sizes (in_units f (root_of f x)) (in_units f y) in_units_lem g.2 (farther g.0 g.1 g.3)
    where
      same_sizes : (r u : ℕ) {a v : ℕ} → r ≡ a → u ≡ v → Farther n a v → Farther n r u
      same_sizes r u d e h = rw (d, e) h

  pub root_above_zero : T (positive (root_of f x))
  root_above_zero =
      positive_of_value (root_of f x) answer (2 ^ low f) root_value
      (above_zero answer n n_pos (farther 1 0 (pow-lt {i = 0} (two-le_pos (prec f) (two f)))))

  pub square_root : (y : Float) → T (positive y) → T (fits f y) → in_units f y * in_units f y ≡ n → root_of f x ≡ y
  square_root y p h e =
      let same : answer ≡ in_units f y = sym in_units_lem ∙ root_of_square (in_units f (root_of f x)) (in_units f y) n e (farther_from_root y h) in
      same_value f (in_units f y) (root_of f x) y (root_fits f x held) h
      (subst (λ (a : ℕ). HasValue (root_of f x) false a (2 ^ low f)) same root_value)
      (value_of_units f y p h)
