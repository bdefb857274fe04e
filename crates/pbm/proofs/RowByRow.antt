-- Where column x of row y stands in a list that has row after row, each of w: its place says both, and lies below the end. Assumes nothing.
use Prim.Native.Nat.{ℕ, suc, ◌+◌, ◌*◌, ◌/◌, ◌%◌, ◌≤◌, ◌<◌}
use mathlib.Core.Path.{◌≡◌, ap, ◌∙◌}
use native.Mathlib.Nat.{add_comm, add-zero, add-mul-mod_self_right, mod-eq_of_lt, mul-add-div_right, div-eq_of_lt, mul-le-mul_right, suc-mul, mul_comm}
use native.Mathlib.Omega.{arith}

module _ (w x y : ℕ) (column : x < w) where
  pub place_column : (y * w + x) % w ≡ x
  place_column = ap (λ (n : ℕ). n % w) (add_comm (y * w) x) ∙ add-mul-mod_self_right x y w ∙ mod-eq_of_lt column

  pub place_row : (y * w + x) / w ≡ y
  place_row = mul-add-div_right (omega arith) y x ∙ ap (λ (n : ℕ). y + n) (div-eq_of_lt column) ∙ add-zero y

  pub place_below : (h : ℕ) → y < h → y * w + x < w * h
  place_below h row =
      let l : suc y * w ≤ h * w = mul-le-mul_right w row in
      omega (arith, l, suc-mul y w, mul_comm w h)
