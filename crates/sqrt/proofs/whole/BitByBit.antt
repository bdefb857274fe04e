-- The arithmetic of a root found bit by bit: one turn tries the next bit, b, of half the weight of the last one. Nothing here is about words.
-- Assumes nothing.
use Prim.Native.Nat.{ℕ, suc, zero, ◌+◌, ◌-◌, ◌*◌, ◌/◌, ◌^◌, ◌≤◌, ◌<◌}
use mathlib.Core.Path.{◌≡◌, refl, ap, ◌∙◌}
use native.Mathlib.Nat.{mul-lt-mul_of_pos_right, lt_of_mul-lt-mul_right, mul_assoc, pow-succ'}
use native.Mathlib.Omega.{arith}
use lib.Pow.{pow_pos}
use Rattle.sqrt.specs.inside.Whole.{Found, NearestWhole}

module _ (n root left b : ℕ) (so_far : Found n root left (2 * b)) where
  -- the bit belongs to the root: its square with the bit is at most n
  pub bit_set : (root * 2 + b) * b ≤ left → Found n (root + b) (left - (root * 2 + b) * b) b
  bit_set h = record { square = omega (arith, so_far.square); near = omega (arith, so_far.near) }

  -- it does not
  pub bit_clear : left < (root * 2 + b) * b → Found n root left b
  bit_clear h = record { square = so_far.square; near = h }

-- ---- with no product: what is left, in units of the bit

-- The bits of the root of n are tried down to the one of weight bit, a power of two: twice is twice the root so far, and left times bit is what n
-- has above its square.
pub record Tried (n twice left bit : ℕ) : Type 0 where
  pub place : ℕ
  pub power : bit ≡ 2 ^ place
  pub root : ℕ
  pub doubled : twice ≡ root * 2
  pub found : Found n root (left * bit) bit

-- before the first turn the leading bit is set
pub started : (n : ℕ) → 2 ^ 52 ≤ n → n < 2 ^ 54 → Tried (n * 2 ^ 52) (2 ^ 53) (n - 2 ^ 52) (2 ^ 52)
started n long short =
    record { place = 52; power = refl; root = 2 ^ 52; doubled = refl; found = found }
  where
    found : Found (n * 2 ^ 52) (2 ^ 52) ((n - 2 ^ 52) * 2 ^ 52) (2 ^ 52)
    found = record { square = omega arith; near = omega arith }

module _ (n twice left bit : ℕ) (so_far : Tried n twice left bit) where
  pub bit_positive : 0 < bit
  bit_positive = rw so_far.power (pow_pos so_far.place)

  -- what is left stays small, so that a word holds it
  pub left_small : left < twice + bit
  left_small = lt_of_mul-lt-mul_right bit (rw so_far.doubled so_far.found.near)

  module _ (more : 1 < bit) where
    -- the bit that is tried next
    abbrev b : ℕ
    b = bit / 2

    half : (k : ℕ) → so_far.place ≡ k → (j : ℕ) × (bit ≡ 2 * 2 ^ j)
    half zero e = absurd (omega (arith, so_far.power, ap (λ (i : ℕ). 2 ^ i) e))
    half (suc j) e = (j, so_far.power ∙ ap (λ (i : ℕ). 2 ^ i) e ∙ pow-succ' 2 j)

    power : (j : ℕ) × (b ≡ 2 ^ j)
    power = let h = half so_far.place refl in (h.0, omega (arith, h.1))

    twice_b : 2 * b ≡ bit
    twice_b = let h = half so_far.place refl in omega (arith, h.1)

    found : Found n so_far.root (left * 2 * b) (2 * b)
    found = let f : Found n so_far.root (left * (2 * b)) (2 * b) = rw (← twice_b) at so_far.found in rw (mul_assoc left 2 b) f

    next : twice + b ≡ so_far.root * 2 + b
    next = ap (λ (t : ℕ). t + b) so_far.doubled

    pub is_set : twice + b ≤ left * 2 → Tried n (twice + b + b) (left * 2 - (twice + b)) b
    is_set h = by_rest (left * 2 - (twice + b)) (omega arith)
      where
        by_rest : (d : ℕ) → left * 2 ≡ d + (so_far.root * 2 + b) → Tried n (twice + b + b) d b
        by_rest d e =
            let set : Found n (so_far.root + b) (left * 2 * b - (so_far.root * 2 + b) * b) b =
            bit_set n so_far.root (left * 2 * b) b found (omega (arith, ap (λ (x : ℕ). x * b) e)) in
            let rest : left * 2 * b - (so_far.root * 2 + b) * b ≡ d * b = omega (arith, ap (λ (x : ℕ). x * b) e) in
            record {
              place = power.0;
              power = power.1;
              root = so_far.root + b;
              doubled = omega (arith, so_far.doubled);
              found = rw rest at set;
            }

    pub is_clear : left * 2 < twice + b → Tried n twice (left * 2) b
    is_clear h =
        record {
          place = power.0;
          power = power.1;
          root = so_far.root;
          doubled = so_far.doubled;
          found =
              bit_clear n so_far.root (left * 2 * b) b found
              (mul-lt-mul_of_pos_right (rw next at h) (omega (arith, twice_b)));
        }

-- all bits are tried
pub all_tried : (n twice left bit : ℕ) → bit ≤ 1 → Tried n twice left bit → Found n (twice / 2) left 1
all_tried n twice left bit done tried =
    let one : bit ≡ 1 = omega (arith, bit_positive n twice left bit tried) in
    let root : twice / 2 ≡ tried.root = omega (arith, tried.doubled) in
    let found : Found n tried.root (left * 1) 1 = rw one at tried.found in
    rw root (record { square = omega (arith, found.square); near = omega (arith, found.near) })

-- ---- a whole root that is found: what is left says which whole number is nearest

module _ (n root left : ℕ) (found : Found n root left 1) where
  pub rounds_up : root < left → NearestWhole n (root + 1)
  rounds_up h = omega (arith, found.square, found.near)

  pub rounds_down : 0 < n → left ≤ root → NearestWhole n root
  rounds_down p h = by_root root found.square h
    where
      by_root : (root : ℕ) → root * root + left ≡ n → left ≤ root → NearestWhole n root
      by_root zero e h = omega arith
      by_root (suc root) e h = omega arith

-- for the proof of `rounded_root`
pub ruleset tries = (started, bit_positive, left_small, is_set, is_clear, all_tried, rounds_up, rounds_down)
