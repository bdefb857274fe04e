-- A root in whole numbers: the nearest whole number to it, and how much of it is found.
use Rattle.std.specs.Prelude.{ℕ, ◌+◌, ◌*◌, ◌≤◌, ◌<◌, ◌≡◌}

-- r is the whole number nearest to the root of n: the root lies between r - 1/2 and r + 1/2, whose squares are r * r - r and r * r + r, and a
-- quarter more.
pub record NearestWhole (n r : ℕ) : Type 0 where
  pub not_less : r * r < n + r
  pub not_more : n ≤ r * r + r

-- Of the root of n, root is found, all but for less than p, and left is what n has above the square of root. Where p is 1, root is the whole
-- part of the root of n.
pub record Found (n root left p : ℕ) : Type 0 where
  pub square : root * root + left ≡ n
  pub near : left < (root * 2 + p) * p
