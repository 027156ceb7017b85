-- Squares of whole numbers. Assumes nothing.
use Prim.Native.Nat.{ℕ, ◌+◌, ◌*◌, ◌-◌, ◌≤◌}
use native.Mathlib.Nat.{add-sub_of_le, le_of_lt, lt_of_not-le}
use native.Mathlib.Omega.{arith}
use native.Mathlib.Decide.{dec_le}

-- the square of a difference is not negative
pub twice_product : (x y : ℕ) → 2 * (x * y) ≤ x * x + y * y
twice_product x y = by_order (dec_le x y)
  where
    apart : (x d : ℕ) → 2 * (x * (x + d)) ≤ x * x + (x + d) * (x + d)
    apart x d = omega arith

    by_order : Dec (x ≤ y) → 2 * (x * y) ≤ x * x + y * y
    by_order (yes h) = rw add-sub_of_le at (apart x (y - x))
    by_order (no f) = omega (arith, rw (add-sub_of_le (le_of_lt (lt_of_not-le f))) at (apart y (x - y)))
