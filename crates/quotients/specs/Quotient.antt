-- What a quotient of whole numbers is, rounded down.
use Rattle.std.specs.Prelude.{◌≡◌, ℕ, ◌*◌, ◌<◌, ◌≤◌}

-- The largest number whose product with the divisor is at most n. The product of any number with 0 is, so that there is no largest: then it is 0.
pub record Quotient (n divisor r : ℕ) : Type 0 where
  pub product : r * divisor ≤ n
  pub largest : 0 < divisor → (k : ℕ) → k * divisor ≤ n → k ≤ r
  pub of_zero : divisor ≡ 0 → r ≡ 0
