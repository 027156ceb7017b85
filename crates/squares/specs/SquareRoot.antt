-- docs/RULES.md, "From a state to the cubic": "the largest whole number whose square is at most" n.
use Rattle.std.specs.Prelude.{ℕ, ◌*◌, ◌≤◌}

pub record SquareRoot (n root : ℕ) : Type 0 where
  pub square : root * root ≤ n
  pub largest : (k : ℕ) → k * k ≤ n → k ≤ root
