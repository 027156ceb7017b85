-- What the private functions ask and promise. Nothing public is stated by this file.
use Rattle.std.specs.Prelude.{ℕ, ◌+◌, ◌*◌, ◌/◌, ◌^◌, ◌≤◌, ◌<◌}
use Rattle.squares.specs.SquareRoot.{SquareRoot}

-- a number of 32 bits has so many pairs of digits, and its root is at most so large
abbrev pub all_pairs : ℕ
all_pairs = 5

abbrev pub largest_root : ℕ
largest_root = 65535

-- where so many pairs of n are left, root is the square root of the number that those taken make
pub record AfterPairs (n pairs_left root : ℕ) : Type 0 where
  pub of_all : pairs_left ≤ all_pairs
  pub is_root : SquareRoot (n / 100 ^ pairs_left) root

-- by how much the square of 10 root + digit is larger than that of 10 root
abbrev pub product : ℕ → ℕ → ℕ
product root digit = (20 * root + digit) * digit

-- what is left where one digit is to follow: too little for ten
pub record ForOneDigit (root left : ℕ) : Type 0 where
  pub root_to : root ≤ largest_root
  pub below_ten : left < product root 10

-- the digit that comes next: the largest whose product is at most what is left
pub record NextDigit (root left digit : ℕ) : Type 0 where
  pub fits : product root digit ≤ left
  pub largest : (k : ℕ) → product root k ≤ left → k ≤ digit
