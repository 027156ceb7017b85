-- docs/RULES.md, "Crossings, roots and kinds": what an engine for the cubic promises, the two roots of the definitions, for a and b within
-- bounds for which 64 bits suffice. No starting point occurs here.
use Rattle.std.specs.Prelude.{ℕ, ◌≤◌}
use Rattle.cubic.specs.Cubic.{GasRoot, DenseRoot}

-- Every accepted state of hydrogen, oxygen and nitrogen has a up to 10969036 and b up to 954341;
-- the bound on a leaves room for an a that is scaled by a half more.
abbrev pub largest_a : ℕ
largest_a = 20000000

abbrev pub largest_b : ℕ
largest_b = 1000000

pub record Within (a b : ℕ) : Type 0 where
  pub a_fits : a ≤ largest_a
  pub b_fits : b ≤ largest_b

pub record BothRoots (a b gas dense : ℕ) : Type 0 where
  pub within : Within a b
  pub is_gas : GasRoot a b gas
  pub is_dense : DenseRoot a b dense
