-- What the private functions promise: the quartic in two halves over naturals, what is added less what is taken away. Nothing public is stated
-- by this file: `proofs/Halves.antt` ties the halves to the quartic that is printed.
use Rattle.std.specs.Prelude.{ℕ, ◌+◌, ◌*◌, ◌-◌, ◌/◌}
use Rattle.viscosity.specs.Quartic.{denominator}

-- the four terms with a plus, times the denominator
unfoldable pub added : (thousandths : ℕ) → ℕ
added x = 93324 * (x * x * x * x) + 585330000000 * (x * x) + 233640000000000 * x + 1023000000000000000

-- the term with a minus
unfoldable pub taken : (thousandths : ℕ) → ℕ
taken x = 407580000 * (x * x * x)

abbrev pub quotient : (thousandths : ℕ) → ℕ
quotient x = (added x - taken x) / denominator

-- the largest number whose square has 64 bits
abbrev pub largest_to_square : ℕ
largest_to_square = 4294967295
