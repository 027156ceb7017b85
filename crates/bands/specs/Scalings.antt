-- docs/RULES.md, "The band": a scaled by whole numbers of thousandths, the gas root that a state then has, and what a band is checked for, in order.
use Rattle.std.specs.Prelude.{◌⊎◌, List, [], ◌∷◌, ◌++◌, ℕ, ◌*◌, ◌/◌, ◌≤◌, ◌<◌}
use Rattle.refusals.specs.Checks.{Check, ◌if◌}
use Rattle.cubic.specs.Cubic.{GasRoot}
use Rattle.fluid.specs.Checks.{state_checks}
use Rattle.fluid.specs.declared.coefficients.Reached.{Reached}
use Rattle.fluid.specs.Promise.{Reaches}

-- a in so many thousandths of itself, rounded down
unfoldable pub scaled : (a thousandths : ℕ) → ℕ
scaled a thousandths = a * thousandths / 1000

-- b is the state's own
pub record ScaledGasRoot (number millikelvin pascals thousandths gas : ℕ) : Type 0 where
  pub reached : Reached
  pub reaches : Reaches number millikelvin pascals reached
  pub is_gas : GasRoot (scaled reached.reduced.a thousandths) reached.reduced.b gas

-- the range of a scaling
abbrev pub least : ℕ
least = 500

abbrev pub most : ℕ
most = 1500

abbrev pub OutOfRange : (thousandths : ℕ) → Type 0
OutOfRange thousandths = (thousandths < least) ⊎ (most < thousandths)

-- equal ones are in order
abbrev pub OutOfOrder : (lower upper : ℕ) → Type 0
OutOfOrder lower upper = upper < lower

abbrev pub NotAllowed : (lower upper : ℕ) → Type 0
NotAllowed lower upper = OutOfRange lower ⊎ OutOfRange upper ⊎ OutOfOrder lower upper

abbrev pub scaling_checks : (lower upper : ℕ) → List Check
scaling_checks lower upper = 13 if NotAllowed lower upper ∷ []

abbrev pub all_checks : (number millikelvin pascals lower upper : ℕ) → List Check
all_checks number millikelvin pascals lower upper = state_checks number millikelvin pascals ++ scaling_checks lower upper

-- the same without the list
pub record Allowed (lower upper : ℕ) : Type 0 where
  pub from_least : least ≤ lower
  pub in_order : lower ≤ upper
  pub to_most : upper ≤ most
