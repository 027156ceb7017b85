-- docs/RULES.md, "The walk": a walk to the gas root of a state, and what it is checked for, in order.
use Rattle.std.specs.Prelude.{◌≡◌, List, [], ◌∷◌, ◌++◌, ℕ, ◌<◌}
use Rattle.refusals.specs.Checks.{Check, ◌if◌}
use Rattle.cubic.specs.Cubic.{GasRoot}
use Rattle.slow_engine.specs.Promise.{way}
use Rattle.fluid.specs.Checks.{state_checks}
use Rattle.fluid.specs.declared.coefficients.Reached.{Reached}
use Rattle.fluid.specs.Promise.{Reaches}

-- the gas root of a state, and how many values of g a walk from N + b down to it works out
pub record GasRootByWalk (number millikelvin pascals gas values : ℕ) : Type 0 where
  pub reached : Reached
  pub reaches : Reaches number millikelvin pascals reached
  pub is_gas : GasRoot reached.reduced.a reached.reduced.b gas
  pub is_way : values ≡ way reached.reduced.b gas

-- the limit is below what the walk asks
pub record CutShort (number millikelvin pascals limit : ℕ) : Type 0 where
  pub gas : ℕ
  pub values : ℕ
  pub by_walk : GasRootByWalk number millikelvin pascals gas values
  pub limit_below : limit < values

abbrev pub walk_checks : (number millikelvin pascals limit : ℕ) → List Check
walk_checks number millikelvin pascals limit = 11 if CutShort number millikelvin pascals limit ∷ []

abbrev pub all_checks : (number millikelvin pascals limit : ℕ) → List Check
all_checks number millikelvin pascals limit = state_checks number millikelvin pascals ++ walk_checks number millikelvin pascals limit
