-- What the private functions ask and promise: t and p as one value, and numbers that 64 bits hold. Nothing public is stated by this file.
use Rattle.std.specs.Prelude.{ℕ, ◌*◌, ◌/◌, ◌≤◌, ◌<◌}
use Rattle.fluid.specs.declared.choice.Fluid.{Fluid}
use Rattle.fluid.specs.declared.choice.Ratios.{Ratios}
use Rattle.fluid.specs.Figures.{critical_millikelvin, critical_pascals, hottest}

abbrev pub ratios_of : Fluid → (millikelvin pascals : ℕ) → Ratios
ratios_of fluid millikelvin pascals =
    record {
      t = 10000 * millikelvin / critical_millikelvin fluid millikelvin;
      p = 1000000 * pascals / critical_pascals fluid millikelvin;
    }

pub record LoweredFits (hot shift millikelvin : ℕ) : Type 0 where
  pub hot_fits : hot ≤ 10000000
  pub some_shift : 0 < shift
  pub shift_fits : shift ≤ 10000000000
  pub temperature_fits : millikelvin ≤ hottest
