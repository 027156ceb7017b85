-- What is told of a temperature in each case: one of hydrogen's refusals, or the heat capacity. Assumes nothing.
use mathlib.Core.Path.{◌≡◌, refl, subst}
use Prim.Native.Nat.{ℕ, ◌+◌, ◌/◌, ◌%◌, ◌<◌}
use native.Mathlib.Omega.{arith}
use Rattle.refusals.specs.Checks.{refuses, answers}
use Rattle.fluid.specs.declared.choice.Fluid.TheVariants.{Hydrogen}
use Rattle.fluid.specs.Figures.{coldest, hottest}
use Rattle.fluid.proofs.Accepting.{cold_is_21, hot_is_22, temperature_passes}
use Rattle.heat_table.specs.Entries.{Entry}
use Rattle.heat_table.specs.Line.{OnLine, HeatAt}
use Rattle.heat_table.specs.Replies.{answered_with, refused_with, Replies}
use Rattle.heat_table.proofs.Heats.{at_kelvin}

module _ {millikelvin : ℕ} where
  pub tells_too_low : millikelvin < coldest Hydrogen → Replies millikelvin (refused_with 21)
  tells_too_low cold = refuses 21 (cold_is_21 Hydrogen refl refl cold) refl

  pub tells_too_high : hottest < millikelvin → Replies millikelvin (refused_with 22)
  tells_too_high hot = refuses 22 (hot_is_22 Hydrogen refl refl hot) refl

  -- a temperature on a line is in range, as the table is
  pub tells_heat : {heat : ℕ} → HeatAt millikelvin heat → Replies millikelvin (answered_with heat)
  tells_heat at =
      answers
      (temperature_passes Hydrogen refl (omega (arith, at.is_past, at.is_below.from_first)) (omega (arith, at.is_past, at.on_line.is_ahead, at.is_above.to_last)))
      (record { heat = _; is_heat = at; is_figures = refl })

  -- as the code finds it: on the line from the whole kelvin below, or at the last
  pub tells_on_line : {below above heat : ℕ} → Entry (millikelvin / 1000) below → Entry (millikelvin / 1000 + 1) above → OnLine below above (millikelvin % 1000) heat → Replies millikelvin (answered_with heat)
  tells_on_line is_below is_above on_line =
      tells_heat
      (record {
        kelvin = millikelvin / 1000;
        past = millikelvin % 1000;
        is_past = omega arith;
        below = _;
        is_below = is_below;
        above = _;
        is_above = is_above;
        on_line = on_line;
      })

  pub tells_last : {heat : ℕ} → millikelvin ≡ hottest → Entry (millikelvin / 1000) heat → Replies millikelvin (answered_with heat)
  tells_last {heat} is_hottest is_entry = tells_heat (subst (λ (t : ℕ). HeatAt t heat) (omega arith) (at_kelvin is_entry))
