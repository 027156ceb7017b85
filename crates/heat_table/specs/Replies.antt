-- docs/RULES.md, "The heat table": what comes back of a temperature, and when. A refusal brings its number and zero.
use Rattle.std.specs.Prelude.{◌≡◌, List, ℕ, Result, Ok, Err}
use Rattle.refusals.specs.Checks.{Check, Tells}
use Rattle.refusals.specs.declared.Refusal.{Refusal}
use Rattle.refusals.specs.Numbers.{number_of_refusal}
use Rattle.fluid.specs.declared.choice.Fluid.TheVariants.{Hydrogen}
use Rattle.fluid.specs.Figures.{number_of}
use Rattle.fluid.specs.Checks.{temperature_checks}
use Rattle.heat_table.specs.declared.replies.TableFigures.{TableFigures}
use Rattle.heat_table.specs.Line.{HeatAt}

-- 21 and 22, by hydrogen's own range
abbrev pub hydrogen_checks : (millikelvin : ℕ) → List Check
hydrogen_checks millikelvin = temperature_checks (number_of Hydrogen) millikelvin

abbrev pub answered_with : (heat : ℕ) → TableFigures
answered_with heat = record { number = 0; heat = heat }

abbrev pub refused_with : (refusal : ℕ) → TableFigures
refused_with refusal = record { number = refusal; heat = 0 }

abbrev pub figures_of : Result ℕ Refusal → TableFigures
figures_of (Ok heat) = answered_with heat
figures_of (Err refusal) = refused_with (number_of_refusal refusal)

abbrev pub NumberAndZero : (refusal : ℕ) → TableFigures → Type 0
NumberAndZero refusal figures = figures ≡ refused_with refusal

pub record Answered (millikelvin : ℕ) (figures : TableFigures) : Type 0 where
  pub heat : ℕ
  pub is_heat : HeatAt millikelvin heat
  pub is_figures : figures ≡ answered_with heat

abbrev pub Replies : (millikelvin : ℕ) → TableFigures → Type 0
Replies millikelvin = Tells (hydrogen_checks millikelvin) NumberAndZero (Answered millikelvin)
