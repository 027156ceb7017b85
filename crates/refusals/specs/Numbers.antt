-- docs/RULES.md, "Replies": the number of each refusal of a state, and what a result that brings a value or a refusal comes back as.
use Rattle.std.specs.Prelude.{ℕ, Result, Ok, Err}
use Rattle.refusals.specs.Checks.{Outcome, with_value, with_number}
use Rattle.refusals.specs.declared.Refusal.{Refusal}
use Rattle.refusals.specs.declared.Refusal.TheVariants.{NoSuchFluid, TemperatureTooLow, TemperatureTooHigh, PressureTooLow, PressureTooHigh, NoSuchSide, NoSuchSlot, WalkCutShort, ScalingOutOfRange, RootDiffers}

abbrev pub number_of_refusal : Refusal → ℕ
number_of_refusal NoSuchFluid = 1
number_of_refusal TemperatureTooLow = 21
number_of_refusal TemperatureTooHigh = 22
number_of_refusal PressureTooLow = 31
number_of_refusal PressureTooHigh = 32
number_of_refusal NoSuchSide = 12
number_of_refusal NoSuchSlot = 4
number_of_refusal WalkCutShort = 11
number_of_refusal ScalingOutOfRange = 13
number_of_refusal RootDiffers = 14

abbrev pub outcome : {Value : Type 0} → Result Value Refusal → Outcome Value
outcome (Ok value) = with_value value
outcome (Err refusal) = with_number (number_of_refusal refusal)
