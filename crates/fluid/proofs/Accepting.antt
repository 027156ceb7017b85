-- An accepted state is one to which no check applies, and what is found out of range is the first check that applies. Assumes nothing.
use mathlib.Core.Path.{◌≡◌, refl, sym, subst, ◌∙◌}
use mathlib.Core.Logic.{◌⊎◌, inl, inr}
use mathlib.Core.List.{◌++◌}
use Prim.Native.Nat.{ℕ, ◌≤◌, ◌<◌}
use native.Mathlib.Omega.{arith}
use native.Mathlib.Decide.{dec_le, dec_lt}
use Rattle.refusals.specs.declared.Refusal.TheVariants.{NoSuchFluid, TemperatureTooLow, TemperatureTooHigh, PressureTooLow, PressureTooHigh}
use Rattle.refusals.proofs.Lists.{none_both, none_front, first_front, first_behind}
use Rattle.refusals.proofs.Theorems.{EachDecided}
use Rattle.refusals.specs.Checks.{NoneOf, FirstOf}
use Rattle.fluid.specs.declared.choice.Fluid.{Fluid}
use Rattle.fluid.specs.Figures.{number_of, coldest, hottest, lowest, highest, Accepted}
use Rattle.fluid.specs.Checks.{OfFluid, fluid_checks, temperature_checks, pressure_checks, range_checks, state_checks}
use Rattle.fluid.proofs.Fluids.{last_number, fits, fluid_of, number_of_fluid, number_determines_fluid, no_fluid}

-- what holds of the fluid of a number holds of any fluid of that number
pub of_fluid : {number : ℕ} {Holds : Fluid → Type 0} (fluid : Fluid) → number ≡ number_of fluid → OfFluid number Holds → Holds fluid
of_fluid {Holds = Holds} fluid is_number given =
    subst Holds (number_determines_fluid given.fluid fluid (sym given.is_number ∙ is_number)) given.holds

pub is_fluid : {number : ℕ} (fluid : Fluid) → number ≡ number_of fluid → NoneOf (fluid_checks number)
is_fluid fluid is_number = (λ none. none fluid is_number, tt)

pub unknown_fluid : (number millikelvin pascals : ℕ) {refusal : ℕ} → refusal ≡ 1 → ((fluid : Fluid) → number ≡ number_of fluid → ⊥) → FirstOf (state_checks number millikelvin pascals) refusal
unknown_fluid number millikelvin pascals is_1 none = inl (none, is_1)

-- the temperature alone
module _ {number : ℕ} (fluid : Fluid) (is_number : number ≡ number_of fluid) {millikelvin : ℕ} where
  not_cold : coldest fluid ≤ millikelvin → OfFluid number (λ other. millikelvin < coldest other) → ⊥
  not_cold from out = omega (arith, of_fluid fluid is_number out)

  pub cold_is_21 : {refusal : ℕ} → refusal ≡ 21 → millikelvin < coldest fluid → FirstOf (temperature_checks number millikelvin) refusal
  cold_is_21 is_21 out = inl (record { fluid = fluid; is_number = is_number; holds = out }, is_21)

  pub hot_is_22 : {refusal : ℕ} → refusal ≡ 22 → hottest < millikelvin → FirstOf (temperature_checks number millikelvin) refusal
  hot_is_22 is_22 out = inr (not_cold (omega (arith, (fits fluid).some_range)), inl (out, is_22))

  pub temperature_passes : coldest fluid ≤ millikelvin → millikelvin ≤ hottest → NoneOf (temperature_checks number millikelvin)
  temperature_passes from to = (not_cold from, (λ out. omega arith, tt))

  pub temperature_accepted : NoneOf (temperature_checks number millikelvin) → (coldest fluid ≤ millikelvin) × (millikelvin ≤ hottest)
  temperature_accepted none =
      let cold : millikelvin < coldest fluid → ⊥ = λ out. none.0 (record { fluid = fluid; is_number = is_number; holds = out }) in
      let hot : hottest < millikelvin → ⊥ = none.1.0 in
      (omega arith, omega arith)

module _ {number : ℕ} (fluid : Fluid) (is_number : number ≡ number_of fluid) (millikelvin pascals : ℕ) where
  by_temperature : {refusal : ℕ} → FirstOf (temperature_checks number millikelvin) refusal → FirstOf (state_checks number millikelvin pascals) refusal
  by_temperature {refusal} first =
      first_behind (fluid_checks number) (range_checks number millikelvin pascals) refusal (is_fluid fluid is_number)
      (first_front (temperature_checks number millikelvin) (pressure_checks pascals) refusal first)

  pub too_cold : {refusal : ℕ} → refusal ≡ 21 → millikelvin < coldest fluid → FirstOf (state_checks number millikelvin pascals) refusal
  too_cold is_21 out = by_temperature (cold_is_21 fluid is_number is_21 out)

  pub too_hot : {refusal : ℕ} → refusal ≡ 22 → hottest < millikelvin → FirstOf (state_checks number millikelvin pascals) refusal
  too_hot is_22 out = by_temperature (hot_is_22 fluid is_number is_22 out)

  module _ (from : coldest fluid ≤ millikelvin) (to : millikelvin ≤ hottest) where
    good_temperature : NoneOf (fluid_checks number ++ temperature_checks number millikelvin)
    good_temperature = none_both (fluid_checks number) (temperature_checks number millikelvin) (is_fluid fluid is_number) (temperature_passes fluid is_number from to)

    by_pressure : {refusal : ℕ} → FirstOf (pressure_checks pascals) refusal → FirstOf (state_checks number millikelvin pascals) refusal
    by_pressure {refusal} = first_behind (fluid_checks number ++ temperature_checks number millikelvin) (pressure_checks pascals) refusal good_temperature

    pub too_low : {refusal : ℕ} → refusal ≡ 31 → pascals < lowest → FirstOf (state_checks number millikelvin pascals) refusal
    too_low is_31 out = by_pressure (inl (out, is_31))

    pub too_high : {refusal : ℕ} → refusal ≡ 32 → highest < pascals → FirstOf (state_checks number millikelvin pascals) refusal
    too_high is_32 out = by_pressure (inr (λ low. omega arith, inl (out, is_32)))

  pub passes : Accepted fluid millikelvin pascals → NoneOf (state_checks number millikelvin pascals)
  passes accepted =
      none_both (fluid_checks number ++ temperature_checks number millikelvin) (pressure_checks pascals)
      (good_temperature accepted.from_coldest accepted.to_hottest)
      (λ out. omega arith, (λ out. omega arith, tt))

  pub accepts : NoneOf (state_checks number millikelvin pascals) → Accepted fluid millikelvin pascals
  accepts none =
      let temperature = temperature_accepted fluid is_number (none_front (temperature_checks number millikelvin) (pressure_checks pascals) none.1) in
      let low : pascals < lowest → ⊥ = none.1.1.1.0 in
      let high : highest < pascals → ⊥ = none.1.1.1.1.0 in
      record { from_coldest = temperature.0; to_hottest = temperature.1; from_lowest = omega arith; to_highest = omega arith }

-- each check can be decided
pub fluid_or_none : (number : ℕ) → ((fluid : Fluid) × (number ≡ number_of fluid)) ⊎ ((fluid : Fluid) → number ≡ number_of fluid → ⊥)
fluid_or_none number = up_to_last (dec_le number last_number)
  where
    up_to_last : Dec (number ≤ last_number) → ((fluid : Fluid) × (number ≡ number_of fluid)) ⊎ ((fluid : Fluid) → number ≡ number_of fluid → ⊥)
    up_to_last (yes few) = inl (fluid_of number, number_of_fluid number few)
    up_to_last (no above) = inr (no_fluid (omega arith))

pub state_decided : (number millikelvin pascals : ℕ) → EachDecided (state_checks number millikelvin pascals)
state_decided number millikelvin pascals =
    let known = fluid_or_none number in (
      record { refusal = NoSuchFluid; is_number = refl; decide = unknown known },
      (
        record { refusal = TemperatureTooLow; is_number = refl; decide = cold known },
        (
          record { refusal = TemperatureTooHigh; is_number = refl; decide = dec_lt hottest millikelvin },
          (
            record { refusal = PressureTooLow; is_number = refl; decide = dec_lt pascals lowest },
            (record { refusal = PressureTooHigh; is_number = refl; decide = dec_lt highest pascals }, tt),
          ),
        ),
      ),
    )
  where
    unknown : ((fluid : Fluid) × (number ≡ number_of fluid)) ⊎ ((fluid : Fluid) → number ≡ number_of fluid → ⊥) → Dec ((fluid : Fluid) → number ≡ number_of fluid → ⊥)
    unknown (inl known) = no (λ none. none known.0 known.1)
    unknown (inr none) = yes none

    of_known : (fluid : Fluid) → number ≡ number_of fluid → Dec (millikelvin < coldest fluid) → Dec (OfFluid number (λ other. millikelvin < coldest other))
    of_known fluid is_number (yes out) = yes (record { fluid = fluid; is_number = is_number; holds = out })
    of_known fluid is_number (no f) = no (λ given. f (of_fluid fluid is_number given))

    cold : ((fluid : Fluid) × (number ≡ number_of fluid)) ⊎ ((fluid : Fluid) → number ≡ number_of fluid → ⊥) → Dec (OfFluid number (λ fluid. millikelvin < coldest fluid))
    cold (inl known) = of_known known.0 known.1 (dec_lt millikelvin (coldest known.0))
    cold (inr none) = no (λ given. none given.fluid given.is_number)
