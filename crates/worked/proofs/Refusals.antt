-- The test of a refused row. A refusal that does not look at the pressure, or at the slot, is given for each of them. Assumes nothing.
use mathlib.Core.Path.{◌≡◌, refl}
use mathlib.Core.Logic.{inl, inr}
use Prim.Native.Nat.{ℕ, ◌<◌}
use Rattle.refusals.specs.Checks.{FirstOf, refuses}
use Rattle.refusals.proofs.Lists.{first_front, first_behind}
use Rattle.books.specs.Layouts.{last_slot}
use Rattle.fluid.specs.declared.choice.Fluid.{Fluid}
use Rattle.fluid.specs.Figures.{number_of, coldest, hottest, lowest, highest, Accepted}
use Rattle.fluid.specs.Checks.{state_checks}
use Rattle.fluid.proofs.Fluids.{last_number, fluid_of, no_fluid}
use Rattle.fluid.proofs.Accepting.{unknown_fluid, too_cold, too_hot, too_low, too_high, passes}
use Rattle.replies.specs.Figures.{refused_with}
use Rattle.worked.specs.Rows.{Span, in_book, Replied, RightRefusal}
use Rattle.worked.proofs.Tests.{Tested, by, ◌with◌, ◌or◌, equal, at_most, below}
use Rattle.worked.proofs.Spans.{for_each, at_each}
use Rattle.worked.proofs.Answers.{accepted}

-- a state's own refusal is given with a book too
pub before_slot : (number millikelvin pascals slot refusal : ℕ) → FirstOf (state_checks number millikelvin pascals) refusal → Replied number millikelvin pascals slot (refused_with refusal)
before_slot number millikelvin pascals slot refusal first =
    refuses refusal (first_front (state_checks number millikelvin pascals) (in_book slot) refusal first) refl

module _ (number millikelvin refusal : ℕ) where
  abbrev pub unknown : Tested ((pascals : ℕ) → FirstOf (state_checks number millikelvin pascals) refusal)
  unknown =
      by (λ is_1 above pascals. unknown_fluid number millikelvin pascals is_1 (no_fluid above)) with equal refusal 1 with below last_number number

  module _ (fluid : Fluid) where
    abbrev pub temperature : Tested ((pascals : ℕ) → FirstOf (state_checks number millikelvin pascals) refusal)
    temperature =
        by (λ is_number is_21 out pascals. too_cold fluid is_number millikelvin pascals is_21 out)
        with equal number (number_of fluid) with equal refusal 21 with below millikelvin (coldest fluid)
        or by (λ is_number is_22 out pascals. too_hot fluid is_number millikelvin pascals is_22 out)
        with equal number (number_of fluid) with equal refusal 22 with below hottest millikelvin

    abbrev pub pressure : (pascals : ℕ) → Tested (FirstOf (state_checks number millikelvin pascals) refusal)
    pressure pascals =
        by (λ is_number from to is_31 out. too_low fluid is_number millikelvin pascals from to is_31 out)
        with equal number (number_of fluid) with at_most (coldest fluid) millikelvin with at_most millikelvin hottest with equal refusal 31 with below pascals lowest
        or by (λ is_number from to is_32 out. too_high fluid is_number millikelvin pascals from to is_32 out)
        with equal number (number_of fluid) with at_most (coldest fluid) millikelvin with at_most millikelvin hottest with equal refusal 32 with below highest pascals

    pub past_slots : refusal ≡ 4 → number ≡ number_of fluid → (pascals slot : ℕ) → Accepted fluid millikelvin pascals → last_slot < slot → Replied number millikelvin pascals slot (refused_with refusal)
    past_slots is_4 is_number pascals slot accepted past =
        refuses refusal
        (first_behind (state_checks number millikelvin pascals) (in_book slot) refusal (passes fluid is_number millikelvin pascals accepted) (inl (inr past, is_4)))
        refl

    abbrev pub slot_past : (pascals slot : ℕ) → Tested (Replied number millikelvin pascals slot (refused_with refusal))
    slot_past pascals slot =
        by (λ is_4 is_number accepted past. past_slots is_4 is_number pascals slot accepted past)
        with equal refusal 4 with equal number (number_of fluid) with accepted fluid millikelvin pascals with below last_slot slot

  module _ (pressures slots : Span) where
    abbrev pub at_every_pressure : Tested ((pascals : ℕ) → FirstOf (state_checks number millikelvin pascals) refusal) → Tested (RightRefusal number millikelvin pressures slots refusal)
    at_every_pressure tested =
        by (λ first. at_each pressures (λ pascals. at_each slots (λ slot. before_slot number millikelvin pascals slot refusal (first pascals)))) with tested

    abbrev pub of_fluid : (fluid : Fluid) → Tested (RightRefusal number millikelvin pressures slots refusal)
    of_fluid fluid =
        at_every_pressure (temperature fluid)
        or for_each pressures
        (λ pascals. by (λ first. at_each slots (λ slot. before_slot number millikelvin pascals slot refusal first)) with pressure fluid pascals)
        or for_each pressures (λ pascals. for_each slots (λ slot. slot_past fluid pascals slot))

    abbrev pub right_refusal : Tested (RightRefusal number millikelvin pressures slots refusal)
    right_refusal = at_every_pressure unknown or of_fluid (fluid_of number)
