-- A sheet has a section for each fluid: every state line names one, so that no line is refused by 1, and every fluid has its section.
-- Assumes nothing.
use mathlib.Core.Path.{◌≡◌}
use mathlib.Core.List.{List}
use Prim.Native.Nat.{ℕ, ◌<◌}
use native.Mathlib.Omega.{arith}
use Rattle.fluid.specs.declared.choice.Fluid.{Fluid}
use Rattle.fluid.specs.Figures.{number_of}
use Rattle.fluid.proofs.Fluids.{fits}
use Rattle.fluid.proofs.Theorems.{fluid_up_to_two}
use Rattle.sheets.specs.Grammar.{all_sections, Pair, Good, states_from}
use Rattle.sheets.proofs.Fluids.{EachFluid, each_fluid}

pub every_line_has_a_fluid : (bytes : List ℕ) (lists : List (List Pair)) → Good all_sections bytes lists → EachFluid (λ number. (fluid : Fluid) × (number ≡ number_of fluid)) (states_from 0 lists)
every_line_has_a_fluid bytes lists good =
    each_fluid (λ number. (fluid : Fluid) × (number ≡ number_of fluid)) 0 lists (λ number from to. fluid_up_to_two number (omega (arith, good.has_sections)))

pub every_fluid_has_a_section : (fluid : Fluid) → number_of fluid < all_sections
every_fluid_has_a_section fluid = omega (arith, (fits fluid).number_fits)
