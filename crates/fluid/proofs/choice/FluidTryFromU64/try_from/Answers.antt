-- `fluid::choice::FluidTryFromU64::try_from` meets its contract: its numbers are those of the fluids. Assumes nothing.
use Rattle.fluid.specs.declared.choice.Fluid.TheVariants.{Hydrogen, Oxygen, Nitrogen}
use Rattle.fluid.proofs.Accepting.{is_fluid}
use Rattle.fluid.proofs.choice.FluidTryFromU64.try_from.Goals as goal

pub returns-in-0 : goal.returns-in-0
returns-in-0 c = (is_fluid Hydrogen c.in-0.is, c.in-0.is)

pub returns-in-1 : goal.returns-in-1
returns-in-1 c = (is_fluid Oxygen c.in-1.is, c.in-1.is)

pub returns-in-2 : goal.returns-in-2
returns-in-2 c = (is_fluid Nitrogen c.in-2.is, c.in-2.is)
