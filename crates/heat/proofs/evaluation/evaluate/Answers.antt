-- `heat::evaluate` meets its contract: its operations are the definition's, one for one. Assumes nothing.
use mathlib.Core.Path.{refl}
use Rattle.heat.specs.Evaluation.{step, evaluated}
use Rattle.heat.proofs.evaluation.evaluate.Goals as goal

pub returns : goal.returns
unfolding step evaluated
returns c = refl
