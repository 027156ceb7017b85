use native.Mathlib.Omega.{arith}
use Rattle.measures.proofs.Lengths.{all_digits}
use Rattle.measures.proofs.sizes.width.Goals as goal

pub returns : goal.returns
returns c = all_digits c.loop-above.invariant c.requires (omega arith)
