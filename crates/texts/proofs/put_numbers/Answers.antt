use mathlib.Core.Path.{refl}
use native.Mathlib.Omega.{arith}
use Rattle.texts.proofs.Numbers.{one_more_taken}
use Rattle.texts.proofs.put_numbers.Goals as goal

pub loop-number-preserved : goal.loop-number-preserved
loop-number-preserved c = one_more_taken c.loop-number.invariant (omega arith) c.put_spaced-end.ensures refl
