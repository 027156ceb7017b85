use mathlib.Core.Path.{sym, ◌∙◌}
use Rattle.digests.proofs.Runs.{one_taken}
use Rattle.digests.proofs.take_digits.Goals as goal

pub loop-digits-preserved : goal.loop-digits-preserved
loop-digits-preserved c = one_taken c.loop-digits.invariant c.loop-digits-test.true (sym c.grown.ensures ∙ c.in-Some.is)
