use mathlib.Core.Path.{◌∙◌}
use Rattle.std.proofs.lemmas.List.{take_rest}
use Rattle.digests.proofs.Runs.{steps_on}
use Rattle.digests.proofs.scan.Goals as goal

pub loop-end-preserved : goal.loop-end-preserved
loop-end-preserved c = steps_on _ _ _ c.loop-end-test.true c.if-byte-eq-LINE_END.false c.taken-longer.ensures (rw take_rest at c.go_on-on.ensures) ∙ c.loop-end.invariant
