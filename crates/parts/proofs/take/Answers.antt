use mathlib.Core.Path.{sym}
use Rattle.parts.proofs.Turns.{none_gone, fault_uses_up, goes_quietly, ends_state}
use Rattle.parts.proofs.take.Goals as goal

pub loop-from-init : goal.loop-from-init
loop-from-init c = none_gone _ _

pub returns-in_default : goal.returns-in_default
returns-in_default c = rw c.nothing.ensures (fault_uses_up c.loop-from.invariant _ c.in_default.is)

pub returns-then-is_some : goal.returns-then-is_some
returns-then-is_some c = ends_state c.loop-from.invariant _ c.in-Ok.is _ c.go_on-gone.ensures (sym c.if-is_some.ensures)

pub loop-from-preserved : goal.loop-from-preserved
loop-from-preserved c = goes_quietly c.loop-from.invariant _ c.in-Ok.is _ c.go_on-gone.ensures (sym c.if-is_some.ensures)
