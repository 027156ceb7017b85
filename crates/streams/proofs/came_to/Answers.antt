-- `streams::came_to` meets its contract: each arm is a case of the definition. Assumes nothing.
use Rattle.std.proofs.Common.{rules}
use Rattle.streams.proofs.Calls.{came_to_nothing, came_to_bytes, came_to_interrupted, came_to_failed}
use Rattle.streams.proofs.came_to.Goals as goal

pub returns-in-Ok-eq0-clause-told : goal.returns-in-Ok-eq0-clause-told
returns-in-Ok-eq0-clause-told c = came_to_nothing _ c.in-Ok-eq0.is (rw c.in-Ok-eq0.is at c.in-Ok-eq0.field-0-test)

pub returns-in-Ok-clause-told : goal.returns-in-Ok-clause-told
returns-in-Ok-clause-told c = came_to_bytes _ c.in-Ok.is (rw c.in-Ok.is at c.in-Ok.count-test.1) c.min.ensures

pub returns-in-Err-clause-told : goal.returns-in-Err-clause-told
returns-in-Err-clause-told c = came_to_interrupted _ c.in-Err.is (search rules)

pub returns-in-Err-2-clause-told : goal.returns-in-Err-2-clause-told
returns-in-Err-2-clause-told c = came_to_failed _ c.in-Err.is (search rules)
