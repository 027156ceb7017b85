-- `streams::fault_line` meets its contract: its parts, one behind another. Assumes nothing.
use mathlib.Core.Path.{refl}
use native.Mathlib.Omega.{arith}
use Rattle.streams.proofs.Faults.{fault_put}
use Rattle.streams.proofs.fault_line.Goals as goal

pub returns : goal.returns
returns c =
    fault_put c.args.what.now c.args.why.now (omega arith) c.put-what_end.ensures c.put-why_begins.ensures refl c.put-why_end.ensures c.put.ensures refl
