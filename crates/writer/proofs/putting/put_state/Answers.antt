-- `writer::putting::put_state` meets its contract: its parts, one behind another. Assumes nothing.
use mathlib.Core.Path.{refl}
use Rattle.writer.proofs.Lines.{state_put}
use Rattle.writer.proofs.putting.put_state.Goals as goal

pub returns : goal.returns
returns c =
    state_put c.requires c.put_number-temperature_end.ensures c.put-pressure_start.ensures c.put_number-pressure_end.ensures c.put.ensures refl refl
