use mathlib.Core.Path.{refl}
use Rattle.std.proofs.Common.{rules}
use Rattle.std.proofs.lemmas.Iterator.{empty_from_Zip}
use Rattle.writer.proofs.Lines.{state_fits, state_written, all_written, begins, section_put}
use Rattle.writer.proofs.putting.put_section.Goals as goal

pub returns : goal.returns
returns c =
    let none = empty_from_Zip _ c.next.new.self _ c.in-None.is c.next.ensures.steps (search rules) in
    section_put c.requires c.put_number-count_end.ensures c.put-end.ensures refl refl (all_written (rw none.0 at c.loop-temperature.invariant))

pub loop-temperature-init : goal.loop-temperature-init
loop-temperature-init c =
    begins c.requires c.put_number-count_end.ensures c.put-end.ensures refl refl (search rules) (search rules)

pub loop-temperature-preserved : goal.loop-temperature-preserved
loop-temperature-preserved c =
    state_written (rw (c.in-Some.ensures.steps.0, c.in-Some.ensures.steps.1) at c.loop-temperature.invariant) c.put_state-end.ensures

pub put_state-end-requires : goal.put_state-end-requires
put_state-end-requires c = state_fits (rw (c.in-Some.ensures.steps.0, c.in-Some.ensures.steps.1) at c.loop-temperature.invariant)
