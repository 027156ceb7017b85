use Rattle.std.proofs.Common.{rules}
use Rattle.std.proofs.lemmas.Iterator.{empty_from_Zip}
use Rattle.measures.proofs.Lengths.{count_measured, line_measured, all_measured}
use Rattle.measures.proofs.sizes.section_length.Goals as goal

pub loop-temperature-init : goal.loop-temperature-init
loop-temperature-init c = search (rules, count_measured)

pub loop-temperature-preserved : goal.loop-temperature-preserved
loop-temperature-preserved c =
    line_measured (rw (c.in-Some.ensures.steps.0, c.in-Some.ensures.steps.1) at c.loop-temperature.invariant) c.width.ensures c.width-in-loop-temperature.ensures

pub returns : goal.returns
returns c =
    let none = empty_from_Zip _ c.next.new.self _ c.in-None.is c.next.ensures.steps (search rules) in
    all_measured (rw none.0 at c.loop-temperature.invariant)
