-- `measures::sizes::section_length` meets its contract. The loop's invariant is `Measured`: the length so far, and what is left, make the section's.
-- Assumes nothing.
use Rattle.std.specs.Iterator.Adapters.{zip_first, zip_second}
use Rattle.std.specs.Slice.Iter.{iter_rest}
use Rattle.measures.proofs.Lengths.{Measured}
use Rattle.measures.proofs.sizes.section_length.Given as goal

abbrev pub invariant-loop-temperature : goal.invariant-loop-temperature
invariant-loop-temperature l =
    Measured l.fn.columns.millikelvin.now l.fn.columns.pascals.now (iter_rest (zip_first l.temperature-iterator)) (iter_rest (zip_second l.temperature-iterator)) l.length
