-- `writer::putting::put_section` meets its contract. The loop's invariant is `Written`: the lines of the states that are left are what is left to put.
-- Assumes nothing.
use Rattle.std.specs.Iterator.Adapters.{zip_first, zip_second}
use Rattle.std.specs.Slice.Iter.{iter_rest}
use Rattle.writer.proofs.Lines.{Written}
use Rattle.writer.proofs.putting.put_section.Given as goal

abbrev pub invariant-loop-temperature : goal.invariant-loop-temperature
invariant-loop-temperature l =
    Written l.fn.columns.millikelvin.now l.fn.columns.pascals.now l.initial.buffer l.initial.end (iter_rest (zip_first l.temperature-iterator)) (iter_rest (zip_second l.temperature-iterator)) l.buffer l.end
