-- `digests::take_digits` meets its contract. The loop's invariant is the contract itself, of the digits taken so far. Assumes nothing.
use Rattle.digests.specs.Inside.{Runs}
use Rattle.digests.proofs.take_digits.Given as goal

abbrev pub invariant-loop-digits : goal.invariant-loop-digits
invariant-loop-digits l = Runs l.rest l.initial.number (record { number = l.number; digits = l.digits })
