-- `texts::put_numbers` meets its contract. The loop's invariant is `SoFar`: the numbers that are left are what is left to put. Assumes nothing.
use Rattle.texts.proofs.Numbers.{SoFar}
use Rattle.texts.proofs.put_numbers.Given as goal

abbrev pub invariant-loop-number : goal.invariant-loop-number
invariant-loop-number l = SoFar l.numbers l.initial.buffer l.at l.number-index l.buffer l.end
