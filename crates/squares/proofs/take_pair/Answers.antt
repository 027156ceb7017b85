-- `squares::take_pair` meets its contract: the next digit is right for what is left. Assumes nothing.
use native.Mathlib.Omega.{arith}
use Rattle.squares.proofs.Pairs.{tens_fit, for_one_digit, after_pair}
use Rattle.squares.proofs.take_pair.Goals as goal

pub returns : goal.returns
returns c = after_pair _ _ _ c.requires (rw c.front.ensures at c.next_digit.ensures)

pub overflow_sub-left : goal.overflow_sub-left
overflow_sub-left c = rw c.front.ensures (tens_fit _ _ _ c.requires)

pub next_digit-requires : goal.next_digit-requires
next_digit-requires c = rw c.front.ensures (for_one_digit _ _ _ c.requires (omega arith))
