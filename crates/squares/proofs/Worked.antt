-- The square root of 10000 x 7763, worked out as docs/SQUARE-ROOT.md has it: a theorem for each row of its table, from the one before by one
-- pair. Assumes nothing.
use mathlib.Core.Path.{refl}
use Prim.Native.Nat.{ℕ, ◌*◌}
use native.Mathlib.Omega.{arith}
use Rattle.squares.specs.SquareRoot.{SquareRoot}
use Rattle.squares.proofs.Digits.{next_digit}
use Rattle.squares.proofs.Pairs.{after_all}
use Rattle.squares.proofs.Paper.{OnPaper, nothing_written, next_line}

abbrev n : ℕ
n = 10000 * 7763

pub five_left : OnPaper n 5 0 0
five_left = nothing_written n (omega arith)

pub four_left : OnPaper n 4 0 0
four_left = next_line n 4 0 0 five_left (next_digit 0 0 0 (omega arith) (omega arith))

pub three_left : OnPaper n 3 8 13
three_left = next_line n 3 0 0 four_left (next_digit 0 77 8 (omega arith) (omega arith))

pub two_left : OnPaper n 2 88 19
two_left = next_line n 2 8 13 three_left (next_digit 8 1363 8 (omega arith) (omega arith))

pub one_left : OnPaper n 1 881 139
one_left = next_line n 1 88 19 two_left (next_digit 88 1900 1 (omega arith) (omega arith))

pub none_left : OnPaper n 0 8810 13900
none_left = next_line n 0 881 139 one_left (next_digit 881 13900 0 (omega arith) (omega arith))

pub root_of_7763 : SquareRoot n 8810
root_of_7763 = after_all refl none_left.after
