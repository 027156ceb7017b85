-- `squares::next_digit` meets its contract. The loop's invariant: the digits below `tried` are counted. The measure is how many are still to
-- be tried. Assumes nothing.
use Prim.Native.Nat.{ℕ}
use Rattle.squares.proofs.Digits.{Counted}
use Rattle.squares.proofs.next_digit.Given as goal

abbrev pub invariant-loop-tried : goal.invariant-loop-tried
invariant-loop-tried l = (last : ℕ) × Counted l.root l.left l.tried l.digit last
