-- The cycle of calls {take_pairs}: the measure is the number of pairs left.
use Rattle.squares.proofs.+take_pairs.Given as goal

abbrev pub decreases-take_pairs : goal.decreases-take_pairs
decreases-take_pairs l = l.pairs_left
