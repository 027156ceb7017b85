-- `claims::check_each` goes on while every claim so far stands. Assumes nothing.
use Rattle.claims.specs.Lists.{StandBefore}
use Rattle.claims.proofs.check_each.Given as goal

abbrev pub invariant-loop-claim : goal.invariant-loop-claim
invariant-loop-claim l = StandBefore l.claims l.claim
