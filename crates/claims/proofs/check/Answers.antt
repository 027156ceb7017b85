-- `claims::check` tells 8 of lists whose lengths differ, and what `check_each` tells of others. Assumes nothing.
use Rattle.std.proofs.lemmas.Result.{err_from_is_err_and}
use Rattle.claims.proofs.Lists.{tells_unequal, tells_checked}
use Rattle.claims.proofs.check.Goals as goal

pub returns-in_err-claims : goal.returns-in_err-claims
returns-in_err-claims c =
    let refused = err_from_is_err_and c.from_residual.result c.from_residual.ensures.1 in
    rw (refused.1, refused.2, c.in_err-claims.ensures.0) (tells_unequal c.in_err-claims.ensures.1)

pub returns : goal.returns
returns c = tells_checked c.in_ok-claims.ensures.1 (rw c.in_ok-claims.ensures.0 at c.check_each.ensures)
