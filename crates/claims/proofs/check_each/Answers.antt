-- `claims::check_each` tells of the first claim that is refused. Assumes nothing.
use mathlib.Core.Path.{refl}
use native.Mathlib.Omega.{arith}
use Rattle.claims.specs.Replies.{one_refused}
use Rattle.claims.proofs.check_each.Goals as goal

pub returns-in-Err : goal.returns-in-Err
returns-in-Err c =
    one_refused _ _ (record { within = omega arith; before = c.loop-claim.invariant; is_first = c.in-Err.ensures }) refl
