-- `walks::walk` passes on what refuses the state, and tells of an accepted one as the walk ended. Assumes nothing.
use Rattle.std.proofs.lemmas.Result.{err_from_is_err_and}
use Rattle.walks.proofs.Walking.{tells_of_state, tells_as_walked}
use Rattle.walks.proofs.walk.Goals as goal

pub returns-in_err-reached : goal.returns-in_err-reached
returns-in_err-reached c =
    let refused = err_from_is_err_and c.from_residual.result c.from_residual.ensures.1 in
    rw (refused.1, refused.2) (tells_of_state _ _ _ _ _ c.in_err-reached.ensures)

pub returns : goal.returns
returns c = tells_as_walked _ _ _ _ _ _ c.in_ok-reached.ensures.0 c.in_ok-reached.ensures.1 c.walk_down.ensures
