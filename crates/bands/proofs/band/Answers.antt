-- `bands::band` passes on what refuses the state, and then tells 13 of scalings that are not allowed. Assumes nothing.
use Rattle.std.proofs.lemmas.Result.{err_from_is_err_and}
use Rattle.bands.proofs.Banding.{tells_of_state, tells_of_scalings}
use Rattle.bands.proofs.band.Goals as goal

pub returns-in_err-reached : goal.returns-in_err-reached
returns-in_err-reached c =
    let refused = err_from_is_err_and c.from_residual.result c.from_residual.ensures.1 in
    rw (refused.1, refused.2) (tells_of_state _ _ _ _ _ _ c.in_err-reached.ensures)

pub returns-then-not-stand : goal.returns-then-not-stand
returns-then-not-stand c = tells_of_scalings _ _ _ _ _ c.in_ok-reached.ensures.0 c.if-not-stand.ensures
