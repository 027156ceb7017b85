-- `state::ask` meets its contract: a refusal is passed on, and the two roots of an accepted state make its answer (`Answering.antt`).
-- Assumes nothing.
use mathlib.Core.List.{[]}
use Rattle.std.proofs.lemmas.Result.{err_from_is_err_and}
use Rattle.state.proofs.Answering.{refused, weighty}
use Rattle.state.proofs.ask.Goals as goal

pub returns-in_err-found : goal.returns-in_err-found
returns-in_err-found c =
    let p = err_from_is_err_and c.from_residual.result c.from_residual.ensures.1 in
    rw (p.1, p.2) (refused _ _ _ [] _ c.in_err-found.ensures)

pub answer-requires : goal.answer-requires
answer-requires c = weighty _ _ _ [] _ c.in_ok-found.ensures
