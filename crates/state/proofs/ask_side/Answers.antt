-- `state::ask_side` meets its contract: a refusal is passed on, and the side's root of an accepted state makes its answer (`Answering.antt`).
-- Assumes nothing.
use Rattle.calls.specs.declared.Form.TheVariants.{Side}
use Rattle.calls.specs.Checks.{form_checks}
use Rattle.std.proofs.lemmas.Result.{err_from_is_err_and}
use Rattle.replies.proofs.Theorems.{side_refused}
use Rattle.state.proofs.Answering.{refused, weighty}
use Rattle.state.proofs.ask_side.Goals as goal

pub returns-in_err-found : goal.returns-in_err-found
returns-in_err-found c =
    let side = c.args.side in
    let p = err_from_is_err_and c.from_residual.result c.from_residual.ensures.1 in
    rw (p.1, p.2) (side_refused side _ (refused _ _ _ (form_checks (Side side)) _ c.in_err-found.ensures))

pub answer_side-requires : goal.answer_side-requires
answer_side-requires c = weighty _ _ _ (form_checks (Side c.args.side)) _ c.in_ok-found.ensures
