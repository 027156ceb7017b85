-- `state::ask_side_with_book` meets its contract: a refusal is passed on with the book as it was, and the side's root of an accepted state makes
-- its answer, the gas root left in the slot (`Answering.antt`). Assumes nothing.
use Rattle.calls.specs.declared.Form.TheVariants.{Side}
use Rattle.std.proofs.lemmas.Result.{err_from_is_err_and}
use Rattle.replies.proofs.Theorems.{side_as, side_refused}
use Rattle.state.proofs.Answering.{refused_with_book, weighty_with_book, answered_with_book}
use Rattle.state.proofs.ask_side_with_book.Goals as goal

pub returns-in_err-found : goal.returns-in_err-found
returns-in_err-found c =
    let side = c.args.side in
    let p = err_from_is_err_and c.from_residual.result c.from_residual.ensures.1 in
    rw (p.1, p.2) (side_refused side _ (refused_with_book (Side side) _ _ _ _ _ _ _ c.in_err-found.ensures))

pub answer_side-requires : goal.answer_side-requires
answer_side-requires c = weighty_with_book (Side c.args.side) _ _ _ _ _ _ _ c.in_ok-found.ensures

pub returns : goal.returns
returns c =
    side_as (λ whole reported. answered_with_book (Side c.args.side) _ _ _ _ _ _ _ c.in_ok-found.ensures reported) c.answer_side.ensures
