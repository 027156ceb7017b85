-- `state::ask_with_book` meets its contract: a refusal is passed on with the book as it was, and the two roots of an accepted state make its
-- answer, the gas root left in the slot (`Answering.antt`). Assumes nothing.
use Rattle.calls.specs.declared.Form.TheVariants.{Whole}
use Rattle.std.proofs.lemmas.Result.{err_from_is_err_and}
use Rattle.state.proofs.Answering.{refused_with_book, weighty_with_book, answered_with_book}
use Rattle.state.proofs.ask_with_book.Goals as goal

pub returns-in_err-found : goal.returns-in_err-found
returns-in_err-found c =
    let p = err_from_is_err_and c.from_residual.result c.from_residual.ensures.1 in
    rw (p.1, p.2) (refused_with_book Whole _ _ _ _ _ _ _ c.in_err-found.ensures)

pub answer-requires : goal.answer-requires
answer-requires c = weighty_with_book Whole _ _ _ _ _ _ _ c.in_ok-found.ensures

pub returns : goal.returns
returns c = answered_with_book Whole _ _ _ _ _ _ _ c.in_ok-found.ensures c.answer.ensures
