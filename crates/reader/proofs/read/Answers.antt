-- `reader::read` meets its contract: it passes on what the whole pass finds. Assumes nothing.
use Rattle.std.proofs.lemmas.Result.{err_from_is_err_and}
use Rattle.reader.proofs.Answers.{counted, refused}
use Rattle.reader.proofs.read.Goals as goal

pub returns-in_err-found : goal.returns-in_err-found
returns-in_err-found c =
    let fault = err_from_is_err_and c.from_residual.result c.from_residual.ensures.1 in rw (fault.1, fault.2) (refused _ 0 _ c.in_err-found.ensures)

pub returns : goal.returns
returns c = counted _ 0 c.in_ok-found.ensures
