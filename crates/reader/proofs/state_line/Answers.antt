-- `reader::state_line` meets its contract: the line that the whole pass kept is line k of the lists that write to the sheet. Assumes nothing.
use mathlib.Core.Path.{refl}
use Rattle.std.proofs.lemmas.Result.{err_from_is_err_and}
use Rattle.reader.proofs.Answers.{line_told, line_refused}
use Rattle.reader.proofs.state_line.Goals as goal

pub returns-in_err-found : goal.returns-in_err-found
returns-in_err-found c =
    let fault = err_from_is_err_and c.from_residual.result c.from_residual.ensures.1 in rw (fault.1, fault.2) (line_refused _ _ _ c.in_err-found.ensures)

pub returns : goal.returns
returns c = line_told _ _ c.in_ok-found.ensures _ refl
