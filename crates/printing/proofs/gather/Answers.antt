use mathlib.Core.Path.{refl, ap}
use native.Mathlib.Omega.{arith}
use Rattle.std.proofs.lemmas.Result.{err_from_is_err_and}
use Rattle.std.specs.Prelude.{Ok, Err, Some, None}
use Rattle.sheets.specs.Reading.{Comes}
use Rattle.sheets.specs.Grammar.{all_sections}
use Rattle.readings.proofs.Nexts.{next_came}
use Rattle.sheets.proofs.Walks.{comes_moves}
use Rattle.printing.proofs.Gathered.{begins, gathers, prints_all, reads_fault}
use Rattle.printing.proofs.gather.Goals as goal

comes_line : (c : goal.After-cursor-1) → Comes all_sections c.args.sheet.now c.loop-line.cursor (Ok (Some (record { state = c.in-Some.line.state; after = c.in-Some.line.after })))
comes_line c = (next_came _ _ (Ok (Some c.in-Some.line)) (ap Ok c.in-Some.is) c.in_ok-line.ensures).comes

pub loop-line-init : goal.loop-line-init
loop-line-init c = rw c.start-cursor.ensures (begins _ _)

pub returns-in_err-line : goal.returns-in_err-line
returns-in_err-line c =
    let fault = err_from_is_err_and c.from_residual.result c.from_residual.ensures.1 in
    rw (fault.1, fault.2) (reads_fault c.loop-line.invariant _ (next_came _ _ (Err _) refl c.in_err-line.ensures))

pub loop-line-smaller : goal.loop-line-smaller
loop-line-smaller c = let moves = comes_moves _ (comes_line c) in omega (arith, moves.on, moves.inside)

pub loop-line-preserved : goal.loop-line-preserved
loop-line-preserved c =
    gathers c.loop-line.invariant c.requires (comes_line c) c.state_text-text.ensures (rw c.bytes.ensures.line at c.put-end.ensures)

pub returns : goal.returns
returns c = prints_all c.loop-line.invariant c.requires (next_came _ _ (Ok None) (ap Ok c.in_default.is) c.in_ok-line.ensures)
