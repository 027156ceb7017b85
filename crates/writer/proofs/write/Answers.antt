-- `writer::write` meets its contract: what was told of the lists, and the three sections one behind another where that was a length. Assumes nothing.
use Rattle.std.proofs.lemmas.Result.{err_from_is_err_and}
use Rattle.measures.specs.Columns.{fluids_lent}
use Rattle.writer.proofs.Telling.{writes_refusal}
use Rattle.writer.proofs.Writing.{hydrogen_fits, oxygen_fits, nitrogen_fits, sheet_left}
use Rattle.writer.proofs.write.Goals as goal

pub returns-in_err-length : goal.returns-in_err-length
returns-in_err-length c =
    let p = err_from_is_err_and c.from_residual.result c.from_residual.ensures.1 in rw (p.1, p.2) (writes_refusal (fluids_lent c.args.lists) _ c.in_err-length.ensures)

pub put_section-oxygen-requires : goal.put_section-oxygen-requires
put_section-oxygen-requires c = hydrogen_fits c.args.lists c.args.buffer.now c.in_ok-length.ensures

pub put_section-nitrogen-requires : goal.put_section-nitrogen-requires
put_section-nitrogen-requires c = oxygen_fits c.args.lists c.args.buffer.now c.in_ok-length.ensures c.put_section-oxygen.ensures

pub put_section-requires : goal.put_section-requires
put_section-requires c = nitrogen_fits c.args.lists c.args.buffer.now c.in_ok-length.ensures c.put_section-oxygen.ensures c.put_section-nitrogen.ensures

pub returns : goal.returns
returns c =
    sheet_left c.args.lists c.args.buffer.now c.in_ok-length.ensures c.put_section-oxygen.ensures c.put_section-nitrogen.ensures c.put_section.ensures
