-- `report_printing::print` meets its contract: the page of the report is all of the buffer. Assumes nothing.
use Rattle.report_printing.proofs.Printed.{prints_page}
use Rattle.report_printing.proofs.print.Goals as goal

pub returns-in-Ok-clause-prefix_len : goal.returns-in-Ok-clause-prefix_len
returns-in-Ok-clause-prefix_len c = (prints_page c.report.ensures c.in-Ok.report _ c.in-Ok.is c.page.ensures).0

pub returns-in-Ok-clause-prints_report : goal.returns-in-Ok-clause-prints_report
returns-in-Ok-clause-prints_report c = (prints_page c.report.ensures c.in-Ok.report _ c.in-Ok.is c.page.ensures).1
