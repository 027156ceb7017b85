-- The text of what is reported of a sheet is what is printed. Assumes nothing.
use mathlib.Core.Path.{◌≡◌, ap, subst, ◌∙◌}
use mathlib.Core.List.{List}
use Prim.Native.Nat.{ℕ}
use native.Mathlib.Omega.{arith}
use lib.ListN.{length, take}
use lib.Seq.{take_all}
use Rattle.std.specs.Prelude.{Ok}
use Rattle.io.specs.Counts.{IsPrefixLen}
use Rattle.printing.proofs.Counts.{counts}
use Rattle.tallies.specs.declared.Report.{Report}
use Rattle.reports.specs.Sheets.{Reported, figures_of, ReportsAs}
use Rattle.pages.specs.Pages.{page_text, page_bytes}
use Rattle.pages.proofs.Theorems.{page_long}
use Rattle.report_printing.specs.Prints.{ReportedText, PrintsReport}

module _ {bytes : List ℕ} {came : Reported} (reports_as : ReportsAs bytes (figures_of came)) where
  -- the text of the reply that came
  pub prints : (reported : Reported) {text : List ℕ} → came ≡ reported → ReportedText reported text → PrintsReport bytes text
  prints reported is_reported is_text =
      record { reported = reported; reports_as = subst (λ (r : Reported). ReportsAs bytes (figures_of r)) is_reported reports_as; is_text = is_text }

  -- a page is all of the buffer
  pub prints_page : (report : Report) (buffer : List ℕ) → came ≡ Ok report → buffer ≡ page_text report → IsPrefixLen page_bytes buffer × PrintsReport bytes (take page_bytes buffer)
  prints_page report buffer is_reported is_page =
      let long : length buffer ≡ page_bytes = ap length is_page ∙ page_long report in
      (counts buffer page_bytes (omega arith), prints (Ok report) is_reported (take_all page_bytes buffer (omega arith) ∙ is_page))
