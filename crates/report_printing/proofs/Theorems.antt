-- What the program `report` prints is fixed by its input, and for a refused sheet it is what `sheet` prints. Assumes nothing.
use mathlib.Core.Path.{◌≡◌, refl, sym, ap, subst, ◌∙◌}
use mathlib.Core.List.{List}
use Prim.Native.Nat.{ℕ}
use Rattle.std.specs.Prelude.{Ok, Err}
use Rattle.sheets.specs.declared.Fault.TheVariants.{Malformed, TooLong}
use Rattle.refusals.specs.Checks.{refuses, answers}
use Rattle.readings.specs.Figures.{sheet_refused}
use Rattle.readings.specs.Replies.{ReadsAs}
use Rattle.wording.proofs.Theorems.{fault_once}
use Rattle.printing.specs.Prints.{Prints}
use Rattle.reports.specs.declared.told.ReportFigures.{ReportFigures}
use Rattle.reports.specs.Sheets.{Reported, figures_of, report_refused, ReportsAs}
use Rattle.reports.proofs.Theorems.{report_determined}
use Rattle.report_printing.specs.Prints.{ReportedText, PrintsReport}

reported_once : (reported : Reported) (text text' : List ℕ) → ReportedText reported text → ReportedText reported text' → text ≡ text'
reported_once (Ok report) text text' one other = one ∙ sym other
reported_once (Err fault) text text' one other = fault_once (Err fault) text text' one other

-- Two texts that meet the contract of `report_printing::print` are equal.
pub print_determined : (bytes text text' : List ℕ) → PrintsReport bytes text → PrintsReport bytes text' → text ≡ text'
print_determined bytes text text' one other =
    let same = report_determined bytes one.reported other.reported one.reports_as other.reports_as in
    reported_once other.reported text text' (subst (λ (r : Reported). ReportedText r text) same one.is_text) other.is_text

-- a sheet that is reported as refused is read as refused
refused_alike : (bytes : List ℕ) (number place : ℕ) → (number ≡ 0 → ⊥) → ReportsAs bytes (report_refused number place) → ReadsAs bytes (sheet_refused number place)
refused_alike bytes number place refused (refuses refusal first told) =
    refuses refusal first
    (record {
      place = told.place;
      is_place = told.is_place;
      is_told = ap (λ (f : ReportFigures). sheet_refused f.number f.place) told.is_told;
    })
refused_alike bytes number place refused (answers none answer) = absurd (refused (ap (λ (f : ReportFigures). f.number) answer.is_told))

-- What is printed for a refused sheet meets the contract of `printing::print`, so it is what `sheet` prints.
pub refused_as_sheet : (bytes text : List ℕ) (printed : PrintsReport bytes text) → ((figures_of printed.reported).number ≡ 0 → ⊥) → Prints bytes text
refused_as_sheet bytes text printed refused = by_reported printed.reported printed.reports_as printed.is_text refused
  where
    by_reported : (reported : Reported) → ReportsAs bytes (figures_of reported) → ReportedText reported text → ((figures_of reported).number ≡ 0 → ⊥) → Prints bytes text
    by_reported (Ok report) reports_as is_text refused = absurd (refused refl)
    by_reported (Err (Malformed place)) reports_as is_text refused = record { reading = Err (Malformed place); reads_as = refused_alike bytes 6 place refused reports_as; is_text = is_text }
    by_reported (Err TooLong) reports_as is_text refused = record { reading = Err TooLong; reads_as = refused_alike bytes 7 0 refused reports_as; is_text = is_text }
