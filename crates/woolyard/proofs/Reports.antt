-- What is proved of the three calls for a report, beside their contracts: each fixes the number and every value that its caller lent, whatever numbers are
-- kept; the next call goes on from where this one left the sheet; a sheet is reported alike whole and in parts; a refused one has zeros. Assumes nothing.
use mathlib.Core.Path.{◌≡◌, refl, sym, ap, subst, ◌∙◌}
use mathlib.Core.List.{List, [], ◌∷◌}
use Prim.Native.Nat.{ℕ, ◌≤◌}
use lib.ListN.{length, replicate}
use Rattle.readings.specs.Readers.{most_bytes}
use Rattle.parts.specs.Takes.{number_of_reader}
use Rattle.parts.specs.Served.{joined}
use Rattle.reports.specs.declared.Reporting.{Reporting}
use Rattle.reports.specs.Sheets.{figures_of}
use Rattle.reports.specs.Parts.{TakesAll}
use Rattle.reports.proofs.Theorems.{report_determined, take_determined, refused_is_empty, whole_as_parts}
use Rattle.kept_reports.specs.Rows.{rows_of, kept_rows, reporting_of}
use Rattle.kept_reports.proofs.Theorems.{nothing_is_lost, zeros_are_the_start}
use Rattle.laying.proofs.Theorems.{same_report_laid}
use Rattle.woolyard.specs.Reports.{ReportAnswers, ReportTakeAnswers, ReportEndAnswers}

pub report_call_determined : (bytes : List ℕ) {number number' place place' : ℕ} {rows rows' : List (List ℕ)} → ReportAnswers bytes number rows place → ReportAnswers bytes number' rows' place' → ((number ≡ number') × (rows ≡ rows')) × (place ≡ place')
report_call_determined bytes p q = same_report_laid (report_determined bytes p.reply q.reply p.reports_as q.reports_as) p.laid q.laid

-- a refused sheet has zeros in every row
pub refused_rows_are_zeros : (bytes : List ℕ) {number place : ℕ} {rows : List (List ℕ)} → ReportAnswers bytes number rows place → (number ≡ 0 → ⊥) → rows ≡ replicate 3 (replicate 11 0)
refused_rows_are_zeros bytes p refused =
    p.laid.is_rows ∙ ap rows_of (refused_is_empty bytes (figures_of p.reply) p.reports_as (λ none. refused (p.laid.is_number ∙ none)))

-- whatever numbers are kept
module _ (before : List (List ℕ)) where
  pub report_take_determined : (part : List ℕ) {number number' : ℕ} {after after' : List (List ℕ)} → ReportTakeAnswers before part number after → ReportTakeAnswers before part number' after' → (number ≡ number') × (after ≡ after')
  report_take_determined part p q =
      let same = take_determined (reporting_of before) part p.reporting q.reporting p.takes q.takes in (
        p.is_number ∙ ap (λ (r : Reporting). number_of_reader r.reader) same ∙ sym q.is_number,
        p.is_after ∙ ap kept_rows same ∙ sym q.is_after,
      )

  pub report_end_determined : {number number' place place' : ℕ} {rows rows' : List (List ℕ)} → ReportEndAnswers before number rows place → ReportEndAnswers before number' rows' place' → ((number ≡ number') × (rows ≡ rows')) × (place ≡ place')
  report_end_determined p q = same_report_laid refl p q

-- what is kept is the sheet that the reply has
goes_on_from_here : {before : List (List ℕ)} {part : List ℕ} {number : ℕ} {after : List (List ℕ)} (p : ReportTakeAnswers before part number after) → reporting_of after ≡ p.reporting
goes_on_from_here p = ap reporting_of p.is_after ∙ nothing_is_lost p.reporting

-- calls one after another, each with the numbers that the one before it left
abbrev pub TakenAll : (before : List (List ℕ)) (parts : List (List ℕ)) (after : List (List ℕ)) → Type 0
TakenAll before [] after = after ≡ before
TakenAll before (part ∷ parts) after = (number : ℕ) × (between : List (List ℕ)) × ReportTakeAnswers before part number between × TakenAll between parts after

taken_all : (parts : List (List ℕ)) (before after : List (List ℕ)) → TakenAll before parts after → TakesAll (reporting_of before) parts (reporting_of after)
taken_all [] before after none = ap reporting_of none
taken_all (part ∷ parts) before after (number, between, one, others) =
    (one.reporting, one.takes, subst (λ (r : Reporting). TakesAll r parts (reporting_of after)) (goes_on_from_here one) (taken_all parts between after others))

-- From zeros on, however a sheet of at most 65,536 bytes was cut, the end answers what the whole does.
pub report_in_parts_as_whole : (parts : List (List ℕ)) (after : List (List ℕ)) {number number' place place' : ℕ} {rows rows' : List (List ℕ)} → length (joined parts) ≤ most_bytes → TakenAll (replicate 4 (replicate 11 0)) parts after → ReportEndAnswers after number rows place → ReportAnswers (joined parts) number' rows' place' → ((number ≡ number') × (rows ≡ rows')) × (place ≡ place')
report_in_parts_as_whole parts after fits taken ended whole =
    let from_start = subst (λ (r : Reporting). TakesAll r parts (reporting_of after)) zeros_are_the_start (taken_all parts (replicate 4 (replicate 11 0)) after taken) in
    same_report_laid (whole_as_parts parts (reporting_of after) whole.reply fits from_start whole.reports_as) ended whole.laid
