-- What is told of a whole sheet, by what comes behind its last state line; and what is said of one that came in parts, from its start, is the same, for
-- as many bytes as a sheet may have. Assumes nothing.
use mathlib.Core.Path.{◌≡◌, refl, sym, ap, subst, ◌∙◌}
use mathlib.Core.List.{List, [], ◌∷◌, ◌++◌}
use Prim.Native.Nat.{ℕ, ◌≤◌}
use native.Mathlib.Nat.{zero-add}
use lib.ListN.{length}
use Rattle.refusals.specs.Checks.{answers}
use Rattle.sheets.specs.declared.State.{State}
use Rattle.sheets.specs.declared.Cursor.{Cursor}
use Rattle.std.specs.Prelude.{Ok, Err, Some, None}
use Rattle.sheets.specs.declared.Fault.{Fault}
use Rattle.sheets.specs.declared.Fault.TheVariants.{Malformed, TooLong}
use Rattle.sheets.specs.Grammar.{all_sections}
use Rattle.sheets.specs.Reading.{Next, start, Comes, Reads}
use Rattle.sheets.proofs.Walks.{Ends, reads_never_too_long}
use Rattle.sheets.proofs.Passed.{Passed, none_passed, one_passed, all_passed}
use Rattle.sheets.proofs.Written.{read_good}
use Rattle.readings.specs.Figures.{Reading}
use Rattle.readings.specs.Readers.{most_bytes}
use Rattle.readings.proofs.Answers.{good_passes, fault_told, long_told}
use Rattle.readings.proofs.Nexts.{NextIn, CameAs}
use Rattle.parts.specs.Bytes as parts
use Rattle.parts.specs.Takes.{over}
use Rattle.parts.proofs.Whole.{saying, Reading-on, reading_from_start}
use Rattle.reports.specs.declared.Running.{Running}
use Rattle.reports.specs.declared.Reporting.{Reporting}
use Rattle.reports.specs.Sheets.{figures_of, ReportsAs}
use Rattle.reports.specs.Parts.{AddsOne, AddsAll, nothing_yet, TakesPart, at_start, said_of, over_here}
use Rattle.reports.proofs.Going.{adds_behind}
use Rattle.reports.proofs.Sections.{all_reported}

module _ (bytes : List ℕ) (fits : length bytes ≤ most_bytes) where
  -- by what comes behind the last state line
  pub by_end : (states : List State) (running : Running) (last : Next) → AddsAll states nothing_yet running → Ends last → Reads all_sections bytes start states last → ReportsAs bytes (figures_of (said_of (saying (length states) last) running.report))
  by_end states running (Ok (Some line)) adds_all ends reads = absurd ends
  by_end states running (Ok None) adds_all ends reads =
      let written = read_good bytes states reads in
      let good = written.good in
      answers (good_passes bytes written.lists fits good)
      (record {
        lists = written.lists;
        good = good;
        report = running.report;
        reports = all_reported written.lists running good.has_sections good.writable (subst (λ (l : List State). AddsAll l nothing_yet running) written.are_states adds_all);
        is_told = refl;
      })
  by_end states running (Err (Malformed place)) adds_all ends reads = fault_told bytes place fits (record { before = states; reads = reads })
  by_end states running (Err TooLong) adds_all ends reads = absurd (reads_never_too_long all_sections bytes start states reads)

  pub taken_from_start : (after : Reporting) → TakesPart at_start bytes after → ReportsAs bytes (figures_of (over_here after))
  taken_from_start after takes =
      let outcome = parts.taking parts.at_start bytes in
      let read : Reading-on bytes fits start 0 outcome = reading_from_start bytes fits in
      let is_said : over after.reader ≡ saying (length outcome.states) read.last =
      ap over takes.is_reader ∙ read.is_said ∙ ap (λ (n : ℕ). saying n read.last) (zero-add (length outcome.states)) in
      subst (λ (r : Reading). ReportsAs bytes (figures_of (said_of r after.running.report))) (sym is_said)
      (by_end outcome.states after.running read.last takes.adds_all read.ends read.reads)

-- ---- in one pass
-- the state lines before a cursor, and what they come to
pub record Walked (bytes : List ℕ) (cursor : Cursor) (running : Running) : Type 0 where
  pub states : List State
  pub passed : Passed all_sections bytes cursor states
  pub added : AddsAll states nothing_yet running

pub begins : (bytes : List ℕ) → Walked bytes start nothing_yet
begins bytes = record { states = []; passed = none_passed bytes; added = refl }

module _ {bytes : List ℕ} {cursor : Cursor} {running : Running} (walked : Walked bytes cursor running) where
  pub walks_on : {state : State} {after : Cursor} {later : Running} → Comes all_sections bytes cursor (Ok (Some (record { state = state; after = after }))) → AddsOne running state later → Walked bytes after later
  walks_on {state} {after} {later} comes adds =
      record {
        states = walked.states ++ (state ∷ []);
        passed = one_passed bytes walked.states state after walked.passed comes;
        added = adds_behind walked.states state nothing_yet running later walked.added adds;
      }

  pub told_at_end : (last : Next) → Ends last → NextIn all_sections bytes cursor last → ReportsAs bytes (figures_of (said_of (saying (length walked.states) last) running.report))
  told_at_end last ends next = by_end bytes next.fits walked.states running last walked.added ends (all_passed bytes walked.states last walked.passed next.comes)

  pub told_fault : (fault : Fault) → CameAs all_sections bytes cursor (Err fault) → ReportsAs bytes (figures_of (Err fault))
  told_fault (Malformed place) next = told_at_end (Err (Malformed place)) tt next
  told_fault TooLong long = long_told bytes long
