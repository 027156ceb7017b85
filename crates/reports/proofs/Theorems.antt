-- What is proved of reports, beside their contracts: the counts add up, the sum is exact, a refused sheet has an empty report, a sheet is reported alike
-- whole and in parts, there always is an answer, and each contract fixes it. Assumes nothing.
use mathlib.Core.Path.{◌≡◌, refl, sym, ap, ap₂, subst, ◌∙◌}
use mathlib.Core.Bool.{cond}
use mathlib.Core.List.{List, [], ◌∷◌, ◌++◌}
use Prim.Native.Nat.{ℕ, suc, ◌+◌, ◌≤◌, ◌<◌}
use native.Mathlib.Omega.{arith}
use native.Mathlib.Decide.{dec_le}
use lib.Dec.{eqb}
use lib.ListN.{length}
use Rattle.refusals.specs.Checks.{refuses, answers}
use Rattle.refusals.proofs.Theorems.{tells_once}
use Rattle.replies.specs.declared.Figures.{Figures}
use Rattle.replies.specs.Figures as replies
use Rattle.state.proofs.Determined.{same_told}
use Rattle.state.proofs.Theorems.{every_state_has_a_reply}
use Rattle.sheets.specs.declared.State.{State}
use Rattle.std.specs.Prelude.{Ok, Err}
use Rattle.sheets.specs.declared.Fault.TheVariants.{Malformed, TooLong}
use Rattle.sheets.specs.Grammar.{all_sections, most_states, Pair}
use Rattle.sheets.proofs.Theorems.{written_once}
use Rattle.readings.specs.Readers.{most_bytes, sheet_checks}
use Rattle.readings.proofs.Answers.{long_told, refused_once}
use Rattle.parts.specs.Bytes.{Reader, Outcome, then, taking}
use Rattle.parts.specs.Served.{joined}
use Rattle.parts.proofs.Bytes.{both}
use Rattle.tallies.specs.declared.Section.{Section}
use Rattle.tallies.specs.declared.Report.{Report}
use Rattle.tallies.specs.Entries.{Entry, answered, sum_of, Each, SectionOf}
use Rattle.tallies.specs.Steps.{largest_number, empty_report}
use Rattle.tallies.proofs.Theorems.{section_determined}
use Rattle.reports.specs.declared.Running.{Running}
use Rattle.reports.specs.declared.Reporting.{Reporting}
use Rattle.reports.specs.declared.told.ReportFigures.{ReportFigures}
use Rattle.reports.specs.Sheets.{Entered, Reports, Sections, sections_of, report_answered, report_refused, Reported, figures_of, OfGoodSheet, ReportsAs}
use Rattle.reports.specs.Parts.{adds, AddsAll, TakesPart, TakesAll, at_start, over_here}
use Rattle.reports.proofs.Bounds.{gas_density_fits}
use Rattle.reports.proofs.Sections.{Light, sum_fits}
use Rattle.reports.proofs.Counts.{each_counted_once}
use Rattle.reports.proofs.Whole.{taken_from_start}

-- ONE, SPLIT and all refusals together are the section's count.
pub counts_add_up : (fluid line : ℕ) (pairs : List Pair) (section : Section) → fluid < all_sections → Reports fluid line pairs section → section.one + section.split + section.temperature_too_low + section.temperature_too_high + section.pressure_too_low + section.pressure_too_high ≡ length pairs
counts_add_up fluid line pairs section inside reports =
    let is = reports.is_section in
    omega (arith, each_counted_once fluid (suc line) pairs reports.entries inside reports.entered, is.counts_one, is.counts_split, is.counts_21, is.counts_22, is.counts_31, is.counts_32)

-- ---- sums
as_many : (fluid line : ℕ) (pairs : List Pair) (entries : List Entry) → Entered fluid line pairs entries → length entries ≡ length pairs
as_many fluid line [] entries none = rw none refl
as_many fluid line (pair ∷ pairs) entries (figures, others, replies, later, are) = rw are (ap suc (as_many fluid (suc line) pairs others later))

all_light : (fluid line : ℕ) (pairs : List Pair) (entries : List Entry) → Entered fluid line pairs entries → Each Light entries
all_light fluid line [] entries none = rw none tt
all_light fluid line (pair ∷ pairs) entries (figures, others, replies, later, are) = rw are (gas_density_fits replies, all_light fluid (suc line) pairs others later)

-- The sum is that of the gas densities, with nothing left out: 64 bits hold it.
pub sum_is_exact : (fluid line : ℕ) (pairs : List Pair) (section : Section) → length pairs ≤ most_states → (reports : Reports fluid line pairs section) → (section.sum ≡ sum_of (answered reports.entries)) × (sum_of (answered reports.entries) ≤ largest_number)
sum_is_exact fluid line pairs section few reports =
    let entered = reports.entered in (
      reports.is_section.is_sum,
      sum_fits reports.entries (all_light fluid (suc line) pairs reports.entries entered) (omega (arith, few, as_many fluid (suc line) pairs reports.entries entered)),
    )

-- ---- a whole sheet
-- a reply has the figures of its own case only, so that figures tell the reply
abbrev reported_of : ReportFigures → Reported
reported_of figures = cond (eqb figures.number 0) (Ok figures.report) (cond (eqb figures.number 6) (Err (Malformed figures.place)) (Err TooLong))

reported_back : (reported : Reported) → reported_of (figures_of reported) ≡ reported
reported_back (Ok report) = refl
reported_back (Err (Malformed place)) = refl
reported_back (Err TooLong) = refl

-- A refused sheet has an empty report.
pub refused_is_empty : (bytes : List ℕ) (figures : ReportFigures) → ReportsAs bytes figures → (figures.number ≡ 0 → ⊥) → figures.report ≡ empty_report
refused_is_empty bytes figures (refuses refusal first told) refused = rw told.is_told refl
refused_is_empty bytes figures (answers none answer) refused = absurd (refused (ap (λ (f : ReportFigures). f.number) answer.is_told))

entered_once : (fluid line : ℕ) (pairs : List Pair) (entries entries' : List Entry) → Entered fluid line pairs entries → Entered fluid line pairs entries' → entries ≡ entries'
entered_once fluid line [] entries entries' none none' = none ∙ sym none'
entered_once fluid line (pair ∷ pairs) entries entries' (figures, others, replies, later, are) (figures', others', replies', later', are') =
    are
    ∙ ap₂ (λ (f : Figures) (l : List Entry). record { line = line; figures = f } ∷ l) (same_told fluid pair.millikelvin pair.pascals [] figures figures' replies replies') (entered_once fluid (suc line) pairs others others' later later')
    ∙ sym are'

sections_once : (fluid line : ℕ) (lists : List (List Pair)) (sections sections' : List Section) → Sections fluid line lists sections → Sections fluid line lists sections' → sections ≡ sections'
sections_once fluid line [] sections sections' none none' = none ∙ sym none'
sections_once fluid line (pairs ∷ lists) sections sections' (section, others, reports, later, are) (section', others', reports', later', are') =
    let same = entered_once fluid (suc line) pairs reports.entries reports'.entries reports.entered reports'.entered in
    are
    ∙ ap₂ (λ (s : Section) (l : List Section). s ∷ l) (section_determined reports'.entries section section' (subst (λ (l : List Entry). SectionOf l section) same reports.is_section) reports'.is_section) (sections_once (suc fluid) (suc line + length pairs) lists others others' later later')
    ∙ sym are'

same_report : (report report' : Report) → sections_of report ≡ sections_of report' → report ≡ report'
same_report report report' same =
    let by_sections : ◌≡◌ {A = Report} (record { hydrogen = report.hydrogen; oxygen = report.oxygen; nitrogen = report.nitrogen }) (record { hydrogen = report'.hydrogen; oxygen = report'.oxygen; nitrogen = report'.nitrogen }) = cc in
    by_sections

module _ (bytes : List ℕ) where
  answered_once : (figures figures' : ReportFigures) → OfGoodSheet bytes figures → OfGoodSheet bytes figures' → figures ≡ figures'
  answered_once figures figures' one two =
      let same = written_once bytes one.lists two.lists one.good two.good in
      one.is_told
      ∙ ap report_answered
      (same_report one.report two.report
      (sections_once 0 1 two.lists (sections_of one.report) (sections_of two.report) (subst (λ (l : List (List Pair)). Sections 0 1 l (sections_of one.report)) same one.reports) two.reports))
      ∙ sym two.is_told

  figures_once : (figures figures' : ReportFigures) → ReportsAs bytes figures → ReportsAs bytes figures' → figures ≡ figures'
  figures_once = tells_once (sheet_checks all_sections bytes) (refused_once bytes report_refused) answered_once

  -- Two replies to one sheet are equal.
  pub report_determined : (r s : Reported) → ReportsAs bytes (figures_of r) → ReportsAs bytes (figures_of s) → r ≡ s
  report_determined r s one two = sym (reported_back r) ∙ ap reported_of (figures_once (figures_of r) (figures_of s) one two) ∙ reported_back s

-- ---- parts
adds_once : (states : List State) (before after after' : Running) → AddsAll states before after → AddsAll states before after' → after ≡ after'
adds_once [] before after after' none none' = none ∙ sym none'
adds_once (state ∷ states) before after after' (between, one, others) (between', one', others') =
    let same : between ≡ between' =
    one.is_after
    ∙ ap (adds before state) (same_told state.fluid state.millikelvin state.pascals [] one.figures one'.figures one.replies one'.replies)
    ∙ sym one'.is_after in
    adds_once states between' after after' (subst (λ (r : Running). AddsAll states r after) same others) others'

-- Whatever is kept, a part leaves one thing.
pub take_determined : (before : Reporting) (part : List ℕ) (after after' : Reporting) → TakesPart before part after → TakesPart before part after' → after ≡ after'
take_determined before part after after' one two =
    ap₂ (λ (r : Reader) (s : Running). record { reader = r; running = s })
    (one.is_reader ∙ sym two.is_reader)
    (adds_once (taking before.reader part).states before.running after.running after'.running one.adds_all two.adds_all)

adds_both : (first second : List State) (before between after : Running) → AddsAll first before between → AddsAll second between after → AddsAll (first ++ second) before after
adds_both [] second before between after none later = subst (λ (r : Running). AddsAll second r after) none later
adds_both (state ∷ first) second before between after (next, one, others) later = (next, one, adds_both first second next between after others later)

takes_both : (p q : List ℕ) (before between after : Reporting) → TakesPart before p between → TakesPart between q after → TakesPart before (p ++ q) after
takes_both p q before between after one two =
    let split : taking before.reader (p ++ q) ≡ then (taking before.reader p) (taking between.reader q) =
    both before.reader p q ∙ ap (λ (r : Reader). then (taking before.reader p) (taking r q)) (sym one.is_reader) in
    record {
      is_reader = two.is_reader ∙ sym (ap (λ (o : Outcome). o.after) split);
      adds_all =
          subst (λ (o : Outcome). AddsAll o.states before.running after.running) (sym split)
          (adds_both (taking before.reader p).states (taking between.reader q).states before.running between.running after.running one.adds_all two.adds_all);
    }

all_at_once : (parts : List (List ℕ)) (before after : Reporting) → TakesAll before parts after → TakesPart before (joined parts) after
unfolding taking
all_at_once [] before after none = rw none (record { is_reader = refl; adds_all = refl })
all_at_once (part ∷ parts) before after (between, one, others) = takes_both part (joined parts) before between after one (all_at_once parts between after others)

-- However a sheet was cut, what is kept behind it is the same, whatever was kept before.
pub however_cut : (before after after' : Reporting) (parts parts' : List (List ℕ)) → joined parts ≡ joined parts' → TakesAll before parts after → TakesAll before parts' after' → after ≡ after'
however_cut before after after' parts parts' same_bytes one two =
    take_determined before (joined parts') after after' (subst (λ (l : List ℕ). TakesPart before l after) same_bytes (all_at_once parts before after one)) (all_at_once parts' before after' two)

-- And for as many bytes as a sheet may have, what is said behind it is what is told of the whole.
pub whole_as_parts : (parts : List (List ℕ)) (after : Reporting) (whole : Reported) → length (joined parts) ≤ most_bytes → TakesAll at_start parts after → ReportsAs (joined parts) (figures_of whole) → over_here after ≡ whole
whole_as_parts parts after whole fits takes told =
    report_determined (joined parts) (over_here after) whole (taken_from_start (joined parts) fits after (all_at_once parts at_start after takes)) told

-- ---- there always is an answer
added : (states : List State) (before : Running) → (after : Running) × AddsAll states before after
added [] before = (before, refl)
added (state ∷ states) before =
    let reply = every_state_has_a_reply state.fluid state.millikelvin state.pascals in
    let between = adds before state (replies.figures_of reply.0) in
    let later = added states between in
    (later.0, (between, record { figures = replies.figures_of reply.0; replies = reply.1; is_after = refl }, later.1))

-- Every part is taken, whatever is kept.
pub every_part_is_taken : (before : Reporting) (part : List ℕ) → (after : Reporting) × TakesPart before part after
every_part_is_taken before part =
    let outcome = taking before.reader part in
    let later = added outcome.states before.running in
    (record { reader = outcome.after; running = later.0 }, record { is_reader = refl; adds_all = later.1 })

-- Every sheet has a report or a refusal.
pub every_sheet_has_a_report : (bytes : List ℕ) → (reply : Reported) × ReportsAs bytes (figures_of reply)
every_sheet_has_a_report bytes = short_or_long (dec_le (length bytes) most_bytes)
  where
    short_or_long : Dec (length bytes ≤ most_bytes) → (reply : Reported) × ReportsAs bytes (figures_of reply)
    short_or_long (yes short) =
        let taken = every_part_is_taken at_start bytes in
        (over_here taken.0, taken_from_start bytes short taken.0 taken.1)
    short_or_long (no long) = (Err TooLong, long_told bytes (omega arith))

-- ---- each contract fixes its answer
pub start_determined : (r s : Reporting) → r ≡ at_start → s ≡ at_start → r ≡ s
start_determined r s is is' = is ∙ sym is'

pub end_determined : (reporting : Reporting) (r s : Reported) → r ≡ over_here reporting → s ≡ over_here reporting → r ≡ s
end_determined reporting r s is is' = is ∙ sym is'

pub figures_determined : (reported : Reported) (r s : ReportFigures) → r ≡ figures_of reported → s ≡ figures_of reported → r ≡ s
figures_determined reported r s is is' = is ∙ sym is'
