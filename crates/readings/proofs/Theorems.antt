-- What is proved of the answers about a sheet: bytes are refused exactly where no lists write to them, what lists write is counted by their
-- counts, and each contract fixes the answer. Assumes nothing.
use mathlib.Core.Path.{◌≡◌, sym, ap, subst, ◌∙◌}
use mathlib.Core.Logic.{◌⊎◌, inl, inr}
use mathlib.Core.List.{List}
use mathlib.Core.Option.{some-injective}
use Prim.Native.Nat.{ℕ, ◌+◌, ◌≤◌}
use native.Mathlib.Omega.{arith}
use native.Mathlib.Decide.{dec_le}
use lib.ListN.{length}
use Rattle.refusals.specs.Checks.{refuses, answers}
use Rattle.sheets.specs.declared.Cursor.{Cursor}
use Rattle.sheets.specs.Reading.{Next, FaultAt}
use Rattle.sheets.specs.Grammar.{Pair, Good, states_from, sum_of_counts}
use Rattle.sheets.proofs.Written.{states_counted}
use Rattle.sheets.proofs.Faults.{good_has_no_fault, good_or_fault}
use Rattle.sheets.proofs.Theorems.{written_once}
use Rattle.readings.specs.Figures.{Reading, LineReading, sheet_refused, sheet_figures, line_refused, line_figures, next_figures}
use Rattle.sheets.specs.declared.Fault.TheVariants.{Malformed, TooLong}
use Rattle.std.specs.Prelude.{Ok, Err}
use Rattle.readings.specs.declared.SheetFigures.{SheetFigures}
use Rattle.readings.specs.declared.LineFigures.{LineFigures}
use Rattle.readings.specs.Readers.{most_bytes, NoSheet, sheet_checks, line_checks, count_of, line_in, TellsSheet, TellsLine, TellsNext}
use Rattle.readings.specs.Replies.{shown, ShowsBack}
use Rattle.readings.proofs.Figures.{same_reading, same_line}
use Rattle.readings.proofs.Answers.{good_told, long_told, fault_told, told_once}
use Rattle.readings.proofs.Nexts.{next_once}

pub record Answered (sections : ℕ) (bytes : List ℕ) : Type 0 where
  pub reading : Reading
  pub reads_as : TellsSheet sections bytes (sheet_figures reading)

pub record Refused (sections : ℕ) (bytes : List ℕ) : Type 0 where
  pub place : ℕ
  pub reads_as : TellsSheet sections bytes (sheet_figures (Err (Malformed place)))

module _ {sections : ℕ} (bytes : List ℕ) where
  -- There are as many state lines as the counts say.
  pub total_is_sum_of_counts : (lists : List (List Pair)) → Good sections bytes lists → (count : ℕ) → TellsSheet sections bytes (sheet_figures (Ok count)) → (count ≡ sum_of_counts lists) × (count ≡ length (states_from 0 lists))
  total_is_sum_of_counts lists good count (refuses refusal (inl long) told) =
      absurd (omega (arith, long.1, ap (λ (f : SheetFigures). f.number) told.is_told))
  total_is_sum_of_counts lists good count (refuses refusal (inr (short, inl none)) told) = absurd (none.0 lists good)
  total_is_sum_of_counts lists good count (refuses refusal (inr (short, inr never)) told) = absurd never.1
  total_is_sum_of_counts lists good count (answers none told) =
      let sum =
      sym (ap (λ (f : SheetFigures). f.state_lines) (some-injective _ _ told.is_told))
      ∙ ap sum_of_counts (written_once bytes told.lists lists told.good good) in
      (sum, sum ∙ sym (states_counted 0 lists))

  -- Every sheet has an answer.
  pub every_sheet_has_an_answer : Answered sections bytes
  every_sheet_has_an_answer = short_or_long (dec_le (length bytes) most_bytes) (good_or_fault bytes)
    where
      short_or_long : Dec (length bytes ≤ most_bytes) → ((lists : List (List Pair)) × Good sections bytes lists) ⊎ ((place : ℕ) × FaultAt sections bytes place) → Answered sections bytes
      short_or_long (yes short) (inl (lists, good)) =
          record { reading = Ok (sum_of_counts lists); reads_as = good_told bytes lists short good }
      short_or_long (yes short) (inr (place, fault)) = record { reading = Err (Malformed place); reads_as = fault_told bytes place short fault }
      short_or_long (no long) either = record { reading = Err TooLong; reads_as = long_told bytes (omega arith) }

  -- 6 is given exactly where the bytes are no sheet, and are no more than allowed.
  pub fault_found : (place : ℕ) → TellsSheet sections bytes (sheet_figures (Err (Malformed place))) → FaultAt sections bytes place
  fault_found place (refuses refusal (inl long) told) = absurd (omega (arith, long.1, ap (λ (f : SheetFigures). f.number) told.is_told))
  fault_found place (refuses refusal (inr (short, inl none)) told) =
      subst (FaultAt sections bytes) (sym (ap (λ (f : SheetFigures). f.place) told.is_told)) (rw none.1 at told.is_place)
  fault_found place (refuses refusal (inr (short, inr never)) told) = absurd never.1
  fault_found place (answers none told) = absurd (omega (arith, ap (λ (f : SheetFigures). f.number) (some-injective _ _ told.is_told)))

  pub refused_is_no_sheet : (place : ℕ) → TellsSheet sections bytes (sheet_figures (Err (Malformed place))) → (lists : List (List Pair)) → Good sections bytes lists → ⊥
  refused_is_no_sheet place answer lists good = good_has_no_fault bytes lists place good (fault_found place answer)

  pub no_sheet_is_refused : length bytes ≤ most_bytes → NoSheet sections bytes → Refused sections bytes
  no_sheet_is_refused fits no_sheet = good_or_not (good_or_fault bytes)
    where
      good_or_not : ((lists : List (List Pair)) × Good sections bytes lists) ⊎ ((place : ℕ) × FaultAt sections bytes place) → Refused sections bytes
      good_or_not (inl (lists, good)) = absurd (no_sheet lists good)
      good_or_not (inr (place, fault)) = record { place = place; reads_as = fault_told bytes place fits fault }

  -- Each contract fixes the answer.
  pub figures_determined : (figures other : SheetFigures) → TellsSheet sections bytes figures → TellsSheet sections bytes other → figures ≡ other
  figures_determined = told_once bytes (sheet_checks sections bytes) sheet_refused count_of

  pub reading_determined : (reading reading' : Reading) → TellsSheet sections bytes (sheet_figures reading) → TellsSheet sections bytes (sheet_figures reading') → reading ≡ reading'
  reading_determined reading reading' answer answer' =
      same_reading reading reading' (figures_determined (sheet_figures reading) (sheet_figures reading') answer answer')

  pub line_determined : (k : ℕ) (reading reading' : LineReading) → TellsLine sections bytes k (line_figures reading) → TellsLine sections bytes k (line_figures reading') → reading ≡ reading'
  line_determined k reading reading' answer answer' =
      same_line reading reading' (told_once bytes (line_checks sections bytes k) line_refused (line_in k) (line_figures reading) (line_figures reading') answer answer')

  pub next_determined : (cursor : Cursor) (next next' : Next) → TellsNext sections bytes cursor (next_figures next) → TellsNext sections bytes cursor (next_figures next') → next ≡ next'
  next_determined = next_once bytes

-- Of the part that is shown back, both where it lies and its bytes.
pub faulty_line_determined : (bytes : List ℕ) (sheet part part' : ℕ) (line line' : List ℕ) → ShowsBack bytes sheet part line → ShowsBack bytes sheet part' line' → (part ≡ part') × (line ≡ line')
faulty_line_determined bytes sheet part part' line line' shows shows' =
    let same = figures_determined bytes shows.figures shows'.figures shows.reads_as shows'.reads_as in
    (shows.lies ∙ ap (λ (f : SheetFigures). sheet + f.place) same ∙ sym shows'.lies, shows.is_line ∙ ap (shown bytes) same ∙ sym shows'.is_line)

pub sheet_figures_determined : (reading : Reading) (figures figures' : SheetFigures) → figures ≡ sheet_figures reading → figures' ≡ sheet_figures reading → figures ≡ figures'
sheet_figures_determined reading figures figures' told told' = told ∙ sym told'

pub line_figures_determined : (reading : LineReading) (figures figures' : LineFigures) → figures ≡ line_figures reading → figures' ≡ line_figures reading → figures ≡ figures'
line_figures_determined reading figures figures' told told' = told ∙ sym told'
