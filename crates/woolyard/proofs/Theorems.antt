-- What is proved of the boundary, beside its contracts: each fixes the number and every value that its caller lent, and nothing that a book holds
-- changes either. Assumes nothing.
use mathlib.Core.Path.{◌≡◌, sym, ap, ◌∙◌}
use mathlib.Core.Logic.{◌⊎◌}
use mathlib.Core.List.{List, ◌∷◌, []}
use Prim.Native.Nat.{ℕ}
use lib.Ieee.{Float}
use lib.ListN.{length}
use Rattle.books.specs.Layouts.{Placed}
use Rattle.books.specs.Bytes.{in_bytes}
use Rattle.replies.specs.declared.sides.SideFigures.{SideFigures}
use Rattle.state.proofs.Theorems as state
use Rattle.walks.specs.declared.replies.WalkFigures.{WalkFigures}
use Rattle.walks.proofs.Theorems as walks
use Rattle.bands.specs.declared.replies.BandFigures.{BandFigures}
use Rattle.bands.proofs.Theorems as bands
use Rattle.heat.specs.Replies.{number_of}
use Rattle.heat.proofs.Theorems as heat
use Rattle.claims.specs.declared.reply.ClaimsFigures.{ClaimsFigures}
use Rattle.claims.specs.Lists.{FiveLists}
use Rattle.claims.proofs.Theorems as claims
use Rattle.heat_table.specs.declared.replies.TableFigures.{TableFigures}
use Rattle.heat_table.proofs.Theorems as heat_table
use Rattle.viscosity.specs.declared.replies.ExcessFigures.{ExcessFigures}
use Rattle.viscosity.proofs.Theorems as viscosity
use Rattle.readings.specs.Figures.{Reading, sheet_figures, LineReading, line_figures}
use Rattle.readings.specs.Replies.{shown}
use Rattle.readings.proofs.Theorems as replies
use Rattle.measures.specs.Columns.{Columns}
use Rattle.writer.specs.Replies.{Leaving}
use Rattle.writer.proofs.Theorems as writer
use Rattle.laying.specs.States.{StateAnswers, BookAnswers}
use Rattle.laying.specs.Sides.{SideAnswers, SideBookAnswers}
use Rattle.laying.proofs.Theorems.{told_alike, same_laid, same_side_laid}
use Rattle.woolyard.specs.Versions.{abi}
use Rattle.woolyard.specs.Walks.{walked_of, WalkAnswers}
use Rattle.woolyard.specs.Bands.{roots_of, BandAnswers}
use Rattle.woolyard.specs.Heats.{bits_after, HeatAnswers}
use Rattle.woolyard.specs.Claims.{ClaimsAnswers}
use Rattle.woolyard.specs.HeatTables.{HeatTableAnswers}
use Rattle.woolyard.specs.Viscosities.{ViscosityAnswers}
use Rattle.woolyard.specs.Sheets.{reading_of, SheetAnswers, state_of, LineAnswers}
use Rattle.woolyard.specs.Writes.{WriteAnswers}

pub abi_determined : {answer answer' : ℕ} → answer ≡ abi → answer' ≡ abi → answer ≡ answer'
abi_determined is is' = is ∙ sym is'

-- ---- states
module _ (fluid millikelvin pascals slot : ℕ) where
  -- any two books of one length get the same number and the same figures
  pub book_never_matters : (book other : List ℕ) → length book ≡ length other → {number number' : ℕ} {figures figures' after after' : List ℕ} → BookAnswers fluid millikelvin pascals slot book number figures after → BookAnswers fluid millikelvin pascals slot other number' figures' after' → (number ≡ number') × (figures ≡ figures')
  book_never_matters book other same p q =
      same_laid (state.same_on_any_book _ book other same (state.whole_gets p.called) (state.whole_gets q.called)) p.laid q.laid

  -- and where the book has the slot, the call without a book gets them too
  pub same_without_book : {book after figures figures' : List ℕ} {number number' : ℕ} → Placed in_bytes slot (length book) → BookAnswers fluid millikelvin pascals slot book number figures after → StateAnswers fluid millikelvin pascals number' figures' → (number ≡ number') × (figures ≡ figures')
  same_without_book placed p q =
      same_laid (state.same_without_book fluid millikelvin pascals placed p.called q.replies) p.laid q.laid

  pub state_with_book_determined : (book : List ℕ) {number number' : ℕ} {figures figures' after after' : List ℕ} → BookAnswers fluid millikelvin pascals slot book number figures after → BookAnswers fluid millikelvin pascals slot book number' figures' after' → ((number ≡ number') × (figures ≡ figures')) × (after ≡ after')
  state_with_book_determined book p q =
      let same = state.call_determined fluid millikelvin pascals slot book p.called q.called in
      (same_laid same.0 p.laid q.laid, same.1)

-- a refused state's book is as it was
pub refused_changes_no_book : {fluid millikelvin pascals slot number : ℕ} {book figures after : List ℕ} → BookAnswers fluid millikelvin pascals slot book number figures after → (number ≡ 0 → ⊥) → after ≡ book
refused_changes_no_book p refused =
    state.refused_changes_nothing (λ answered. refused (p.laid.is_number ∙ answered)) p.called

-- ---- sides
module _ (fluid millikelvin pascals side : ℕ) where
  pub side_determined : (number number' : ℕ) (figures figures' : List ℕ) → SideAnswers fluid millikelvin pascals side number figures → SideAnswers fluid millikelvin pascals side number' figures' → (number ≡ number') × (figures ≡ figures')
  side_determined number number' figures figures' p q =
      same_side_laid (state.side_determined fluid millikelvin pascals side p.reply q.reply p.replies q.replies) p.laid q.laid

  module _ (slot : ℕ) where
    pub book_never_matters_for_side : (book other : List ℕ) → length book ≡ length other → {number number' : ℕ} {figures figures' after after' : List ℕ} → SideBookAnswers fluid millikelvin pascals side slot book number figures after → SideBookAnswers fluid millikelvin pascals side slot other number' figures' after' → (number ≡ number') × (figures ≡ figures')
    book_never_matters_for_side book other same p q =
        same_side_laid (state.same_on_any_book _ book other same (state.side_gets p.called) (state.side_gets q.called)) p.laid q.laid

    pub side_with_book_determined : (book : List ℕ) {number number' : ℕ} {figures figures' after after' : List ℕ} → SideBookAnswers fluid millikelvin pascals side slot book number figures after → SideBookAnswers fluid millikelvin pascals side slot book number' figures' after' → ((number ≡ number') × (figures ≡ figures')) × (after ≡ after')
    side_with_book_determined book p q =
        let same = state.side_call_determined fluid millikelvin pascals side slot book p.called q.called in
        (same_side_laid same.0 p.laid q.laid, same.1)

pub refused_side_changes_no_book : {fluid millikelvin pascals side slot number : ℕ} {book figures after : List ℕ} → SideBookAnswers fluid millikelvin pascals side slot book number figures after → (number ≡ 0 → ⊥) → after ≡ book
refused_side_changes_no_book p refused =
    state.refused_changes_nothing
    (λ answered. refused (p.laid.is_number ∙ ap (λ (f : SideFigures). f.number) p.called.is_told ∙ answered)) p.called.holds

-- ---- walks
module _ (fluid millikelvin pascals limit : ℕ) where
  pub walk_determined : {number number' : ℕ} {walked walked' : List ℕ} → WalkAnswers fluid millikelvin pascals limit number walked → WalkAnswers fluid millikelvin pascals limit number' walked' → (number ≡ number') × (walked ≡ walked')
  walk_determined p q =
      told_alike (λ (f : WalkFigures). f.number) walked_of
      (walks.told_once fluid millikelvin pascals limit p.figures q.figures p.replies q.replies) p.is_number q.is_number p.is_walked q.is_walked

-- ---- bands
module _ (fluid millikelvin pascals lower upper : ℕ) where
  pub band_determined : {number number' : ℕ} {roots roots' : List ℕ} → BandAnswers fluid millikelvin pascals lower upper number roots → BandAnswers fluid millikelvin pascals lower upper number' roots' → (number ≡ number') × (roots ≡ roots')
  band_determined p q =
      told_alike (λ (f : BandFigures). f.number) roots_of
      (bands.told_once fluid millikelvin pascals lower upper p.figures q.figures p.replies q.replies) p.is_number q.is_number p.is_roots q.is_roots

  pub refused_band_lays_zeros : {number : ℕ} {roots : List ℕ} → BandAnswers fluid millikelvin pascals lower upper number roots → (number ≡ 0 → ⊥) → roots ≡ 0 ∷ 0 ∷ []
  refused_band_lays_zeros p refused =
      p.is_roots ∙ ap roots_of (bands.refused_band_carries_zeros fluid millikelvin pascals lower upper p.figures p.replies (λ answered. refused (p.is_number ∙ answered)))

-- ---- claims
module _ {lists : FiveLists} where
  pub claims_determined : {number number' claim claim' : ℕ} → ClaimsAnswers lists number claim → ClaimsAnswers lists number' claim' → (number ≡ number') × (claim ≡ claim')
  claims_determined p q =
      let same = claims.told_once lists _ _ p q in
      (ap (λ (f : ClaimsFigures). f.number) same, ap (λ (f : ClaimsFigures). f.claim) same)

  pub no_claim_is_zero : {number claim : ℕ} → ClaimsAnswers lists number claim → (number ≡ 0) ⊎ (number ≡ 8) → claim ≡ 0
  no_claim_is_zero = claims.no_claim_is_zero

-- ---- the heat capacity
pub heat_determined : (kelvin : Float) (before number number' after after' : ℕ) → HeatAnswers kelvin before number after → HeatAnswers kelvin before number' after' → (number ≡ number') × (after ≡ after')
heat_determined kelvin before number number' after after' p q =
    told_alike number_of (bits_after before)
    (heat.reply_determined kelvin p.reply q.reply p.answers q.answers) p.is_number q.is_number p.leaves q.leaves

pub heat_table_determined : (millikelvin number number' heat heat' : ℕ) → HeatTableAnswers millikelvin number heat → HeatTableAnswers millikelvin number' heat' → (number ≡ number') × (heat ≡ heat')
heat_table_determined millikelvin number number' heat heat' p q =
    let same = heat_table.told_once millikelvin _ _ p q in
    (ap (λ (f : TableFigures). f.number) same, ap (λ (f : TableFigures). f.heat) same)

pub refused_heat_table_is_zero : {millikelvin number heat : ℕ} → HeatTableAnswers millikelvin number heat → (number ≡ 0 → ⊥) → heat ≡ 0
refused_heat_table_is_zero p refused = heat_table.refused_carries_zero p refused

-- ---- the viscosity
pub viscosity_determined : (thousandths number number' factor factor' : ℕ) → ViscosityAnswers thousandths number factor → ViscosityAnswers thousandths number' factor' → (number ≡ number') × (factor ≡ factor')
viscosity_determined thousandths number number' factor factor' p q =
    let same = viscosity.factor_determined p q in
    (ap (λ (f : ExcessFigures). f.number) same, ap (λ (f : ExcessFigures). f.factor) same)

pub refused_viscosity_is_zero : {thousandths number factor : ℕ} → ViscosityAnswers thousandths number factor → (number ≡ 0 → ⊥) → factor ≡ 0
refused_viscosity_is_zero p refused = viscosity.refused_carries_zero p refused

-- ---- sheets
module _ (bytes : List ℕ) where
  pub sheet_determined : (number number' : ℕ) (reading reading' : List ℕ) → SheetAnswers bytes number reading → SheetAnswers bytes number' reading' → (number ≡ number') × (reading ≡ reading')
  sheet_determined number number' reading reading' p q =
      told_alike (λ (r : Reading). (sheet_figures r).number) (λ (r : Reading). reading_of (sheet_figures r) (length (shown bytes (sheet_figures r))))
      (replies.reading_determined bytes p.reply q.reply p.reads_as q.reads_as) p.is_number q.is_number p.is_reading q.is_reading

  pub sheet_line_determined : (k number number' : ℕ) (state state' : List ℕ) → LineAnswers bytes k number state → LineAnswers bytes k number' state' → (number ≡ number') × (state ≡ state')
  sheet_line_determined k number number' state state' p q =
      told_alike (λ (r : LineReading). (line_figures r).number) (λ (r : LineReading). state_of (line_figures r))
      (replies.line_determined bytes k p.reply q.reply p.reads_as q.reads_as) p.is_number q.is_number p.is_state q.is_state

-- ---- sheets that are written
module _ (fluids : List Columns) (before : List ℕ) where
  pub write_determined : {number number' length length' : ℕ} {after after' : List ℕ} → WriteAnswers fluids before number length after → WriteAnswers fluids before number' length' after' → (number ≡ number') × (length ≡ length') × (after ≡ after')
  write_determined p q =
      let same = writer.write_determined fluids before _ _ p q in
      (ap (λ (l : Leaving). l.figures.number) same, ap (λ (l : Leaving). l.figures.length) same, ap (λ (l : Leaving). l.buffer) same)

  pub refused_writes_nothing : {number length : ℕ} {after : List ℕ} → WriteAnswers fluids before number length after → (number ≡ 0 → ⊥) → (after ≡ before) × (length ≡ 0)
  refused_writes_nothing = writer.refused_writes_nothing fluids before

  pub beyond_stays : {number length : ℕ} {after : List ℕ} → WriteAnswers fluids before number length after → writer.Beyond before length after
  beyond_stays = writer.beyond_stays fluids before
