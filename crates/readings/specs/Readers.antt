-- docs/RULES.md, "Replies", "Sheets" and "A sheet walked": what readers of so many sections tell of any bytes at all, in numbers and figures.
use Rattle.std.specs.Prelude.{◌≡◌, cond, List, [], ◌∷◌, ◌++◌, ℕ, ◌≤◌, ◌<◌, eqb, length}
use Rattle.std.proofs.Math.Option.{Option, some, map}
use Rattle.std.proofs.Math.ListN.{get_elem?}
use Rattle.refusals.specs.Checks.{Check, ◌if◌, Tells}
use Rattle.sheets.specs.declared.Cursor.{Cursor}
use Rattle.sheets.specs.Reading.{Next, Comes, FaultAt}
use Rattle.sheets.specs.Grammar.{Pair, Good, states_from, sum_of_counts}
use Rattle.readings.specs.declared.SheetFigures.{SheetFigures}
use Rattle.readings.specs.declared.LineFigures.{LineFigures}
use Rattle.readings.specs.Figures.{sheet_answered, sheet_refused, line_answered, line_refused, NextFigures, next_refused, next_figures}

abbrev pub most_bytes : ℕ
most_bytes = 65536

abbrev pub TooLong : List ℕ → Type 0
TooLong bytes = most_bytes < length bytes

-- what is told of the lists that write to a sheet: how many state lines, or one of them
abbrev pub count_of : List (List Pair) → Option SheetFigures
count_of lists = some (sheet_answered (sum_of_counts lists))

abbrev pub line_in : (k : ℕ) → List (List Pair) → Option LineFigures
line_in k lists = map line_answered (get_elem? (states_from 0 lists) k)

-- `bytes`, taken for a sheet of so many sections
module _ (sections : ℕ) (bytes : List ℕ) where
  abbrev pub NoSheet : Type 0
  NoSheet = (lists : List (List Pair)) → Good sections bytes lists → ⊥

  -- a good sheet, with no line of this number
  pub record NoLine (k : ℕ) : Type 0 where
    pub lists : List (List Pair)
    pub good : Good sections bytes lists
    pub few : sum_of_counts lists ≤ k

  -- 7 comes before 6, and 6 before 16
  abbrev pub sheet_checks : List Check
  sheet_checks = 7 if TooLong bytes ∷ 6 if NoSheet ∷ []

  abbrev pub line_checks : (k : ℕ) → List Check
  line_checks k = sheet_checks ++ (16 if NoLine k ∷ [])

  -- 6 has the place of the fault, and any other refusal 0
  pub record Refused {Figures : Type 0} (told : (number place : ℕ) → Figures) (refusal : ℕ) (figures : Figures) : Type 0 where
    pub place : ℕ
    pub is_place : cond (eqb refusal 6) (FaultAt sections bytes place) (place ≡ 0)
    pub is_told : figures ≡ told refusal place

  pub record FromLists {Figures : Type 0} (told : List (List Pair) → Option Figures) (figures : Figures) : Type 0 where
    pub lists : List (List Pair)
    pub good : Good sections bytes lists
    pub is_told : told lists ≡ some figures

  abbrev pub TellsSheet : SheetFigures → Type 0
  TellsSheet = Tells sheet_checks (Refused sheet_refused) (FromLists count_of)

  abbrev pub TellsLine : (k : ℕ) → LineFigures → Type 0
  TellsLine k = Tells (line_checks k) (Refused line_refused) (FromLists (line_in k))

  -- what comes next from any cursor on has its own figures, also those of a fault, and 7 alone is checked before
  pub record Came (cursor : Cursor) (figures : NextFigures) : Type 0 where
    pub next : Next
    pub comes : Comes sections bytes cursor next
    pub is_told : figures ≡ next_figures next

  abbrev pub TellsNext : (cursor : Cursor) → NextFigures → Type 0
  TellsNext cursor = Tells (7 if TooLong bytes ∷ []) (λ refusal figures. figures ≡ next_refused refusal 0) (Came cursor)
