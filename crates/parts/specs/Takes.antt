-- docs/RULES.md, "A sheet in parts": what a call tells of a part, and what is said of a sheet that is over, for any reader at all.
use Rattle.std.specs.Prelude.{◌≡◌, cond, List, [], ◌∷◌, ℕ, suc, ◌≤◌, eqb, length, take, Ok, Err, Option, Some, None}
use Rattle.sheets.specs.declared.State.{State}
use Rattle.sheets.specs.Grammar.{all_sections}
use Rattle.sheets.specs.Lines.{wants_line}
use Rattle.readings.specs.Figures.{Reading}
use Rattle.sheets.specs.declared.Fault.TheVariants.{Malformed, TooLong}
use Rattle.parts.specs.declared.Standing.{Standing}
use Rattle.parts.specs.Bytes.{Reader, taking, quiet}
use Rattle.parts.specs.declared.Taken.{Taken}

-- the bytes taken bring this state, and with the last of them
pub record EndsState (reader : Reader) (part : List ℕ) (state : State) (taken : ℕ) (after : Reader) : Type 0 where
  pub before : ℕ
  pub is_taken : taken ≡ suc before
  pub inside : taken ≤ length part
  pub none_before : (taking reader (take before part)).states ≡ []
  pub brings : taking reader (take taken part) ≡ record { after = after; states = state ∷ [] }

-- no byte of the part brings a state, and all are taken
pub record UsesUp (reader : Reader) (part : List ℕ) (taken : ℕ) (after : Reader) : Type 0 where
  pub is_taken : taken ≡ length part
  pub brings : taking reader part ≡ quiet after

abbrev pub TakesAs : (reader : Reader) (part : List ℕ) → Option State → (taken : ℕ) (after : Reader) → Type 0
TakesAs reader part (Some state) taken after = EndsState reader part state taken after
TakesAs reader part None taken after = UsesUp reader part taken after

abbrev pub Takes : (reader : Reader) (part : List ℕ) → Taken → Type 0
Takes reader part reply = TakesAs reader part reply.brought reply.taken reply.reader

-- the number of what is told
abbrev pub number_of_reader : Reader → ℕ
number_of_reader (Ok standing) = 16
number_of_reader (Err (Malformed place)) = 6
number_of_reader (Err TooLong) = 7

abbrev pub number_of : Option State → (after : Reader) → ℕ
number_of (Some state) after = 0
number_of None after = number_of_reader after

-- a line that is missing, or that lacks its end
abbrev pub over_at : Standing → Reading
over_at standing =
    cond (eqb standing.held 0)
    (cond (wants_line all_sections standing.cursor) (Err (Malformed standing.cursor.place)) (Ok standing.state_lines))
    (Err (Malformed standing.cursor.place))

abbrev pub over : Reader → Reading
over (Ok standing) = over_at standing
over (Err fault) = Err fault
