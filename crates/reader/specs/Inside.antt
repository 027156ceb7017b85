-- What the whole pass over a sheet finds. Nothing public is stated by this file.
use Rattle.std.specs.Prelude.{◌≡◌, List, ℕ, ◌≤◌, length, Option, None, Result, Ok, Err}
use Rattle.std.specs.List.{slice_get}
use Rattle.sheets.specs.declared.State.{State}
use Rattle.sheets.specs.declared.Fault.{Fault}
use Rattle.sheets.specs.Grammar.{all_sections}
use Rattle.sheets.specs.Reading.{start, Reads, FaultAt}
use Rattle.readings.specs.Readers.{most_bytes, TooLong}
use Rattle.reader.specs.declared.Found.{Found}

pub record Counted (bytes : List ℕ) (k count : ℕ) (wanted : Option State) : Type 0 where
  pub fits : length bytes ≤ most_bytes
  pub states : List State
  pub reads : Reads all_sections bytes start states (Ok None)
  pub is_count : count ≡ length states
  pub is_wanted : wanted ≡ slice_get states k

abbrev pub Surveys : (bytes : List ℕ) (k : ℕ) → Result Found Fault → Type 0
Surveys bytes k (Ok found) = Counted bytes k found.state_lines found.wanted
Surveys bytes k (Err (Fault.Malformed place)) = (length bytes ≤ most_bytes) × FaultAt all_sections bytes place
Surveys bytes k (Err Fault.TooLong) = TooLong bytes
