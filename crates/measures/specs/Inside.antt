-- What the private functions ask and promise. Nothing public is stated by this file.
use Rattle.std.specs.Prelude.{◌≡◌, Bool, true, false, List, [], ◌∷◌, ℕ, ◌+◌, ◌*◌, ◌≤◌, length}
use Rattle.sheets.specs.Grammar.{most_states, decimal, pair_text, line, section, EachWritable}
use Rattle.measures.specs.Columns.{Columns, paired}

-- whether it is so
abbrev pub Decides : (IsSo : Type 0) → Bool → Type 0
Decides IsSo true = IsSo
Decides IsSo false = IsSo → ⊥

-- how many digits a number has, which are ten at most
pub record Width (number width : ℕ) : Type 0 where
  pub is_width : width ≡ length (decimal number)
  pub few : width ≤ 10

-- two lists that make a section: as many pressures as temperatures, no more than a section may have, each writable
pub record MakesSection (millikelvin pascals : List ℕ) : Type 0 where
  pub few : length millikelvin ≤ most_states
  pub equal : length pascals ≡ length millikelvin
  pub writable : EachWritable (paired millikelvin pascals)

abbrev pub EachMakesSection : List Columns → Type 0
EachMakesSection [] = Unit {0}
EachMakesSection (columns ∷ fluids) = MakesSection columns.millikelvin columns.pascals × EachMakesSection fluids

-- a count line has ten digits and an end at most, and a state line two numbers, a space and an end
abbrev pub longest_section : ℕ
longest_section = 11 + 22 * most_states

pub record SectionLength (millikelvin pascals : List ℕ) (long : ℕ) : Type 0 where
  pub is_length : long ≡ length (section (paired millikelvin pascals))
  pub short : long ≤ longest_section

-- a state line, with its end
abbrev pub state_line : (millikelvin pascals : ℕ) → List ℕ
state_line millikelvin pascals = line (pair_text (record { millikelvin = millikelvin; pascals = pascals }))
