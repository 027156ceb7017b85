-- What the private functions ask and promise. Nothing public is stated by this file.
use Rattle.std.specs.Prelude.{List, ℕ, ◌+◌, ◌≤◌, length}
use Rattle.sheets.specs.Grammar.{WritablePair, section}
use Rattle.measures.specs.Columns.{paired}
use Rattle.measures.specs.Inside.{state_line, MakesSection}

-- a state line that has room, and a section
pub record StateFits (millikelvin pascals : ℕ) (buffer : List ℕ) (at : ℕ) : Type 0 where
  pub writable : WritablePair (record { millikelvin = millikelvin; pascals = pascals })
  pub room : at + length (state_line millikelvin pascals) ≤ length buffer

pub record SectionFits (millikelvin pascals buffer : List ℕ) (at : ℕ) : Type 0 where
  pub lists : MakesSection millikelvin pascals
  pub room : at + length (section (paired millikelvin pascals)) ≤ length buffer
