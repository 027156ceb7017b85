-- What the private functions promise: that the constant is the table. Nothing public is stated by this file.
use Rattle.std.specs.Prelude.{◌≡◌, List, ℕ, ◌+◌, ◌<◌, length, get_or}
use Rattle.heat_table.specs.Entries.{first, last, Entry}

-- the table goes from the first kelvin to the last, and every place of it has the entry of its kelvin
pub record EveryEntry (table : List ℕ) : Type 0 where
  pub to_last : first + length table ≡ last + 1
  pub is_entry : (place : ℕ) → place < length table → Entry (first + place) (get_or table place 0)
