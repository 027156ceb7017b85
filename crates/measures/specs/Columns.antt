-- docs/RULES.md, "A sheet written": what is to be written, for each fluid a list of temperatures and a list of pressures.
use Rattle.std.specs.Prelude.{List, [], ◌∷◌, map, ℕ}
use Rattle.sheets.specs.Grammar.{Pair}
use Rattle.measures.specs.declared.lists.Columns as declared
use Rattle.measures.specs.declared.lists.Lists.{Lists}

-- the two lists of a fluid
pub record Columns : Type 0 where
  pub millikelvin : List ℕ
  pub pascals : List ℕ

-- the states that two lists make: each temperature with the pressure at the same place
abbrev pub paired : (millikelvin pascals : List ℕ) → List Pair
paired [] pascals = []
paired (temperature ∷ millikelvin) [] = []
paired (temperature ∷ millikelvin) (pressure ∷ pascals) = record { millikelvin = temperature; pascals = pressure } ∷ paired millikelvin pascals

abbrev pub pairs_of : Columns → List Pair
pairs_of columns = paired columns.millikelvin columns.pascals

-- the lists that the grammar writes from: a section for each fluid
abbrev pub lists_of : List Columns → List (List Pair)
lists_of fluids = map pairs_of fluids

-- hydrogen, then oxygen, then nitrogen
abbrev pub fluids_of : (hydrogen_millikelvin hydrogen_pascals oxygen_millikelvin oxygen_pascals nitrogen_millikelvin nitrogen_pascals : List ℕ) → List Columns
fluids_of hydrogen_millikelvin hydrogen_pascals oxygen_millikelvin oxygen_pascals nitrogen_millikelvin nitrogen_pascals =
    record { millikelvin = hydrogen_millikelvin; pascals = hydrogen_pascals }
    ∷ record { millikelvin = oxygen_millikelvin; pascals = oxygen_pascals }
    ∷ record { millikelvin = nitrogen_millikelvin; pascals = nitrogen_pascals }
    ∷ []

-- the lists that a caller lends
abbrev pub columns_lent : declared.Columns → Columns
columns_lent columns = record { millikelvin = columns.millikelvin.now; pascals = columns.pascals.now }

abbrev pub fluids_lent : Lists → List Columns
fluids_lent lists =
    fluids_of lists.hydrogen.millikelvin.now lists.hydrogen.pascals.now lists.oxygen.millikelvin.now lists.oxygen.pascals.now lists.nitrogen.millikelvin.now lists.nitrogen.pascals.now
