-- A sheet's lists taken apart again into temperatures and pressures: from lists and back, either way, nothing changes. Assumes nothing.
use mathlib.Core.Path.{◌≡◌, refl, ap, ap₂}
use mathlib.Core.Logic.{⊎_elim}
use mathlib.Core.List.{List, [], ◌∷◌, map}
use Prim.Native.Nat.{ℕ, ◌≤◌}
use native.Mathlib.Omega.{arith}
use lib.ListN.{length, length-map}
use Rattle.sheets.specs.Grammar.{most_states, Writable, Pair, WritablePair, EachWritable, EachSection}
use Rattle.measures.specs.Columns.{Columns, paired, pairs_of, lists_of}
use Rattle.measures.specs.Checks.{Some, Unfit, TooManyDigits, HasTooManyDigits}
use Rattle.measures.specs.Inside.{EachMakesSection}

-- the two lists of each fluid, as a writer is given them
abbrev pub columns_in : List Pair → Columns
columns_in pairs = record { millikelvin = map (λ (pair : Pair). pair.millikelvin) pairs; pascals = map (λ (pair : Pair). pair.pascals) pairs }

abbrev pub fluids_in : List (List Pair) → List Columns
fluids_in lists = map columns_in lists

paired_again : (pairs : List Pair) → pairs_of (columns_in pairs) ≡ pairs
paired_again [] = refl
paired_again (pair ∷ pairs) = ap (λ (l : List Pair). pair ∷ l) (paired_again pairs)

pub lists_again : (lists : List (List Pair)) → lists_of (fluids_in lists) ≡ lists
lists_again [] = refl
lists_again (pairs ∷ lists) = ap₂ (λ (l : List Pair) (s : List (List Pair)). l ∷ s) (paired_again pairs) (lists_again lists)

columns_again : (millikelvin pascals : List ℕ) → length pascals ≡ length millikelvin → columns_in (paired millikelvin pascals) ≡ record { millikelvin = millikelvin; pascals = pascals }
columns_again [] [] equal = refl
columns_again [] (pressure ∷ pascals) equal = absurd (omega arith)
columns_again (temperature ∷ millikelvin) [] equal = absurd (omega arith)
columns_again (temperature ∷ millikelvin) (pressure ∷ pascals) equal =
    ap (λ (c : Columns). record { millikelvin = temperature ∷ c.millikelvin; pascals = pressure ∷ c.pascals }) (columns_again millikelvin pascals (omega arith))

pub fluids_again : (fluids : List Columns) → EachMakesSection fluids → fluids_in (lists_of fluids) ≡ fluids
fluids_again [] sections = refl
fluids_again (columns ∷ fluids) sections =
    ap₂ (λ (c : Columns) (l : List Columns). c ∷ l) (columns_again columns.millikelvin columns.pascals sections.0.equal) (fluids_again fluids sections.1)

-- neither 8 nor 9 applies to the lists of a good sheet
pub never_unfit : (lists : List (List Pair)) → EachSection lists → Some Unfit (fluids_in lists) → ⊥
never_unfit [] each = λ never. never
never_unfit (pairs ∷ lists) each =
    let few : length pairs ≤ most_states = each.0.count in
    let temperatures = length-map pairs (λ (pair : Pair). pair.millikelvin) in
    let pressures = length-map pairs (λ (pair : Pair). pair.pascals) in
    ⊎_elim (⊎_elim (λ many. omega arith) (⊎_elim (λ many. omega arith) (λ unequal. unequal (omega arith)))) (never_unfit lists each.1)

-- of either number of a state
few_digits : (number_of_lem : Pair → ℕ) → ((pair : Pair) → WritablePair pair → Writable (number_of_lem pair)) → (pairs : List Pair) → EachWritable pairs → Some TooManyDigits (map number_of_lem pairs) → ⊥
few_digits number_of_lem writable [] each = λ never. never
few_digits number_of_lem writable (pair ∷ pairs) each = ⊎_elim (λ many. omega (arith, writable pair each.0)) (few_digits number_of_lem writable pairs each.1)

pub never_too_many_digits : (lists : List (List Pair)) → EachSection lists → Some HasTooManyDigits (fluids_in lists) → ⊥
never_too_many_digits [] each = λ never. never
never_too_many_digits (pairs ∷ lists) each =
    ⊎_elim
    (⊎_elim (few_digits (λ pair. pair.millikelvin) (λ pair writable. writable.temperature) pairs each.0.states) (few_digits (λ pair. pair.pascals) (λ pair writable. writable.pressure) pairs each.0.states))
    (never_too_many_digits lists each.1)
