-- docs/RULES.md, "A sheet written": what lists and a buffer are checked for, in order.
use Rattle.std.specs.Prelude.{◌≡◌, ◌⊎◌, List, [], ◌∷◌, ℕ, ◌≤◌, ◌<◌, length}
use Rattle.refusals.specs.Checks.{Check, ◌if◌}
use Rattle.sheets.specs.Grammar.{most_states, eleven_digits, sheet}
use Rattle.readings.specs.Readers.{TooLong}
use Rattle.measures.specs.Columns.{Columns, lists_of}

-- one of a list is so
abbrev pub Some : {Of : Type 0} (IsSo : Of → Type 0) → List Of → Type 0
Some IsSo [] = ⊥
Some IsSo (first ∷ others) = IsSo first ⊎ Some IsSo others

-- a list above 1000 numbers, or a fluid's two lists of unequal lengths
abbrev pub Unfit : Columns → Type 0
Unfit columns =
    (most_states < length columns.millikelvin)
    ⊎ (most_states < length columns.pascals)
    ⊎ (length columns.millikelvin ≡ length columns.pascals → ⊥)

-- a number above ten digits
abbrev pub TooManyDigits : (number : ℕ) → Type 0
TooManyDigits number = eleven_digits ≤ number

abbrev pub HasTooManyDigits : Columns → Type 0
HasTooManyDigits columns = Some TooManyDigits columns.millikelvin ⊎ Some TooManyDigits columns.pascals

-- the whole sheet is longer than the buffer or than 65,536 bytes
abbrev pub NoRoom : (bytes : List ℕ) (room : ℕ) → Type 0
NoRoom bytes room = (room < length bytes) ⊎ TooLong bytes

-- for a buffer that has room for so many bytes
abbrev pub write_checks : List Columns → (room : ℕ) → List Check
write_checks fluids room =
    8 if Some Unfit fluids ∷ 9 if Some HasTooManyDigits fluids ∷ 10 if NoRoom (sheet (lists_of fluids)) room ∷ []
