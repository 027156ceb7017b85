-- What a line's bytes come to, taken one at a time: the steps of the crate `digests`. What a line is, is not said by this file.
use Rattle.std.specs.Prelude.{Bool, true, false, cond, ℕ, suc, ◌+◌, ◌-◌, ◌*◌, ltb, leb, eqb, length, Option, Some, None}
use mathlib.Core.List.{List, [], ◌∷◌, foldl}
use Rattle.sheets.specs.declared.Digest.{Digest}
use Rattle.sheets.specs.declared.Digest.TheVariants.{Empty, First, AfterSpace, Second, Bad}
use Rattle.sheets.specs.declared.Scanned.{Scanned}
use Rattle.sheets.specs.Grammar.{line_end, space}
use Rattle.sheets.specs.Reading.{line_of}

-- the smallest number of ten digits
abbrev pub ten_digits : ℕ
ten_digits = 1000000000

-- a digit's value, or no number
abbrev pub opens : (byte : ℕ) → Option ℕ
opens byte = cond (ltb byte 48) None (cond (ltb 57 byte) None (Some (byte - 48)))

abbrev pub behind_digits : (number : ℕ) → Option ℕ → Option ℕ
behind_digits number None = None
behind_digits number (Some digit) = Some (10 * number + digit)

abbrev pub grows : (number byte : ℕ) → Option ℕ
grows number byte = cond (eqb number 0) None (cond (leb ten_digits number) None (behind_digits number (opens byte)))

abbrev pub first_of : Option ℕ → Digest
first_of None = Bad
first_of (Some number) = First number

abbrev pub second_of : (first : ℕ) → Option ℕ → Digest
second_of first None = Bad
second_of first (Some number) = Second first number

abbrev pub takes : Digest → (byte : ℕ) → Digest
takes Empty byte = first_of (opens byte)
takes (First number) byte = cond (eqb byte space) (AfterSpace number) (first_of (grows number byte))
takes (AfterSpace number) byte = second_of number (opens byte)
takes (Second first number) byte = second_of first (grows number byte)
takes Bad byte = Bad

abbrev pub or_later : Bool → ℕ → ℕ
or_later true later = 1
or_later false later = suc later

-- how many bytes the first line has, with its end if that is there
abbrev pub whole_line : List ℕ → ℕ
whole_line [] = 0
whole_line (byte ∷ bytes) = or_later (eqb byte line_end) (whole_line bytes)

abbrev pub scans : (place : ℕ) → Digest → (bytes : List ℕ) → Scanned
scans place before bytes =
    record { digest = foldl takes before (line_of bytes); end = place + length (line_of bytes); next = place + whole_line bytes }
