-- docs/RULES.md, "Sheets", in its own words: a number is one to ten decimal digits, with no leading zero unless it is the digit 0 alone. The
-- theorem `one_way_to_write` ties this to `decimal`.
use mathlib.Core.List.{List, [], ◌∷◌, foldl}
use Rattle.std.specs.Prelude.{ℕ, ◌+◌, ◌-◌, ◌*◌, ◌≤◌, ◌≡◌, length}
use Rattle.sheets.specs.Grammar.{digit}

abbrev pub EachDigit : List ℕ → Type 0
EachDigit [] = Unit {0}
EachDigit (byte ∷ bytes) = (digit 0 ≤ byte) × (byte ≤ digit 9) × EachDigit bytes

pub record Numeral (text : List ℕ) : Type 0 where
  pub each_digit : EachDigit text
  pub at_least_one : 1 ≤ length text
  pub at_most_ten : length text ≤ 10
  pub no_leading_zero : (rest : List ℕ) → text ≡ digit 0 ∷ rest → rest ≡ []

-- as one reads it: ten times what came before, and the digit
abbrev pub reads_on : (number byte : ℕ) → ℕ
reads_on number byte = 10 * number + (byte - digit 0)

abbrev pub value_of : (text : List ℕ) → ℕ
value_of text = foldl reads_on 0 text
