-- TM-564, Table 4, as docs/RULES.md, "Hydrogen's ideal heat capacity", has it: four ranges of the temperature, and the five coefficients of each.
-- No double is here: every form of the heat capacity cites these decimals.
use Rattle.std.specs.Prelude.{ℕ, ◌+◌, ◌*◌, ◌≤◌, ◌<◌, Bool, true, false}

-- digits / 10 ^ places, with its sign
pub record Decimal : Type 0 where
  pub negative : Bool
  pub digits : ℕ
  pub places : ℕ

-- 0.32100769e-2 is `plus 32100769 8 2`: its digits, how many of them stand behind the point, and its exponent without the minus
abbrev pub plus : (digits behind_point exponent : ℕ) → Decimal
plus digits behind_point exponent = record { negative = false; digits = digits; places = behind_point + exponent }

abbrev pub minus : (digits behind_point exponent : ℕ) → Decimal
minus digits behind_point exponent = record { negative = true; digits = digits; places = behind_point + exponent }

pub record Row : Type 0 where
  pub a1 : Decimal
  pub a2 : Decimal
  pub a3 : Decimal
  pub a4 : Decimal
  pub a5 : Decimal

abbrev row : (a1 a2 a3 a4 a5 : Decimal) → Row
row a1 a2 a3 a4 a5 = record { a1 = a1; a2 = a2; a3 = a3; a4 = a4; a5 = a5 }

pub data Range : Type 0 where
  up_to_40 up_to_150 up_to_500 above_500 : Range

-- the temperature numerator / denominator is in the range: T ≤ 40 is numerator ≤ 40 * denominator
abbrev pub Within : Range → (numerator denominator : ℕ) → Type 0
Within up_to_40 numerator denominator = numerator ≤ 40 * denominator
Within up_to_150 numerator denominator = (40 * denominator < numerator) × (numerator ≤ 150 * denominator)
Within up_to_500 numerator denominator = (150 * denominator < numerator) × (numerator ≤ 500 * denominator)
Within above_500 numerator denominator = 500 * denominator < numerator

unfoldable pub printed : Range → Row
printed up_to_40 = row (plus 103121 4 0) (plus 0 0 0) (plus 0 0 0) (plus 0 0 0) (plus 0 0 0)
printed up_to_150 = row (plus 14759936 6 0) (minus 21977388 8 0) (plus 32100769 8 2) (minus 120615002 9 4) (plus 57121808 8 8)
printed up_to_500 = row (plus 66557899 7 0) (plus 15621077 8 0) (minus 86913643 8 3) (plus 18972274 8 5) (minus 14418461 8 8)
printed above_500 = row (plus 144714861 7 0) (minus 7176787 7 3) (plus 18638538 8 5) (minus 5306547 7 9) (plus 46649305 8 13)
