-- docs/RULES.md, "Hydrogen's ideal heat capacity": Table 4 in doubles, which range holds a temperature, and the double nearest to each decimal.
use Rattle.std.specs.Prelude.{List, ◌∷◌, [], ◌^◌, Float}
use Rattle.std.specs.Float.{binary64}
use Rattle.std.specs.Float.Ieee.{round}
use Rattle.std.specs.Float.Ieee.Positive.{num, den}
use Rattle.heat.specs.declared.table.Coefficients.{Coefficients}
use Rattle.heat.specs.Printed.{Decimal, Range, up_to_40, up_to_150, up_to_500, above_500, Within, printed}

-- a temperature that is a finite double above zero is the fraction num / den
abbrev pub Holds : Range → Float → Type 0
Holds range kelvin = Within range (num kelvin) (den kelvin)

-- the double nearest to a decimal, a tie to the even one
unfoldable pub nearest_double : Decimal → Float
nearest_double decimal = round binary64 decimal.negative decimal.digits (10 ^ decimal.places)

unfoldable pub coefficients_of : Range → Coefficients
coefficients_of range =
    record {
      a1 = nearest_double (printed range).a1;
      a2 = nearest_double (printed range).a2;
      a3 = nearest_double (printed range).a3;
      a4 = nearest_double (printed range).a4;
      a5 = nearest_double (printed range).a5;
    }

abbrev pub table : List Coefficients
table = coefficients_of up_to_40 ∷ coefficients_of up_to_150 ∷ coefficients_of up_to_500 ∷ coefficients_of above_500 ∷ []
