-- What the private functions promise. Nothing public is stated by this file.
use Rattle.std.specs.Prelude.{◌≡◌, Float}
use Rattle.heat.specs.declared.table.Coefficients.{Coefficients}
use Rattle.heat.specs.Printed.{Range}
use Rattle.heat.specs.Table.{Holds, coefficients_of}

pub record RowFor (kelvin : Float) (coefficients : Coefficients) : Type 0 where
  pub range : Range
  pub holds : Holds range kelvin
  pub is_row : coefficients ≡ coefficients_of range
