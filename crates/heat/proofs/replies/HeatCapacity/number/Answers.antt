-- `heat::HeatCapacity::number` meets its contract, case by case. Assumes nothing.
use mathlib.Core.Path.{refl}
use Rattle.heat.proofs.replies.HeatCapacity.number.Goals as goal

pub returns-in-KilojoulesPerKilogramKelvin : goal.returns-in-KilojoulesPerKilogramKelvin
returns-in-KilojoulesPerKilogramKelvin c = rw c.in-KilojoulesPerKilogramKelvin.is refl

pub returns-in-OutOfRange : goal.returns-in-OutOfRange
returns-in-OutOfRange c = rw c.in-OutOfRange.is refl
