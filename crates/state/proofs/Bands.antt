-- A band beside the state's own gas root (docs/RULES.md, "The band"), which is the one that every call tells, whatever book it had. Assumes nothing.
use mathlib.Core.Path.{◌≡◌, refl}
use Prim.Native.Nat.{ℕ, ◌≤◌}
use native.Mathlib.Omega.{arith}
use Rattle.fluid.specs.declared.choice.Fluid.{Fluid}
use Rattle.fluid.specs.declared.coefficients.Reduced.{Reduced}
use Rattle.fluid.specs.Figures.{number_of, Accepted}
use Rattle.fluid.specs.Reduced.{Reduces}
use Rattle.fluid.proofs.Accepting.{passes}
use Rattle.bands.specs.declared.replies.BandFigures.{BandFigures}
use Rattle.bands.specs.Scalings.{ScaledGasRoot}
use Rattle.bands.specs.Replies.{answered_with, Replies}
use Rattle.bands.proofs.Scaling.{scaled_by_one}
use Rattle.bands.proofs.Theorems.{ends_are_told, every_scaling_lies_between}
use Rattle.replies.specs.declared.Figures.{Figures}
use Rattle.state.specs.Book.{Asked}
use Rattle.state.proofs.Theorems.{gas_root_is_reported}

module _ {fluid : Fluid} {millikelvin pascals : ℕ} {reduced : Reduced} {figures : Figures} (accepted : Accepted fluid millikelvin pascals) (reduces : Reduces fluid millikelvin pascals reduced) (asked : Asked (number_of fluid) millikelvin pascals figures) where
  own_root : ScaledGasRoot (number_of fluid) millikelvin pascals 1000 figures.gas_root
  own_root =
      record {
        reached = record { fluid = fluid; reduced = reduced };
        reaches = record { is_number = refl; reduces = reduces };
        is_gas = rw (scaled_by_one reduced.a) (gas_root_is_reported accepted reduces asked);
      }

  -- 1000 and 1000 thousandths give the state's own gas root twice
  pub band_of_one : (band : BandFigures) → Replies (number_of fluid) millikelvin pascals 1000 1000 band → band ≡ answered_with figures.gas_root figures.gas_root
  band_of_one band replies =
      ends_are_told (number_of fluid) millikelvin pascals 1000 1000 band replies (passes fluid refl millikelvin pascals accepted) (omega arith) own_root own_root

  -- and in every band from a smaller scaling to a larger one it lies between the ends
  pub own_root_lies_between : (lower upper : ℕ) (band : BandFigures) → Replies (number_of fluid) millikelvin pascals lower upper band → band.number ≡ 0 → lower ≤ 1000 → 1000 ≤ upper → (band.at_upper ≤ figures.gas_root) × (figures.gas_root ≤ band.at_lower)
  own_root_lies_between lower upper band replies is_0 from_lower to_upper =
      every_scaling_lies_between (number_of fluid) millikelvin pascals lower upper band replies is_0 from_lower to_upper own_root
