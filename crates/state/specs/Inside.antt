-- What the private functions ask and promise. Nothing public is stated by this file.
use Rattle.std.specs.Prelude.{◌≡◌, ℕ}
use Rattle.cubic.specs.Cubic.{Kind, IsKind}
use Rattle.densities.specs.Densities.{density}
use Rattle.densities.specs.Promise.{Weighable}
use Rattle.roots.specs.declared.Found.{Found}
use Rattle.replies.specs.declared.Figures.{Figures}
use Rattle.replies.specs.Figures.{answered_with}

pub record Weighty (millikelvin pascals : ℕ) (found : Found) : Type 0 where
  pub gas_fits : Weighable millikelvin pascals found.gas
  pub dense_fits : Weighable millikelvin pascals found.dense

-- the figures are these two roots, their kind and their densities
pub record Reported (found : Found) (millikelvin pascals : ℕ) (figures : Figures) : Type 0 where
  pub kind : Kind
  pub is_kind : IsKind found.gas found.dense kind
  pub is_figures : figures ≡ answered_with kind found.gas found.dense (density found.fluid millikelvin pascals found.gas) (density found.fluid millikelvin pascals found.dense)
