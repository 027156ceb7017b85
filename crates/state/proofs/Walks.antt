-- The slow way beside the quick one (docs/RULES.md, "The walk"): what `walk` tells of an accepted state, and what any other call tells of it.
-- Assumes nothing.
use mathlib.Core.Path.{◌≡◌, refl}
use Prim.Native.Nat.{ℕ, ◌≤◌, ◌<◌}
use Rattle.slow_engine.specs.Promise.{way}
use Rattle.fluid.specs.declared.choice.Fluid.{Fluid}
use Rattle.fluid.specs.declared.coefficients.Reduced.{Reduced}
use Rattle.fluid.specs.Figures.{number_of, Accepted}
use Rattle.fluid.specs.Reduced.{Reduces}
use Rattle.fluid.proofs.Accepting.{passes}
use Rattle.walks.specs.declared.replies.WalkFigures.{WalkFigures}
use Rattle.walks.specs.Checks.{GasRootByWalk}
use Rattle.walks.specs.Replies.{answered_with, refused_with, Replies}
use Rattle.walks.proofs.Theorems.{root_where_limit_suffices, limit_where_it_is_too_low}
use Rattle.replies.specs.declared.Figures.{Figures}
use Rattle.state.specs.Book.{Asked}
use Rattle.state.proofs.Theorems.{gas_root_is_reported}

module _ {fluid : Fluid} {millikelvin pascals : ℕ} {reduced : Reduced} {figures : Figures} (accepted : Accepted fluid millikelvin pascals) (reduces : Reduces fluid millikelvin pascals reduced) (asked : Asked (number_of fluid) millikelvin pascals figures) where
  by_walk : GasRootByWalk (number_of fluid) millikelvin pascals figures.gas_root (way reduced.b figures.gas_root)
  by_walk =
      record {
        reached = record { fluid = fluid; reduced = reduced };
        reaches = record { is_number = refl; reduces = reduces };
        is_gas = gas_root_is_reported accepted reduces asked;
        is_way = refl;
      }

  module _ (limit : ℕ) (walked : WalkFigures) (replies : Replies (number_of fluid) millikelvin pascals limit walked) where
    -- the walk's root is the quick engine's gas root, whatever book that call had, and its count the way to it
    pub walk_gives_the_quick_root : way reduced.b figures.gas_root ≤ limit → walked ≡ answered_with figures.gas_root (way reduced.b figures.gas_root)
    walk_gives_the_quick_root = root_where_limit_suffices (number_of fluid) millikelvin pascals limit walked replies (passes fluid refl millikelvin pascals accepted) by_walk

    -- a lower limit is told, and no root
    pub lower_limit_is_told : limit < way reduced.b figures.gas_root → walked ≡ refused_with 11 limit
    lower_limit_is_told = limit_where_it_is_too_low (number_of fluid) millikelvin pascals limit walked replies (passes fluid refl millikelvin pascals accepted) by_walk
