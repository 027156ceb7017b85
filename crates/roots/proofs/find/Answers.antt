-- `roots::find` meets its contract: an accepted state is within the cubic's bounds, so it has roots. Assumes nothing.
use mathlib.Core.Path.{refl}
use Prim.Native.Nat.{ℕ}
use native.Mathlib.Omega.{arith}
use Rattle.std.specs.Prelude.{Option, Some, None}
use Rattle.std.specs.Option.{IsSome}
use Rattle.cubic.specs.Promise.{Within}
use Rattle.engine.specs.declared.Roots.{Roots}
use Rattle.engine.specs.Promise.{Solves}
use Rattle.fluid.proofs.Theorems.{coefficients_at_most}
use Rattle.roots.proofs.find.Goals as goal

solved : (a b : ℕ) (r : Option Roots) → Solves a b r → Within a b → IsSome r
solved a b (Some roots) told within = refl
solved a b None told within = absurd (told within)

pub unwrap-gas-requires : goal.unwrap-gas-requires
unwrap-gas-requires c =
    let state = c.in_ok-fluid.ensures in
    solved _ _ _ c.solve.ensures (omega (arith, coefficients_at_most _ _ _ state.0 _ state.1))
