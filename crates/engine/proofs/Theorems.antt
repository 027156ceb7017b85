-- What `solve` promises fixes its answer. Assumes nothing.
use mathlib.Core.Path.{◌≡◌, refl, ap₂}
use Prim.Native.Nat.{ℕ}
use Rattle.std.specs.Prelude.{Option, Some, None}
use Rattle.cubic.proofs.Theorems.{gas_root_unique, dense_root_unique}
use Rattle.engine.specs.Promise.{Solves}
use Rattle.engine.specs.declared.Roots.{Roots}

-- two answers that keep what `solve` promises are equal
pub solution_determined : (a b : ℕ) (r s : Option Roots) → Solves a b r → Solves a b s → r ≡ s
solution_determined a b (Some roots) (Some other) p q =
    ap₂ (λ gas dense. Some (record { gas = gas; dense = dense })) (gas_root_unique a b p.is_gas q.is_gas) (dense_root_unique a b p.is_dense q.is_dense)
solution_determined a b (Some roots) None p q = absurd (q p.within)
solution_determined a b None (Some roots) p q = absurd (p q.within)
solution_determined a b None None p q = refl
