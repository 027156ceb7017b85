-- Two answers that keep what `find` promises are equal, and an accepted state has roots. Assumes nothing.
use mathlib.Core.Path.{◌≡◌, sym, ◌∙◌}
use mathlib.Core.List.{List}
use Prim.Native.Nat.{ℕ}
use Rattle.std.specs.Prelude.{Result}
use Rattle.refusals.specs.declared.Refusal.{Refusal}
use Rattle.refusals.specs.Checks.{Check, NoneOf, Gives}
use Rattle.refusals.specs.Numbers.{outcome}
use Rattle.refusals.proofs.Theorems.{result_once}
use Rattle.cubic.proofs.Theorems.{gas_root_unique, dense_root_unique, gas_root_exists, dense_root_exists}
use Rattle.fluid.specs.declared.choice.Fluid.{Fluid}
use Rattle.fluid.specs.Checks.{state_checks}
use Rattle.fluid.proofs.Fluids.{number_determines_fluid}
use Rattle.fluid.proofs.Theorems.{reduced_determined, reached_exists}
use Rattle.roots.specs.declared.Found.{Found}
use Rattle.roots.specs.Promise.{HasRoots, Finds}

module _ (number millikelvin pascals : ℕ) where
  made : (fluid : Fluid) (gas dense : ℕ) → Found
  made fluid gas dense = record { fluid = fluid; gas = gas; dense = dense }

  pub roots_once : (r s : Found) → HasRoots number millikelvin pascals r → HasRoots number millikelvin pascals s → r ≡ s
  unfolding made
  roots_once r s p q =
      let same_fluid : r.fluid ≡ s.fluid = number_determines_fluid r.fluid s.fluid (sym p.is_number ∙ q.is_number) in
      let same_reduced : p.reduced ≡ q.reduced = reduced_determined s.fluid millikelvin pascals p.reduced q.reduced (rw same_fluid at p.reduces) q.reduces in
      let same_gas : r.gas ≡ s.gas = gas_root_unique _ _ (rw same_reduced at p.is_gas) q.is_gas in
      let same_dense : r.dense ≡ s.dense = dense_root_unique _ _ (rw same_reduced at p.is_dense) q.is_dense in
      let fields : made r.fluid r.gas r.dense ≡ made s.fluid s.gas s.dense = cc in
      fields

  -- whatever the list of checks is
  pub finding_once : (checks : List Check) (r s : Result Found Refusal) → Gives checks (HasRoots number millikelvin pascals) (outcome r) → Gives checks (HasRoots number millikelvin pascals) (outcome s) → r ≡ s
  finding_once checks = result_once checks roots_once

  pub finding_determined : (r s : Result Found Refusal) → Finds number millikelvin pascals (outcome r) → Finds number millikelvin pascals (outcome s) → r ≡ s
  finding_determined = finding_once (state_checks number millikelvin pascals)

  -- a state to which no check applies has two roots
  pub roots_exist : NoneOf (state_checks number millikelvin pascals) → (found : Found) × HasRoots number millikelvin pascals found
  roots_exist none =
      let state = reached_exists number millikelvin pascals none in
      let reduced = state.0.reduced in
      let gas = gas_root_exists reduced.a reduced.b in
      let dense = dense_root_exists reduced.a reduced.b in (
        record { fluid = state.0.fluid; gas = gas.0; dense = dense.0 },
        record { is_number = state.1.is_number; reduced = reduced; reduces = state.1.reduces; is_gas = gas.1; is_dense = dense.1 },
      )
