-- Two answers that keep what `density_of` promises are equal, and no density of an accepted state is above a round bound. Assumes nothing.
use mathlib.Core.Path.{◌≡◌, refl, sym, ap, ◌∙◌}
use Prim.Native.Nat.{ℕ, ◌*◌, ◌≤◌}
use native.Mathlib.Nat.{mul-le-mul, mul-le-mul_left, mul_assoc}
use native.Mathlib.Omega.{arith}
use Rattle.numbers.proofs.Quotients.{quotient_grows}
use Rattle.fluid.specs.declared.choice.Fluid.{Fluid}
use Rattle.std.specs.Prelude.{Option, Some, None}
use Rattle.fluid.proofs.Fluids.{cold}
use Rattle.densities.specs.Densities.{gas_constant, density}
use Rattle.densities.specs.Promise.{Weighable, Weighs}
use Rattle.densities.proofs.Parts.{factor_fits}

module _ (fluid : Fluid) (millikelvin pascals : ℕ) where
  pub density_determined : (root : ℕ) (r s : Option ℕ) → Weighs fluid millikelvin pascals root r → Weighs fluid millikelvin pascals root s → r ≡ s
  density_determined root (Some x) (Some y) p q = ap Some (p.is_density ∙ sym q.is_density)
  density_determined root (Some x) None p q = absurd (q p.weighable)
  density_determined root None (Some y) p q = absurd (p q.weighable)
  density_determined root None None p q = refl

  -- in grams per cubic metre, for whoever adds densities up
  pub density_at_most : (root : ℕ) → cold ≤ millikelvin → Weighable millikelvin pascals root → density fluid millikelvin pascals root ≤ 2500000000000
  unfolding density
  density_at_most root not_colder weighable =
      let at_least : cold ≤ root * millikelvin = omega (arith, mul-le-mul weighable.some_root not_colder) in
      let below : gas_constant * cold ≤ gas_constant * root * millikelvin =
      rw (mul_assoc gas_constant root millikelvin) (mul-le-mul_left gas_constant at_least) in
      let fewer = quotient_grows {d = gas_constant * cold} (omega arith) below (mul-le-mul (factor_fits fluid) weighable.pressure_fits) in
      omega (arith, fewer)
