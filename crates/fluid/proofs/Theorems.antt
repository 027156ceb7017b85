-- What is proved of the definitions of `specs/`, beside what each call promises: which numbers are fluids', the bounds of a and b over every
-- accepted state and of the molar masses, and that each promise fixes its answer. Assumes nothing.
use mathlib.Core.Path.{◌≡◌, refl, sym, ap₂, ◌∙◌}
use mathlib.Core.Logic.{⊎_elim}
use Prim.Native.Nat.{ℕ, ◌*◌, ◌/◌, ◌≤◌, ◌<◌}
use native.Mathlib.Omega.{arith}
use Rattle.fluid.specs.declared.choice.Fluid.{Fluid}
use Rattle.fluid.specs.declared.coefficients.Reached.{Reached}
use Rattle.fluid.specs.declared.coefficients.Reduced.{Reduced}
use Rattle.fluid.specs.Figures.{number_of, molar_mass, critical_millikelvin, Accepted}
use Rattle.squares.proofs.Theorems.{square_root_determined, square_root_exists}
use Rattle.fluid.specs.Reduced.{Reduces}
use Rattle.fluid.specs.Checks.{fluid_checks, state_checks}
use Rattle.fluid.specs.Promise.{Numbers, Reaches, ReducesTo}
use Rattle.std.specs.Prelude.{Result}
use Rattle.refusals.specs.declared.Refusal.{Refusal}
use Rattle.refusals.specs.Checks.{NoneOf}
use Rattle.refusals.specs.Numbers.{outcome}
use Rattle.refusals.proofs.Theorems.{result_once}
use Rattle.fluid.proofs.Fluids.{heaviest, cold, fits, fluid_of, number_of_fluid, number_determines_fluid, no_fluid}
use Rattle.fluid.proofs.Accepting.{accepts, fluid_or_none}
use Rattle.fluid.proofs.Ranges.{Bounds, spanned, bounds}

-- a number is a fluid's exactly up to 2, and 1 is told of any other
pub fluid_up_to_two : (number : ℕ) → number ≤ 2 → (fluid : Fluid) × (number ≡ number_of fluid)
fluid_up_to_two number few = (fluid_of number, number_of_fluid number few)

pub no_fluid_above_two : (number : ℕ) → 2 < number → (fluid : Fluid) → number ≡ number_of fluid → ⊥
no_fluid_above_two number = no_fluid

pub molar_mass_at_most : (fluid : Fluid) → molar_mass fluid ≤ heaviest
molar_mass_at_most fluid = (fits fluid).mass_fits

-- two answers that keep what `molar_mass` promises are equal
pub molar_mass_determined : (fluid : Fluid) {r s : ℕ} → r ≡ molar_mass fluid → s ≡ molar_mass fluid → r ≡ s
molar_mass_determined fluid p q = p ∙ sym q

pub from_cold : {fluid : Fluid} {millikelvin pascals : ℕ} → Accepted fluid millikelvin pascals → cold ≤ millikelvin
from_cold {fluid} accepted = omega (arith, (fits fluid).from_cold)

pub some_temperature : {fluid : Fluid} {millikelvin pascals : ℕ} → Accepted fluid millikelvin pascals → 0 < millikelvin
some_temperature accepted = omega (arith, from_cold accepted)

module _ {fluid : Fluid} {millikelvin pascals : ℕ} {reduced : Reduced} (accepted : Accepted fluid millikelvin pascals) (reduces : Reduces fluid millikelvin pascals reduced) where
  within : Bounds reduced.t reduced.p reduced.s
  within =
      rw (reduces.is_t, reduces.is_p) (bounds (spanned fluid millikelvin pascals accepted) (rw reduces.is_t at reduces.is_s))

  pub a_at_most : reduced.a ≤ 11500000
  a_at_most = omega (arith, within)

  pub b_at_least_one : 1 ≤ reduced.b
  b_at_least_one = omega (arith, within)

  pub b_at_most : reduced.b ≤ 1000000
  b_at_most = omega (arith, within)

made : (t p s a b : ℕ) → Reduced
made t p s a b = record { t = t; p = p; s = s; a = a; b = b }

module _ (fluid : Fluid) (millikelvin pascals : ℕ) where
  pub reduced_determined : (r s : Reduced) → Reduces fluid millikelvin pascals r → Reduces fluid millikelvin pascals s → r ≡ s
  unfolding made
  reduced_determined r s p q =
      let same_t : r.t ≡ s.t = p.is_t ∙ sym q.is_t in
      let same_p : r.p ≡ s.p = p.is_p ∙ sym q.is_p in
      let same_s : r.s ≡ s.s = square_root_determined (rw same_t at p.is_s) q.is_s in
      let same_a : r.a ≡ s.a = cc in
      let same_b : r.b ≡ s.b = cc in
      let fields : made r.t r.p r.s r.a r.b ≡ made s.t s.p s.s s.a s.b = cc in
      fields

-- two answers that keep what the number of a fluid promises are equal
pub numbered_determined : (number : ℕ) (r s : Result Fluid Refusal) → Numbers number (outcome r) → Numbers number (outcome s) → r ≡ s
numbered_determined number = result_once (fluid_checks number) (λ f g p q. number_determines_fluid f g (sym p ∙ q))

-- and what `reduce` promises
module _ (number millikelvin pascals : ℕ) where
  pub reached_once : (r s : Reached) → Reaches number millikelvin pascals r → Reaches number millikelvin pascals s → r ≡ s
  reached_once r s p q =
      let same_fluid : r.fluid ≡ s.fluid = number_determines_fluid r.fluid s.fluid (sym p.is_number ∙ q.is_number) in
      let same_reduced : r.reduced ≡ s.reduced = reduced_determined s.fluid millikelvin pascals r.reduced s.reduced (rw same_fluid at p.reduces) q.reduces in
      ap₂ (λ (fluid : Fluid) (reduced : Reduced). record { fluid = fluid; reduced = reduced }) same_fluid same_reduced

  pub reduction_determined : (r s : Result Reached Refusal) → ReducesTo number millikelvin pascals (outcome r) → ReducesTo number millikelvin pascals (outcome s) → r ≡ s
  reduction_determined = result_once (state_checks number millikelvin pascals) reached_once

-- every state comes to one t, p, s, a and b, in range or not
pub reduced_exists : (fluid : Fluid) (millikelvin pascals : ℕ) → (reduced : Reduced) × Reduces fluid millikelvin pascals reduced
reduced_exists fluid millikelvin pascals =
    let t = 10000 * millikelvin / critical_millikelvin fluid millikelvin in
    let root = square_root_exists (10000 * t) in (
      record { t = t; p = _; s = root.0; a = _; b = _ },
      record { is_t = refl; is_p = refl; is_s = root.1; is_a = refl; is_b = refl },
    )

-- A state that is not refused comes to a fluid and its coefficients, and these are bounded.
module _ (number millikelvin pascals : ℕ) (none : NoneOf (state_checks number millikelvin pascals)) where
  pub reached_exists : (reached : Reached) × Reaches number millikelvin pascals reached
  reached_exists = ⊎_elim of_known (λ unknown. absurd (none.0 unknown)) (fluid_or_none number)
    where
      of_known : (fluid : Fluid) × (number ≡ number_of fluid) → (reached : Reached) × Reaches number millikelvin pascals reached
      of_known known =
          let reduced = reduced_exists known.0 millikelvin pascals in
          (record { fluid = known.0; reduced = reduced.0 }, record { is_number = known.1; reduces = reduced.1 })

  pub coefficients_at_most : (reached : Reached) → Reaches number millikelvin pascals reached → (reached.reduced.a ≤ 11500000) × (reached.reduced.b ≤ 1000000)
  coefficients_at_most reached reaches =
      let accepted = accepts reached.fluid reaches.is_number millikelvin pascals none in
      (a_at_most accepted reaches.reduces, b_at_most accepted reaches.reduces)
