-- No number of a report passes its end: a section has at most a thousand states, and no gas density is above a round bound. Assumes nothing.
use mathlib.Core.List.{[]}
use Prim.Native.Nat.{ℕ, ◌≤◌}
use native.Mathlib.Omega.{arith}
use Rattle.refusals.specs.Checks.{refuses, answers}
use Rattle.refusals.proofs.Lists.{none_front}
use Rattle.fluid.specs.Checks.{state_checks}
use Rattle.fluid.proofs.Accepting.{accepts}
use Rattle.fluid.proofs.Theorems.{from_cold}
use Rattle.densities.proofs.Theorems.{density_at_most}
use Rattle.replies.specs.declared.Figures.{Figures}
use Rattle.state.specs.Replies.{Replies}
use Rattle.state.proofs.Answering.{weighty}

-- in grams per cubic metre
abbrev pub most_grams : ℕ
most_grams = 2500000000000

pub gas_density_fits : {number millikelvin pascals : ℕ} {figures : Figures} → Replies number millikelvin pascals figures → figures.gas_density ≤ most_grams
gas_density_fits (refuses refusal first zeros) = rw zeros (omega arith)
gas_density_fits {number} {millikelvin} {pascals} (answers none answer) =
    let passes = none_front (state_checks number millikelvin pascals) [] none in
    let fluid = answer.found.fluid in
    rw answer.is_figures
    (density_at_most fluid millikelvin pascals answer.found.gas
    (from_cold (accepts fluid answer.roots.is_number millikelvin pascals passes))
    (weighty number millikelvin pascals [] answer.found (none, answer.roots)).gas_fits)
